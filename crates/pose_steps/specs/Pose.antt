-- The steps read in floats: a move's pose at dt, `Pose-matrix`, and a point that it moves, `Pose-moved_point`, stage by stage and in sequence. Definitions only.
-- What is judged is what document 01 calls finished: the quaternion, the scale, the matrices, the products and the moved point; one that isn't finite is 5.
-- cos_theta, theta and the kind, rigid or not, are the move's constants, worked out once (`PoseConstants-new`).
use Rattle.std.specs.Prelude.{Bool, true, false, ◌&&◌, cond, List, [], ◌∷◌, ◌++◌, eqb, Float, Ok, Err}
use Rattle.std.specs.Float.Ieee.{lt, neg}
use Rattle.matrix4x4.specs.float32.Operators.{one}
use Rattle.matrix4x4.specs.float32.Clamp.{clamp}
use Rattle.quaternion.specs.arc_cosine.Acos.{acos}
use Rattle.vector3.specs.declared.Vector3f.{Vector3f}
use Rattle.quaternion.specs.declared.Quaternion.{Quaternion}
use Rattle.quaternion.specs.Quaternion.{Quaternion-dot}
use Rattle.quaternion.specs.Slerp.{slerp_threshold}
use Rattle.quaternion.specs.IsFinite.{Quaternion-is_finite}
use Rattle.matrix4x4.specs.declared.Matrix4x4.{Matrix4x4}
use Rattle.matrix4x4.specs.Rows.{Row, col, tabulate, Matrix4x4-to_rows, positive_zero, Matrix4x4-zero}
use Rattle.matrix4x4.specs.IsFinite.{Matrix4x4-is_finite}
use Rattle.matrix4x4.specs.IsAffine.{bottom_row}
use Rattle.rotation.specs.bounds3.declared.Point3f.{Point3f}
use Rattle.rotation.specs.bounds3.List.{Point3f-list, Point3f-of_list}
use Rattle.rotation.specs.bounds3.Finite.{Point3f-is_finite}
use Rattle.rotation.specs.transform.Transform.{translation}
use Rattle.rotation.specs.transform.Answer.{PointAnswer}
use Rattle.formula.specs.Eval.{Program-eval}
use Rattle.pose_steps.specs.declared.PoseConstants.{PoseConstants}
use Rattle.pose_steps.specs.declared.PoseAnswer.{PoseAnswer}
use Rattle.pose_steps.specs.Stages.{translation_stage, slerp_near_stage, slerp_far_stage, scale_row_stage, rotation_stage, mul_row_stage, transform_point_stage}

-- ---- structs as lists of floats, and back
abbrev pub Vector3f-list : Vector3f → List Float
Vector3f-list v = v.x ∷ v.y ∷ v.z ∷ []

abbrev pub Vector3f-of_list : List Float → Vector3f
Vector3f-of_list l = record { x = col l 0; y = col l 1; z = col l 2 }

abbrev pub Quaternion-list : Quaternion → List Float
Quaternion-list q = q.v.x ∷ q.v.y ∷ q.v.z ∷ q.w ∷ []

abbrev pub Quaternion-of_list : List Float → Quaternion
Quaternion-of_list l = record { v = Vector3f-of_list l; w = col l 3 }

-- The first three entries of a row, and all four.
abbrev pub three : Row → List Float
three r = col r 0 ∷ col r 1 ∷ col r 2 ∷ []

abbrev pub entries : Row → List Float
entries r = tabulate (col r)

-- The three upper rows.
abbrev pub Matrix4x4-list : Matrix4x4 → List Float
Matrix4x4-list m = entries m.r0 ++ entries m.r1 ++ entries m.r2

abbrev pub Matrix4x4-of_list : List Float → Matrix4x4
Matrix4x4-of_list l =
    record {
      r0 = col l 0 ∷ col l 1 ∷ col l 2 ∷ col l 3 ∷ [];
      r1 = col l 4 ∷ col l 5 ∷ col l 6 ∷ col l 7 ∷ [];
      r2 = col l 8 ∷ col l 9 ∷ col l 10 ∷ col l 11 ∷ [];
      r3 = bottom_row;
    }

-- ---- the stages
unfoldable pub Pose-translation : Vector3f → Vector3f → Float → Vector3f
Pose-translation t0 t1 dt = Vector3f-of_list (Program-eval (Vector3f-list t0 ++ Vector3f-list t1 ++ dt ∷ []) translation_stage)

unfoldable pub Pose-slerp_near : Quaternion → Quaternion → Float → Quaternion
Pose-slerp_near q1 q2 t = Quaternion-of_list (Program-eval (Quaternion-list q1 ++ Quaternion-list q2 ++ t ∷ []) slerp_near_stage)

unfoldable pub Pose-slerp_far : Quaternion → Quaternion → Float → Float → Float → Quaternion
Pose-slerp_far q1 q2 cosθ θ t = Quaternion-of_list (Program-eval (Quaternion-list q1 ++ Quaternion-list q2 ++ cosθ ∷ θ ∷ t ∷ []) slerp_far_stage)

-- `slerp`: let cos_theta = q1.dot(q2) and let theta = clamp(cos_theta, -1.0, 1.0).acos()
unfoldable pub PoseConstants-new : Bool → Vector3f → Vector3f → Quaternion → Quaternion → PoseConstants
PoseConstants-new rigid t0 t1 r0 r1 =
    let cosθ = Quaternion-dot r0 r1 in
    record { t0 = t0; t1 = t1; r0 = r0; r1 = r1; cos_theta = cosθ; theta = acos (clamp cosθ (neg one) one); rigid = rigid }

-- A match and no `cond`, so that only the case that holds is computed.
unfoldable pub slerp_by : Bool → PoseConstants → Float → Quaternion
slerp_by true a t = Pose-slerp_near a.r0 a.r1 t
slerp_by false a t = Pose-slerp_far a.r0 a.r1 a.cos_theta a.theta t

-- linear exactly when cos_theta > 0.9995
abbrev pub is_near : PoseConstants → Bool
is_near a = lt slerp_threshold a.cos_theta

unfoldable pub Pose-slerp : PoseConstants → Float → Quaternion
Pose-slerp a t = slerp_by (is_near a) a t

unfoldable pub Pose-scale_row : Row → Row → Float → Row
Pose-scale_row s0 s1 dt = Program-eval (three s0 ++ three s1 ++ dt ∷ []) scale_row_stage

unfoldable pub Pose-scale : Matrix4x4 → Matrix4x4 → Float → Matrix4x4
Pose-scale s0 s1 dt =
    record {
      r0 = Pose-scale_row s0.r0 s1.r0 dt;
      r1 = Pose-scale_row s0.r1 s1.r1 dt;
      r2 = Pose-scale_row s0.r2 s1.r2 dt;
      r3 = bottom_row;
    }

abbrev pub Matrix4x4-identity : Matrix4x4
Matrix4x4-identity = translation positive_zero positive_zero positive_zero

-- document 02, Rigid booms: "Between poses a rigid move puts the identity in place of the interpolated S"
unfoldable pub Pose-scale_by : Bool → Matrix4x4 → Matrix4x4 → Float → Matrix4x4
Pose-scale_by true s0 s1 dt = Matrix4x4-identity
Pose-scale_by false s0 s1 dt = Pose-scale s0 s1 dt

unfoldable pub Pose-rotation : Quaternion → Matrix4x4
Pose-rotation q = Matrix4x4-of_list (Program-eval (Quaternion-list q) rotation_stage)

unfoldable pub Pose-mul_row : Row → Matrix4x4 → Row
Pose-mul_row a b = Program-eval (entries a ++ Matrix4x4-list b) mul_row_stage

unfoldable pub Pose-mul : Matrix4x4 → Matrix4x4 → Matrix4x4
Pose-mul a b = record { r0 = Pose-mul_row a.r0 b; r1 = Pose-mul_row a.r1 b; r2 = Pose-mul_row a.r2 b; r3 = bottom_row }

unfoldable pub Pose-transform_point : Matrix4x4 → Point3f → Point3f
Pose-transform_point m p = Point3f-of_list (Program-eval (Matrix4x4-list m ++ Point3f-list p) transform_point_stage)

-- ---- in sequence
abbrev pub all_finite : Matrix4x4 → Bool
all_finite m = Matrix4x4-is_finite (Matrix4x4-to_rows m)

-- The number beside the matrix, which is +0 throughout where it is refused.
unfoldable pub PoseAnswer-judged : Bool → Matrix4x4 → PoseAnswer
PoseAnswer-judged true m = record { m = m; refusal = 0 }
PoseAnswer-judged false m = record { m = Matrix4x4-zero; refusal = 5 }

-- `interpolate`, matrix half: Transform::translate(&trans) * rotate.into() * Transform::from_matrix(&scale)
unfoldable pub Pose-matrix : PoseConstants → Matrix4x4 → Matrix4x4 → Float → PoseAnswer
Pose-matrix a s0 s1 dt =
    let trans = Pose-translation a.t0 a.t1 dt in
    let rotate = Pose-slerp a dt in
    let scale = Pose-scale_by a.rigid s0 s1 dt in
    let translate = translation trans.x trans.y trans.z in
    let rotation = Pose-rotation rotate in
    let first = Pose-mul translate rotation in
    let last = Pose-mul first scale in
    PoseAnswer-judged (Quaternion-is_finite rotate && all_finite scale && all_finite translate && all_finite rotation && all_finite first && all_finite last) last

-- `transform_point` between the two poses
unfoldable pub Pose-moved_point : PoseConstants → Matrix4x4 → Matrix4x4 → Float → Point3f → PointAnswer
Pose-moved_point a s0 s1 dt p =
    let pose = Pose-matrix a s0 s1 dt in
    let q = Pose-transform_point pose.m p in
    cond (eqb pose.refusal 0 && Point3f-is_finite q) (Ok q) (Err 5)
