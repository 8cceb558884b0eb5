-- The steps read in intervals: the slice of a move over any interval of dt, `Pose-enclose_matrix`, and of a box of points, `Pose-enclose_point`.
-- Definitions only. Every interval is judged as it is formed, and the first number met is carried along. A slice works translation, slerp,
-- scale, rotation, product, product, moved point. The move's constants have equal ends (`IntervalVector-point` and its like).
use Rattle.std.specs.Prelude.{ℕ, Bool, true, false, List, [], ◌∷◌, ◌++◌, get_or}
use Rattle.matrix4x4.specs.float32.Operators.{one}
use Rattle.vector3.specs.declared.Vector3f.{Vector3f}
use Rattle.quaternion.specs.declared.Quaternion.{Quaternion}
use Rattle.matrix4x4.specs.declared.Matrix4x4.{Matrix4x4}
use Rattle.matrix4x4.specs.Rows.{Row, col, positive_zero}
use Rattle.rotation.specs.bounds3.declared.Bounds3f.{Bounds3f}
use Rattle.interval.specs.declared.Interval.{Interval}
use Rattle.interval.specs.Interval.{Interval-point}
use Rattle.formula.specs.Enclose.{Enclosure, enclosure, unbound, Program-enclose}
use Rattle.pose_steps.specs.declared.PoseConstants.{PoseConstants}
use Rattle.pose_steps.specs.declared.IntervalVector.{IntervalVector}
use Rattle.pose_steps.specs.declared.IntervalQuaternion.{IntervalQuaternion}
use Rattle.pose_steps.specs.declared.IntervalRow.{IntervalRow}
use Rattle.pose_steps.specs.declared.IntervalMatrix.{IntervalMatrix}
use Rattle.pose_steps.specs.Judged.{JudgedVector}
use Rattle.pose_steps.specs.Judged.{JudgedQuaternion}
use Rattle.pose_steps.specs.Judged.{JudgedRow}
use Rattle.pose_steps.specs.Judged.{JudgedMatrix}
use Rattle.pose_steps.specs.Stages.{translation_stage, slerp_near_stage, slerp_far_stage, scale_row_stage, rotation_stage, mul_row_stage, transform_point_stage}
use Rattle.pose_steps.specs.Pose.{is_near, Matrix4x4-identity}

-- ---- structs as lists of intervals, and back
abbrev pub IntervalVector-list : IntervalVector → List Interval
IntervalVector-list v = v.x ∷ v.y ∷ v.z ∷ []

abbrev pub IntervalQuaternion-list : IntervalQuaternion → List Interval
IntervalQuaternion-list q = q.x ∷ q.y ∷ q.z ∷ q.w ∷ []

abbrev pub IntervalRow-list : IntervalRow → List Interval
IntervalRow-list r = r.c0 ∷ r.c1 ∷ r.c2 ∷ r.c3 ∷ []

-- The first three intervals of a row.
abbrev pub IntervalRow-three : IntervalRow → List Interval
IntervalRow-three r = r.c0 ∷ r.c1 ∷ r.c2 ∷ []

abbrev pub IntervalMatrix-list : IntervalMatrix → List Interval
IntervalMatrix-list m = IntervalRow-list m.r0 ++ IntervalRow-list m.r1 ++ IntervalRow-list m.r2

abbrev pub at : Enclosure → ℕ → Interval
at c i = get_or c.intervals i unbound

abbrev pub JudgedVector-of : Enclosure → JudgedVector
JudgedVector-of c = record { vector = record { x = at c 0; y = at c 1; z = at c 2 }; refusal = c.refusal }

abbrev pub JudgedQuaternion-of : Enclosure → JudgedQuaternion
JudgedQuaternion-of c = record { quaternion = record { x = at c 0; y = at c 1; z = at c 2; w = at c 3 }; refusal = c.refusal }

abbrev pub JudgedRow-of : Enclosure → JudgedRow
JudgedRow-of c = record { row = record { c0 = at c 0; c1 = at c 1; c2 = at c 2; c3 = at c 3 }; refusal = c.refusal }

abbrev pub JudgedMatrix-of : Enclosure → JudgedMatrix
JudgedMatrix-of c =
    record {
      matrix = record {
        r0 = record { c0 = at c 0; c1 = at c 1; c2 = at c 2; c3 = at c 3 };
        r1 = record { c0 = at c 4; c1 = at c 5; c2 = at c 6; c3 = at c 7 };
        r2 = record { c0 = at c 8; c1 = at c 9; c2 = at c 10; c3 = at c 11 };
      };
      refusal = c.refusal;
    }

-- ---- numbers with equal ends
abbrev pub IntervalVector-point : Vector3f → IntervalVector
IntervalVector-point v = record { x = Interval-point v.x; y = Interval-point v.y; z = Interval-point v.z }

abbrev pub IntervalQuaternion-point : Quaternion → IntervalQuaternion
IntervalQuaternion-point q =
    record { x = Interval-point q.v.x; y = Interval-point q.v.y; z = Interval-point q.v.z; w = Interval-point q.w }

abbrev pub IntervalRow-point : Row → IntervalRow
IntervalRow-point r = record { c0 = Interval-point (col r 0); c1 = Interval-point (col r 1); c2 = Interval-point (col r 2); c3 = Interval-point (col r 3) }

abbrev pub IntervalMatrix-point : Matrix4x4 → IntervalMatrix
IntervalMatrix-point m = record { r0 = IntervalRow-point m.r0; r1 = IntervalRow-point m.r1; r2 = IntervalRow-point m.r2 }

-- ---- the stages, with the names of `Pose-translation` and its like; `met` is the number met before
unfoldable pub Pose-enclose_translation : ℕ → IntervalVector → IntervalVector → Interval → JudgedVector
Pose-enclose_translation met t0 t1 dt =
    JudgedVector-of (Program-enclose (enclosure met (IntervalVector-list t0 ++ IntervalVector-list t1 ++ dt ∷ [])) translation_stage)

unfoldable pub Pose-enclose_slerp_near : ℕ → IntervalQuaternion → IntervalQuaternion → Interval → JudgedQuaternion
Pose-enclose_slerp_near met q1 q2 t =
    JudgedQuaternion-of (Program-enclose (enclosure met (IntervalQuaternion-list q1 ++ IntervalQuaternion-list q2 ++ t ∷ [])) slerp_near_stage)

unfoldable pub Pose-enclose_slerp_far : ℕ → IntervalQuaternion → IntervalQuaternion → Interval → Interval → Interval → JudgedQuaternion
Pose-enclose_slerp_far met q1 q2 cosθ θ t =
    JudgedQuaternion-of (Program-enclose (enclosure met (IntervalQuaternion-list q1 ++ IntervalQuaternion-list q2 ++ cosθ ∷ θ ∷ t ∷ [])) slerp_far_stage)

unfoldable pub enclose_slerp_by : Bool → ℕ → PoseConstants → Interval → JudgedQuaternion
enclose_slerp_by true met a t = Pose-enclose_slerp_near met (IntervalQuaternion-point a.r0) (IntervalQuaternion-point a.r1) t
enclose_slerp_by false met a t =
    Pose-enclose_slerp_far met (IntervalQuaternion-point a.r0) (IntervalQuaternion-point a.r1) (Interval-point a.cos_theta)
    (Interval-point a.theta) t

unfoldable pub Pose-enclose_slerp : ℕ → PoseConstants → Interval → JudgedQuaternion
Pose-enclose_slerp met a t = enclose_slerp_by (is_near a) met a t

unfoldable pub Pose-enclose_scale_row : ℕ → IntervalRow → IntervalRow → Interval → JudgedRow
Pose-enclose_scale_row met s0 s1 dt = JudgedRow-of (Program-enclose (enclosure met (IntervalRow-three s0 ++ IntervalRow-three s1 ++ dt ∷ [])) scale_row_stage)

-- Three rows in turn, the number handed from row to row.
abbrev pub JudgedMatrix-rows : JudgedRow → JudgedRow → JudgedRow → JudgedMatrix
JudgedMatrix-rows p q r = record { matrix = record { r0 = p.row; r1 = q.row; r2 = r.row }; refusal = r.refusal }

unfoldable pub Pose-enclose_scale : ℕ → IntervalMatrix → IntervalMatrix → Interval → JudgedMatrix
Pose-enclose_scale met s0 s1 dt =
    let p = Pose-enclose_scale_row met s0.r0 s1.r0 dt in
    let q = Pose-enclose_scale_row p.refusal s0.r1 s1.r1 dt in
    let r = Pose-enclose_scale_row q.refusal s0.r2 s1.r2 dt in
    JudgedMatrix-rows p q r

-- document 02, Rigid booms: the identity in place of S "with equal ends in a cover"; nothing is judged of it
unfoldable pub enclose_scale_by : Bool → ℕ → Matrix4x4 → Matrix4x4 → Interval → JudgedMatrix
enclose_scale_by true met s0 s1 dt = record { matrix = IntervalMatrix-point Matrix4x4-identity; refusal = met }
enclose_scale_by false met s0 s1 dt = Pose-enclose_scale met (IntervalMatrix-point s0) (IntervalMatrix-point s1) dt

unfoldable pub Pose-enclose_rotation : ℕ → IntervalQuaternion → JudgedMatrix
Pose-enclose_rotation met q = JudgedMatrix-of (Program-enclose (enclosure met (IntervalQuaternion-list q)) rotation_stage)

unfoldable pub Pose-enclose_mul_row : ℕ → IntervalRow → IntervalMatrix → JudgedRow
Pose-enclose_mul_row met a b = JudgedRow-of (Program-enclose (enclosure met (IntervalRow-list a ++ IntervalMatrix-list b)) mul_row_stage)

unfoldable pub Pose-enclose_mul : ℕ → IntervalMatrix → IntervalMatrix → JudgedMatrix
Pose-enclose_mul met a b =
    let p = Pose-enclose_mul_row met a.r0 b in
    let q = Pose-enclose_mul_row p.refusal a.r1 b in
    let r = Pose-enclose_mul_row q.refusal a.r2 b in
    JudgedMatrix-rows p q r

unfoldable pub Pose-enclose_transform_point : ℕ → IntervalMatrix → IntervalVector → JudgedVector
Pose-enclose_transform_point met a p = JudgedVector-of (Program-enclose (enclosure met (IntervalMatrix-list a ++ IntervalVector-list p)) transform_point_stage)

-- ---- in sequence
-- The matrix that adds an interval vector to a point.
abbrev pub IntervalMatrix-translation : IntervalVector → IntervalMatrix
IntervalMatrix-translation v =
    let 𝟎 : Interval = Interval-point positive_zero in
    let 𝟏 : Interval = Interval-point one in
    record {
      r0 = record { c0 = 𝟏; c1 = 𝟎; c2 = 𝟎; c3 = v.x };
      r1 = record { c0 = 𝟎; c1 = 𝟏; c2 = 𝟎; c3 = v.y };
      r2 = record { c0 = 𝟎; c1 = 𝟎; c2 = 𝟏; c3 = v.z };
    }

-- What follows once translation and rotation are known: the scale, the rotation's matrix, both products.
abbrev pub Pose-enclose_composition : Bool → IntervalVector → JudgedQuaternion → Matrix4x4 → Matrix4x4 → Interval → JudgedMatrix
Pose-enclose_composition rigid trans rotate s0 s1 dt =
    let scale = enclose_scale_by rigid rotate.refusal s0 s1 dt in
    let rotation = Pose-enclose_rotation scale.refusal rotate.quaternion in
    let first = Pose-enclose_mul rotation.refusal (IntervalMatrix-translation trans) rotation.matrix in
    Pose-enclose_mul first.refusal first.matrix scale.matrix

-- document 01, Cover: "In a slice the steps of `interpolate` and `transform_point` are done in the Rust's order with each number an interval"
unfoldable pub Pose-enclose_matrix : PoseConstants → Matrix4x4 → Matrix4x4 → Interval → JudgedMatrix
Pose-enclose_matrix a s0 s1 dt =
    let trans = Pose-enclose_translation 0 (IntervalVector-point a.t0) (IntervalVector-point a.t1) dt in
    let rotate = Pose-enclose_slerp trans.refusal a dt in
    Pose-enclose_composition a.rigid trans.vector rotate s0 s1 dt

-- The box that a box p of points is moved to.
unfoldable pub Pose-enclose_point : PoseConstants → Matrix4x4 → Matrix4x4 → Interval → IntervalVector → JudgedVector
Pose-enclose_point a s0 s1 dt p =
    let pose = Pose-enclose_matrix a s0 s1 dt in
    Pose-enclose_transform_point pose.refusal pose.matrix p

-- ---- a box as three intervals, and back
abbrev pub Bounds3f-intervals : Bounds3f → IntervalVector
Bounds3f-intervals b =
    let l = b.p_min in
    let h = b.p_max in
    record {
      x = record { low = l.x; high = h.x };
      y = record { low = l.y; high = h.y };
      z = record { low = l.z; high = h.z };
    }

abbrev pub IntervalVector-bounds : IntervalVector → Bounds3f
IntervalVector-bounds w =
    record {
      p_min = record { x = w.x.low; y = w.y.low; z = w.z.low };
      p_max = record { x = w.x.high; y = w.y.high; z = w.z.high };
    }
