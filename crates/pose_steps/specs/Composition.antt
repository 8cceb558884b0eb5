-- The last line of pbrt's `interpolate`, Transform::translate(&trans) * rotate.into() * Transform::from_matrix(&scale), as the definitions of vectors,
-- quaternions, matrices and transforms have it. The formulas give its bits (`matrix-composition`, `point-composition`). Definitions only.
use Rattle.std.specs.Prelude.{Bool, true, false, ◌&&◌, cond, ltb, eqb, Float}
use Rattle.matrix4x4.specs.float32.Operators.{◌⊖◌, one}
use Rattle.matrix4x4.specs.float32.Lerp.{lerp}
use Rattle.vector3.specs.declared.Vector3f.{Vector3f}
use Rattle.vector3.specs.Vector.{Vector3f-add, Vector3f-mul}
use Rattle.matrix4x4.specs.Rows.{Rows, at, tabulate, positive_zero}
use Rattle.quaternion.specs.declared.Quaternion.{Quaternion}
use Rattle.quaternion.specs.Slerp.{Quaternion-slerp}
use Rattle.rotation.specs.transform.declared.Transform.{Transform}
use Rattle.rotation.specs.transform.Transform.{Transform-translate, Transform-mul}
use Rattle.rotation.specs.FromQuaternion.{Transform-from_quaternion}

-- let trans = self.t[0] * (1.0 - dt) + self.t[1] * dt
abbrev pub lerp_translation : Vector3f → Vector3f → Float → Vector3f
lerp_translation t0 t1 dt = Vector3f-add (Vector3f-mul t0 (one ⊖ dt)) (Vector3f-mul t1 dt)

-- let mut scale = Matrix4x4::default(); for i in 0..3 { for j in 0..3 { scale.m[i][j] = lerp(dt, self.s[0].m[i][j], self.s[1].m[i][j]); } }
abbrev pub lerp_scale : Rows → Rows → Float → Rows
lerp_scale s0 s1 dt = tabulate (λ i. tabulate (λ j. cond (ltb i 3 && ltb j 3) (lerp dt (at s0 i j) (at s1 i j)) (cond (eqb i j) one positive_zero)))

-- document 02, Rigid booms: "Between poses a rigid move puts the identity in place of the interpolated S"
unfoldable pub lerp_scale_by : Bool → Rows → Rows → Float → Rows
lerp_scale_by true s0 s1 dt = tabulate (λ i. tabulate (λ j. cond (eqb i j) one positive_zero))
lerp_scale_by false s0 s1 dt = lerp_scale s0 s1 dt

-- S stands for Transform::from_matrix(&scale), whose inverse half is of no account for a point.
unfoldable pub composition : Vector3f → Vector3f → Quaternion → Quaternion → Transform → Float → Transform
composition t0 t1 r0 r1 S dt =
    Transform-mul (Transform-mul (Transform-translate (lerp_translation t0 t1 dt)) (Transform-from_quaternion (Quaternion-slerp r0 r1 dt))) S
