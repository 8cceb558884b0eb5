-- pbrt's operations on quaternions: the vector v and the scalar w are worked apart. Definitions only.
use Rattle.std.specs.Prelude.{Float}
use Rattle.std.specs.Float.{binary32}
use Rattle.std.specs.Float.Ieee.{neg}
use Rattle.float32.specs.Operators.{◌⊕◌, ◌⊖◌, ◌⊗◌, ◌⊘◌}
use Rattle.vector3.specs.Vector.{Vector3f-dot, Vector3f-div, Vector3f-add, Vector3f-sub, Vector3f-mul, Vector3f-neg}
use Rattle.square_root.specs.SquareRoot.{sqrt}
use Rattle.quaternion.specs.declared.Quaternion.{Quaternion}

-- `Quaternion::dot`
unfoldable pub Quaternion-dot : Quaternion → Quaternion → Float
Quaternion-dot q r = Vector3f-dot q.v r.v ⊕ q.w ⊗ r.w

-- `Add`, `Sub`, `Neg`, `Mul<Float>` and `Div<Float>` for Quaternion
unfoldable pub Quaternion-add : Quaternion → Quaternion → Quaternion
Quaternion-add q r = record { v = Vector3f-add q.v r.v; w = q.w ⊕ r.w }

unfoldable pub Quaternion-sub : Quaternion → Quaternion → Quaternion
Quaternion-sub q r = record { v = Vector3f-sub q.v r.v; w = q.w ⊖ r.w }

unfoldable pub Quaternion-neg : Quaternion → Quaternion
Quaternion-neg q = record { v = Vector3f-neg q.v; w = neg q.w }

unfoldable pub Quaternion-mul : Quaternion → Float → Quaternion
Quaternion-mul q f = record { v = Vector3f-mul q.v f; w = q.w ⊗ f }

unfoldable pub Quaternion-div : Quaternion → Float → Quaternion
Quaternion-div q f = record { v = Vector3f-div q.v f; w = q.w ⊘ f }

-- `Quaternion::normalize`
unfoldable pub Quaternion-normalize : Quaternion → Quaternion
Quaternion-normalize q = Quaternion-div q (sqrt binary32 (Quaternion-dot q q))
