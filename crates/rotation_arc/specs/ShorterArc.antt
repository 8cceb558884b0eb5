-- The shorter arc between the rotations of two poses: a quaternion and its negative are one rotation, and the one nearer to the start's is taken.
-- Definitions only.
use Rattle.std.specs.Prelude.{ℕ, ◌&&◌, cond, Float}
use Rattle.std.specs.Float.Ieee.{lt}
use Rattle.std.specs.Float.Ieee.Scale.{finite}
use Rattle.quaternion.specs.declared.Quaternion.{Quaternion}
use Rattle.quaternion.specs.Quaternion.{Quaternion-dot, Quaternion-neg}
use Rattle.matrix4x4.specs.Rows.{positive_zero}

-- `if res.r[0].dot(&res.r[1]) < 0.0 { res.r[1] = -res.r[1]; }`
unfoldable pub flip : Quaternion → Quaternion → Quaternion
flip r0 r1 = cond (lt (Quaternion-dot r0 r1) positive_zero) (Quaternion-neg r1) r1

-- document 01, Refusals, 5: a finished "dot product of a move's two quaternions .. holds a value that isn't finite", before and after the flip
unfoldable pub dots_refusal : Float → Float → ℕ
dots_refusal before after = cond (finite before && finite after) 0 5
