-- 12 where a time and the end times in the blocks after it don't rise strictly, and 0: what one turn after the other finds. No promise cites it.
-- Definitions only.
use Rattle.std.specs.Prelude.{ℕ, cond, List, [], ◌∷◌, Float}
use Rattle.std.specs.Float.Ieee.{lt}
use Rattle.refusal.specs.First.{first_refusal}
use Rattle.pose_bits.specs.matrix4x4.Rows.{Rows}
use Rattle.kept_poses.specs.motion_rows.Rows.{AnimatedTransform-from_rows}

unfoldable pub rise_from : Float → List Rows → ℕ
rise_from time [] = 0
rise_from time (r ∷ rows) =
    let end = (AnimatedTransform-from_rows r).end_time in
    first_refusal (cond (lt time end) 0 12) (rise_from end rows)
