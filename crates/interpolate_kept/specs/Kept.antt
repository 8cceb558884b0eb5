-- The transform of a kept move at a time, whatever its rows: `Rows-interpolate`. The dot product of the rotations and the angle between them are those that the
-- rows hold, as for the point query. Of the rows of a move it is `AnimatedTransform-interpolate` (`interpolate-kept`). That of a chain is its move's to which
-- the time belongs: `Chain-interpolate`, and of any rows `Moves-interpolate`. Definitions only.
use Rattle.std.specs.Prelude.{cond, List, [], eqb, length, get_or, Float}
use Rattle.transform.specs.matrix4x4.Rows.{Rows}
use Rattle.transform.specs.Transform.{TransformAnswer}
use Rattle.transform.specs.Transform.{TransformAnswer-refused}
use Rattle.interpolation.specs.Interpolate.{Pose-transform, AnimatedTransform-interpolate_by, AnimatedTransform-interpolate}
use Rattle.motion_rows.specs.Rows.{AnimatedTransform-from_rows, PoseConstants-from_rows}
use Rattle.chain_rows.specs.motion_chain.Chain.{Chain, Chain-move_at}
use Rattle.chain_rows.specs.motion_chain.MoveAt.{Chain-index_at}
use Rattle.chain_rows.specs.Kept.{Moves-chain}

unfoldable pub Rows-interpolate : Rows → Float → TransformAnswer
Rows-interpolate rows time =
    let m = AnimatedTransform-from_rows rows in
    AnimatedTransform-interpolate_by m (Pose-transform (PoseConstants-from_rows rows) m.s0 m.s1) time

unfoldable pub Chain-interpolate : Chain → Float → TransformAnswer
Chain-interpolate c time = AnimatedTransform-interpolate (Chain-move_at c time) time

-- no moves are no chain: 12
unfoldable pub Moves-interpolate : List Rows → Float → TransformAnswer
Moves-interpolate rows time =
    cond (eqb (length rows) 0) (TransformAnswer-refused 12) (Rows-interpolate (get_or rows (Chain-index_at (Moves-chain rows) time) []) time)
