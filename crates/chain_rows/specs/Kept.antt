-- A chain as its caller keeps it, the rows of its moves in rising order: `Chain-to_rows`. Any rows may be asked;
-- the chain in them is `Moves-chain`. No moves are no chain, which has at least 2 poses: 12. The point query
-- reads the constants that the rows hold beside each move, as that of a kept move does. Definitions only.
use Rattle.std.specs.Prelude.{ℕ, cond, List, [], map, eqb, length, get_or, drop, Float, Err}
use Rattle.transform.specs.matrix4x4.Rows.{Rows}
use Rattle.bounds3.specs.declared.Point3f.{Point3f}
use Rattle.bounds3.specs.declared.Bounds3f.{Bounds3f}
use Rattle.transform.specs.Answer.{PointAnswer}
use Rattle.transform.specs.declared.BoundsAnswer.{BoundsAnswer}
use Rattle.transform.specs.declared.BoundsAnswer.TheVariants as bounds
use Rattle.motion_rows.specs.Rows.{AnimatedTransform-to_rows, AnimatedTransform-from_rows}
use Rattle.motion_rows.specs.TransformPoint.{Rows-transform_point}
use Rattle.pad_query.specs.PadQuery.{PadAnswer, AnimatedTransform-pad, Rows-pad}
use Rattle.motion_chain.specs.Chain.{Chain, Chain-moves, Chain-move_at, Chain-pad_at, Chain-cover}
use Rattle.motion_chain.specs.MoveAt.{Chain-index_at}
use Rattle.motion_chain.specs.Times.{PointsAnswer, refused, list_refusal, points_at}

abbrev pub Chain-to_rows : Chain → List Rows
Chain-to_rows c = map AnimatedTransform-to_rows (Chain-moves c)

-- The chain in any rows of which there is a first.
unfoldable pub Moves-chain : List Rows → Chain
Moves-chain rows = record { first = AnimatedTransform-from_rows (get_or rows 0 []); rest = map AnimatedTransform-from_rows (drop 1 rows) }

-- the point query of the move that the time belongs to
unfoldable pub Moves-transform_point : List Rows → Float → Point3f → PointAnswer
Moves-transform_point rows time p =
    cond (eqb (length rows) 0) (Err 12) (Rows-transform_point (get_or rows (Chain-index_at (Moves-chain rows) time) []) time p)

-- document 02, "Pads for the spray": the pad at a time, of the move that the time belongs to
unfoldable pub Chain-pad : Chain → Float → PadAnswer
Chain-pad c time = AnimatedTransform-pad (Chain-move_at c time) time

unfoldable pub Moves-pad : List Rows → Float → PadAnswer
Moves-pad rows time = cond (eqb (length rows) 0) (Err 12) (Rows-pad (get_or rows (Chain-index_at (Moves-chain rows) time) []) time)

-- the same number, whether finite or not, of the chain in the rows
abbrev pub Moves-pad_at : List Rows → Float → Float
Moves-pad_at rows time = Chain-pad_at (Moves-chain rows) time

-- as `Chain-transform_points`
unfoldable pub Moves-transform_points : List Rows → List Float → Point3f → ℕ → PointsAnswer
Moves-transform_points rows times p places =
    let n = list_refusal times p places in
    cond (eqb (length rows) 0) (refused 12) (cond (eqb n 0) (points_at (λ t. Moves-transform_point rows t p) times) (refused n))

unfoldable pub Moves-cover : List Rows → Bounds3f → ℕ → BoundsAnswer
Moves-cover rows b depth = cond (eqb (length rows) 0) (bounds.Refused 12) (Chain-cover (Moves-chain rows) b depth)
