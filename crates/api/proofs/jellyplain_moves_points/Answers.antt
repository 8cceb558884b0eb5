-- `jellyplain_moves_points` meets its contract: the query with a list of times of the chain in the rows,
-- which is the chain's own where it was built (`kept-points`).
use lib.ListN.{length}
use Rattle.file_reader.specs.bounds3.List.{Point3f-of_list}
use Rattle.chain_rows.specs.motion_chain.Chain.{Chain}
use Rattle.chain_rows.proofs.Kept.{kept-points}
use Rattle.moves_asked.specs.Asked.{Moves-asked}
use borrow.Author.Rules.{rules}
use Rattle.api.proofs.jellyplain_moves_points.Goals as goal

pub returns : goal.returns
returns c = let a = c.args in let asked = c.asked in let moved = c.transform_points in let point = c.point in record { refusal = rw (moved.ensures.refusal, point.ensures.value, asked.ensures.value); left = rw (moved.ensures.left, point.ensures.value, asked.ensures.value); kept = λ (k : Chain). kept-points (Moves-asked a.moves.now) k a.times.now (Point3f-of_list a.p.now) (length a.answers.now) }
