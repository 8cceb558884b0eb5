-- `jellyplain_moves_point` meets its contract: the point query of the chain in the rows, which is the chain's own where it was built (`kept-point`),
-- and of one block the move's (`block-point`).
use Rattle.file_reader.specs.matrix4x4.Rows.{Rows}
use Rattle.file_reader.specs.bounds3.List.{Point3f-of_list}
use Rattle.chain_rows.specs.motion_chain.Chain.{Chain}
use Rattle.chain_rows.proofs.Kept.{kept-point, block-point}
use Rattle.moves_asked.specs.Asked.{Moves-asked}
use borrow.Author.Rules.{rules}
use Rattle.api.proofs.jellyplain_moves_point.Goals as goal

pub returns : goal.returns
returns c = let a = c.args in let asked = c.asked in let moved = c.transform_point in let point = c.point in record { refusal = rw (c.put_point.ensures.refusal, moved.ensures.value, point.ensures.value, asked.ensures.value); left = rw (c.put_point.ensures.left, moved.ensures.value, point.ensures.value, asked.ensures.value); kept = λ (k : Chain). kept-point (Moves-asked a.moves.now) k a.time (Point3f-of_list a.p.now); lone = λ (block : Rows). block-point (Moves-asked a.moves.now) block a.time (Point3f-of_list a.p.now) }
