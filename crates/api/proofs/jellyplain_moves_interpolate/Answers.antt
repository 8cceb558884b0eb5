-- `jellyplain_moves_interpolate` meets its contract: the transform of the chain in the rows, which is the chain's own where it was built
-- (`chain-interpolate-kept`); the array holds it, so that it moves points as the point query does (`left-moves`).
use Rattle.chain_rows.specs.motion_chain.Chain.{Chain}
use Rattle.interpolate_kept.proofs.Kept.{chain-interpolate-kept}
use Rattle.api.proofs.Interpolate.{left-moves}
use Rattle.moves_asked.specs.Asked.{Moves-asked}
use borrow.Author.Rules.{rules}
use Rattle.api.proofs.jellyplain_moves_interpolate.Goals as goal

pub returns : goal.returns
returns c = let a = c.args in let asked = c.asked in let chain = c.interpolate_chain in record { refusal = rw (c.put_transform.ensures.refusal, chain.ensures.value, asked.ensures.value); left = rw (c.put_transform.ensures.left, chain.ensures.value, asked.ensures.value); kept = λ (k : Chain). chain-interpolate-kept (Moves-asked a.moves.now) k a.time; moves_points = left-moves (Moves-asked a.moves.now) a.time chain.result a.transform.now (rw (← asked.ensures.value) chain.ensures.moves_points) c.put_transform.ensures.refusal c.put_transform.ensures.left }
