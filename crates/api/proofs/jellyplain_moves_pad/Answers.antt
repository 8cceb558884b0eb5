-- `jellyplain_moves_pad` meets its contract: the pad query of the chain in the rows, which is the chain's own where it was built (`kept-pad`).
use Rattle.chain_rows.specs.motion_chain.Chain.{Chain}
use Rattle.chain_rows.proofs.Kept.{kept-pad}
use Rattle.moves_asked.specs.Asked.{Moves-asked}
use borrow.Author.Rules.{rules}
use Rattle.api.proofs.jellyplain_moves_pad.Goals as goal

pub returns : goal.returns
returns c = let a = c.args in let asked = c.asked in let pad = c.pad in record { refusal = rw (c.put_pad.ensures.refusal, pad.ensures.value, asked.ensures.value); left = rw (c.put_pad.ensures.left, pad.ensures.value, asked.ensures.value); kept = λ (k : Chain). kept-pad (Moves-asked a.moves.now) k a.time }
