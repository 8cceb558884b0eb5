-- `write` meets its contract, in the two ways that it ends (proofs/Clauses.antt).
use mathlib.Core.Path.{sym, ◌∙◌}
use borrow.Author.Rules.{rules}
use Rattle.chain_text.proofs.Floats.{box-floats}
use Rattle.chain_text.proofs.Clauses.{accepted, all-refused, all-written}
use Rattle.chain_text.proofs.write.Goals as goal

pub returns-then-number-ne0 : goal.returns-then-number-ne0
returns-then-number-ne0 c = let a = c.args in let all = all-refused a.moves.now a.b a.out.now c.write_refusal-number.ensures c.if-number-ne0.true in record { refusal = all.0; length = all.1.0; left = all.1.1.0; written_back = all.1.1.1 }

pub put-requires : goal.put-requires
put-requires c = let a = c.args in let all = accepted a.moves.now a.b _ (sym c.write_refusal-number.ensures ∙ c.if-number-ne0.false) in record { moves_nonzero = all.0; moves_in_bounds = all.1 }

pub returns : goal.returns
returns c = let a = c.args in let corners = c.well_formed.1.0.1.1 in let least = corners.0.1.1 in let greatest = corners.1.0.1.1 in let box = box-floats a.b least.0.1 least.1.0.1 least.1.1.0.1 greatest.0.1 greatest.1.0.1 greatest.1.1.0.1 in let all = all-written a.moves.now a.b a.out.now c.write_refusal-number.ensures c.if-number-ne0.false c.text_length.ensures _ c.put.ensures.left
    c.put.ensures.floats box in record { refusal = all.0; length = all.1.0; left = all.1.1.0; written_back = all.1.1.1 }
