-- `write_moves` meets its contract: the box's number chooses the case (proofs/Printed.antt).
use borrow.Author.Rules.{rules}
use Rattle.chain_text.specs.Write.{Moves-text}
use Rattle.file_rewrite.proofs.Printed.{box-printed, text-printed}
use Rattle.file_rewrite.proofs.write_moves.Goals as goal

pub returns-then-refusal-ne0 : goal.returns-then-refusal-ne0
returns-then-refusal-ne0 c =
    let a = c.args in
    let same = box-printed a.b (Moves-text a.moves.now a.b) c.refusal-refusal.ensures.value c.if-refusal-ne0.true in
    let put = c.write_refusal.ensures in
    record { value = rw same put.value; text = rw same put.text; counts = put.counts }

pub returns : goal.returns
returns c = let a = c.args in let write = c.write-written in let all = text-printed a.moves.now a.b a.out.now _ _ _ c.requires c.refusal-refusal.ensures.value c.if-refusal-ne0.false write.ensures.length
    write.ensures.left in record { value = all.0; text = all.1.0; counts = all.1.1 }
