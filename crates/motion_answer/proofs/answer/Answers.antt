-- `answer` meets its contract: two calls in sequence (`answer-clauses`).
use borrow.Author.Rules.{rules}
use Rattle.motion_answer.proofs.Contains.{answer-clauses}
use Rattle.motion_answer.proofs.answer.Goals as goal

pub returns : goal.returns
returns c = let a = c.args in let all = answer-clauses a.rigid a.bytes.now a.out.now _ _ c.file_cover.result c.file_cover.ensures.value (c.write.ensures.value, (c.write.ensures.text, c.write.ensures.counts)) in record { value = all.0; text = all.1.0; counts = all.1.1.0; contains_motion = all.1.1.1 }
