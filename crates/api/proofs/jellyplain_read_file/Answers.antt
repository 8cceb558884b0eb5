-- `jellyplain_read_file` meets its contract: the file's number chooses whether its box is stored (`read-clauses`, `refused-clauses`).
use borrow.Author.Rules.{rules}
use Rattle.api.proofs.Files.{read-clauses, refused-clauses}
use Rattle.api.proofs.jellyplain_read_file.Goals as goal

pub returns-then-refusal-eq0 : goal.returns-then-refusal-eq0
returns-then-refusal-eq0 c = let a = c.args in let all = read-clauses a.bytes.now c.read-file.result c.read-file.ensures.value _ a.poses.now a.bounds.now c.read-file.ensures.left c.if-refusal-eq0.true in record { count = all.0; refusal = all.1.0; poses = all.1.1.0; bounds = all.1.1.1 }

pub returns-else-refusal-eq0 : goal.returns-else-refusal-eq0
returns-else-refusal-eq0 c = let a = c.args in let all = refused-clauses a.bytes.now c.read-file.result c.read-file.ensures.value _ a.poses.now a.bounds.now c.read-file.ensures.left c.if-refusal-eq0.false in record { count = all.0; refusal = all.1.0; poses = all.1.1.0; bounds = all.1.1.1 }
