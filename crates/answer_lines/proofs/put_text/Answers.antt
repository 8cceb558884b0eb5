-- `put_text` puts a text.
use native.Mathlib.Omega.{arith}
use mathlib.Core.Path.{refl, ◌∙◌}
use lib.ListN.{length}
use Rattle.std.proofs.lemmas.Slice.{put_mid-paste}
use Rattle.answer_lines.proofs.Put.{put-fits, put-short}
use Rattle.answer_lines.proofs.put_text.Goals as goal

pub returns-then-out-at : goal.returns-then-out-at
returns-then-out-at c = let a = c.args in let all = put-short a.text.now a.out.now a.at (omega arith) in record { value = all.0; left = all.1 }

pub returns-then-out-at-2 : goal.returns-then-out-at-2
returns-then-out-at-2 c = let a = c.args in let all = put-short a.text.now a.out.now a.at (omega arith) in record { value = all.0; left = all.1 }

pub returns : goal.returns
returns c = let a = c.args in let all = put-fits a.text.now a.out.now a.at (omega arith) in
    record { value = all.0; left = put_mid-paste a.at _ a.out.now _ a.text.now (length a.text.now) c.copy_from_slice.ensures.after (omega arith) refl ∙ all.1 }
