-- `write_text` writes a text in one piece (`wrote_one`).
use mathlib.Core.Path.{refl}
use borrow.Author.Rules.{rules}
use Rattle.motion_text.proofs.Pastes.{front-short, length_in-short, wrote_one}
use Rattle.motion_text.proofs.write_text.Goals as goal

pub returns-then-out-text : goal.returns-then-out-text
returns-then-out-text c = let a = c.args in record { value = length_in-short a.text.now a.out.now c.if-out-text.true; text = front-short a.text.now a.out.now c.if-out-text.true }

pub returns : goal.returns
returns c = let a = c.args in let all = wrote_one a.text.now a.out.now _ _ refl c.if-out-text.false c.put.ensures in record { value = all.0; text = all.1 }
