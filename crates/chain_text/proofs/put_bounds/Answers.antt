-- `put_bounds` writes the box into the part of the buffer from `at` on (`part-front`).
use mathlib.Core.Path.{sym}
use borrow.Author.Rules.{rules}
use Rattle.bounds3.specs.List.{Bounds3f-list}
use Rattle.motion_text.specs.Answer.{bounds_text}
use Rattle.chain_text.proofs.Parts.{part-front}
use Rattle.chain_text.proofs.Lines.{bounds-length}
use Rattle.chain_text.proofs.put_bounds.Goals as goal

pub returns : goal.returns
returns c =
    let a = c.args in
    rw (c.write_bounds.ensures.text, c.bounds_values.ensures.value)
    (part-front (bounds_text (Bounds3f-list a.b)) a.out.now a.at 72 (sym (bounds-length a.b)) c.requires)
