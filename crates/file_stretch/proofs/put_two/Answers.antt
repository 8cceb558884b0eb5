-- `put_two` writes two texts, one behind the other (`both-written`).
use mathlib.Core.Path.{refl}
use lib.ListN.{length}
use borrow.Author.Rules.{rules}
use Rattle.file_stretch.proofs.Pieces.{both-written}
use Rattle.file_stretch.proofs.put_two.Goals as goal

pub returns : goal.returns
returns c =
    let a = c.args in
    rw c.write_text-2.ensures.text
    (both-written a.first.now a.second.now a.out.now _ (length a.first.now) refl c.requires c.write_text.ensures.text _ refl)
