-- `after_values` leads through lines of values. The invariant: from the i-th on they lead where all of them do.
use native.Mathlib.Nat.{sub-zero}
use native.Mathlib.Omega.{arith}
use mathlib.Core.Path.{refl, sym, ◌∙◌}
use lib.ListN.{length}
use borrow.Author.Rules.{rules}
use Rattle.motion_file.specs.Layout.{values}
use Rattle.motion_file.proofs.Lines.{place-next, place_end}
use Rattle.file_reader.proofs.after_values.Goals as goal

pub loop-init : goal.loop-init
loop-init c = (refl, rw (sub-zero c.args.count))

pub loop-preserved : goal.loop-preserved
loop-preserved c =
    let l = c.loop in
    let a = c.args in
    let next = rw l.invariant.0 at c.values_line-place.ensures.value in
    let led = place-next (values (length a.scratch.now)) a.s.now a.count l.counter l.place (omega arith) in
    (search rules, rw next (sym led ∙ l.invariant.1))

pub returns : goal.returns
returns c =
    let l = c.loop in
    let a = c.args in
    sym (place_end (values (length a.scratch.now)) a.s.now a.count l.counter l.place (omega arith)) ∙ l.invariant.1
