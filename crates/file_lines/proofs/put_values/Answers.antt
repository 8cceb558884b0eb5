-- `put_values` puts the values of a line that is one for each place of `out`. The invariant: k of them stand in `out`, and as many as it has places left
-- stand in the line from `at` on.
use native.Mathlib.Omega.{arith}
use mathlib.Core.Path.{sym, ◌∙◌}
use lib.ListN.{length-set}
use Rattle.motion_file.specs.Layout.{fits, values_of}
use Rattle.file_lines.proofs.Values.{bits_inside}
use Rattle.file_lines.proofs.ReadUpTo.{read-start, read-formed, read-inside, read-filled, read_more}
use Rattle.file_lines.proofs.put_values.Goals as goal
use Rattle.file_lines.proofs.put_values.Goals.{then-k-out, else-k-out}

pub loop-k-init : goal.loop-k-init
unfolding fits
loop-k-init c = let s = read-start c.args.line.now c.args.out.now c.requires in (λ _. s, λ none. absurd (omega (arith, s.room)))

pub returns-in-None : goal.returns-in-None
returns-in-None c =
    let l = c.loop-k in
    let e = sym c.read_word.ensures.value ∙ c.in-None.is in
    absurd (read-formed c.args.line.now l.out l.at l.k (l.invariant.0 (omega arith)) e)

pub overflow_add-at : goal.overflow_add-at
overflow_add-at c = omega (arith, bits_inside c.args.line.now c.loop-k.at c.in-Some.bits (sym c.read_word.ensures.value ∙ c.in-Some.is))

pub next_byte-at-requires : goal.next_byte-at-requires
next_byte-at-requires c =
    let l = c.loop-k in
    let e = sym c.read_word.ensures.value ∙ c.in-Some.is in
    let size = length-set l.out l.k c.float_of_bits.result in
    read-inside c.args.line.now l.out l.at l.k (l.invariant.0 (omega arith)) c.in-Some.bits e (λ last. omega (arith, size, last))

pub loop-k-preserved : goal.loop-k-preserved
loop-k-preserved c =
    let l = c.loop-k in
    let line = c.args.line.now in
    let e = sym c.read_word.ensures.value ∙ c.in-Some.is in
    let value = c.float_of_bits in
    let size = length-set l.out l.k value.result in
    let s = l.invariant.0 (omega arith) in
    elim c.if-k-out.branch [
      | then-k-out w ↦ (
        λ _. rw w.at-is (read_more line l.out l.at l.k s c.in-Some.bits e _ value.ensures.value _ (λ last. omega (arith, size, last)) w.next_byte-at.ensures),
        λ last. absurd (omega (arith, size, last)),
      )
      | else-k-out w ↦ (
        λ more. absurd (omega (arith, size, more)),
        λ last. read-filled line l.out l.at l.k s c.in-Some.bits e _ value.ensures.value (sym (sym size ∙ sym last)),
      )
    ]

pub returns : goal.returns
unfolding values_of
returns c = c.loop-k.invariant.1 (omega arith)
