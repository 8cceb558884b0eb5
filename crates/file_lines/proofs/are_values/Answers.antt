-- `are_values` judges a line of values. The invariant: the line is `count` values exactly where the words from `at` on are those that are left.
use Prim.Native.Nat.{ℕ, suc, ◌+◌, ◌-◌}
use native.Mathlib.Omega.{arith}
use mathlib.Core.Path.{◌≡◌, sym, ◌∙◌, ap}
use lib.ListN.{drop}
use Rattle.motion_file.specs.Layout.{words, are_values, fits}
use Rattle.file_lines.proofs.Values.{values-none, values-malformed, values-more, values-short, values-unspaced, values-final, bits_inside}
use Rattle.file_lines.proofs.are_values.Goals as goal

pub returns-then-count-eq0 : goal.returns-then-count-eq0
unfolding fits
returns-then-count-eq0 c = rw c.if-count-eq0.true (sym (values-none c.args.line.now))

pub returns-in-None : goal.returns-in-None
unfolding fits
returns-in-None c = sym (c.loop.invariant ∙ values-malformed c.args.line.now c.loop.at _ (sym c.read_word.ensures.value ∙ c.in-None.is))

pub overflow_add-at : goal.overflow_add-at
overflow_add-at c = omega (arith, bits_inside c.args.line.now c.loop.at c.in-Some.field-0 (sym c.read_word.ensures.value ∙ c.in-Some.is))

pub returns-then-line-at : goal.returns-then-line-at
unfolding fits
returns-then-line-at c =
    let l = c.loop in
    let line = c.args.line.now in
    let e = sym c.read_word.ensures.value ∙ c.in-Some.is in
    let left = c.args.count - (l.counter + 1) in
    let more : suc c.args.count - l.counter ≡ suc (suc left) = omega arith in
    sym (l.invariant ∙ rw more (values-short line l.at c.in-Some.field-0 e left c.if-line-at.true))

pub returns-then-line-at-ne32 : goal.returns-then-line-at-ne32
unfolding fits
returns-then-line-at-ne32 c =
    let l = c.loop in
    let line = c.args.line.now in
    let e = sym c.read_word.ensures.value ∙ c.in-Some.is in
    sym (l.invariant ∙ values-unspaced line l.at c.in-Some.field-0 e _ c.if-line-at.false c.if-line-at-ne32.true)

pub loop-preserved : goal.loop-preserved
loop-preserved c =
    let l = c.loop in
    let line = c.args.line.now in
    let e = sym c.read_word.ensures.value ∙ c.in-Some.is in
    let left = suc c.args.count - (l.counter + 1) in
    let more : suc c.args.count - l.counter ≡ suc left = omega arith in
    l.invariant
    ∙ ap (λ (n : ℕ). are_values n (words (drop l.at line))) more
    ∙ values-more line l.at c.in-Some.field-0 e left _ c.if-line-at.false c.if-line-at-ne32.false c.next_byte-at.ensures

pub overflow_add-result : goal.overflow_add-result
overflow_add-result c =
    omega (arith, bits_inside c.args.line.now c.loop.at c.in-Some-read_word.field-0 (sym c.read_word-2.ensures.value ∙ c.in-Some-read_word.is))

pub returns-in-Some-read_word : goal.returns-in-Some-read_word
unfolding fits
returns-in-Some-read_word c =
    let l = c.loop in
    let e = sym c.read_word-2.ensures.value ∙ c.in-Some-read_word.is in
    let final : suc c.args.count - l.counter ≡ 1 = omega arith in
    sym (l.invariant ∙ rw final (values-final c.args.line.now l.at c.in-Some-read_word.field-0 e))

pub returns-in-None-read_word : goal.returns-in-None-read_word
unfolding fits
returns-in-None-read_word c =
    sym (c.loop.invariant ∙ values-malformed c.args.line.now c.loop.at _ (sym c.read_word-2.ensures.value ∙ c.in-None-read_word.is))
