-- The invariant: with as many halvings left as cosines to 31, the bracket holds the least angle, its lower cosine is carried along (`Halving`), and its search
-- ends where the whole one does (`Searching`). The measure is the distance of the ends.
use native.Mathlib.Omega.{arith}
use Rattle.arc_cosine.proofs.Halving.{searching-starts, searching-inside, searching-counts, searching-again}
use Rattle.arc_cosine.proofs.Halving.{searching-closer, searching-counted, halving-ends, halving-zero}
use Rattle.arc_cosine.proofs.least_angle.Goals as goal

pub loop-b-init : goal.loop-b-init
loop-b-init c = searching-starts c.args.w c.counted_cos.ensures.counted c.counted_cos.ensures.value

pub overflow_sub-b : goal.overflow_sub-b
overflow_sub-b c = let l = c.loop-b.invariant.halving.order in omega (arith, l)

pub halve-half-requires : goal.halve-half-requires
halve-half-requires c = let s = c.loop-b.invariant in let opened = c.loop-b-test.true in record { inside = searching-inside s opened; carried = s.halving.carried; cosines_bound = searching-counts s opened }

pub loop-b-smaller : goal.loop-b-smaller
loop-b-smaller c =
    searching-closer c.loop-b.invariant c.loop-b-test.true c.halve-half.ensures.value

pub loop-b-preserved : goal.loop-b-preserved
loop-b-preserved c =
    searching-again c.loop-b.invariant c.loop-b-test.true c.halve-half.ensures.value c.halve-half.ensures.counted

pub overflow_add-result : goal.overflow_add-result
overflow_add-result c =
    let i = c.loop-b.invariant.halving in omega (arith, i.order, i.inside)

pub returns-then-b-w : goal.returns-then-b-w
returns-then-b-w c = let s = c.loop-b.invariant in record { angle = halving-ends s.halving c.if-b-w.true c.loop-b-test.false; cosines = searching-counted s c.loop-b-test.false }

pub returns : goal.returns
returns c = let s = c.loop-b.invariant in record { angle = halving-zero s.halving c.if-b-w.false; cosines = searching-counted s c.loop-b-test.false }
