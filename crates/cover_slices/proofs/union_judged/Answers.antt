-- `union_judged` meets its contract. The invariant: `union` is the box of `first` and the first k slices.
use Prim.Native.Nat.{ℕ, ◌^◌}
use mathlib.Core.Path.{◌≡◌, refl, sym, subst}
use native.Mathlib.Omega.{arith}
use lib.Pow.{pow-lt}
use Rattle.transform.specs.declared.BoundsAnswer.TheVariants.{Bounds}
use Rattle.motion_piece.specs.motion_cover.Cover.{union_slices}
use Rattle.motion_piece.proofs.motion_cover.Slices.{slice-count}
use Rattle.cover_slices.proofs.Reached.{joined-next, slice-refused}
use Rattle.cover_slices.proofs.union_judged.Goals as goal

pub overflow_shl-slices : goal.overflow_shl-slices
overflow_shl-slices c = omega arith

pub loop-k-init : goal.loop-k-init
unfolding union_slices
loop-k-init c = refl

pub slice_enclosure-answer-requires : goal.slice_enclosure-answer-requires
slice_enclosure-answer-requires c = let d = c.args.h in record { fact_1 = c.requires; fact_2 = omega (arith, c.loop-k-test.true, slice-count d c.requires, pow-lt {i = d} {j = 13} (omega (arith, c.requires))) }

pub returns-in_default : goal.returns-in_default
returns-in_default c = record {
  value = let a = c.args in
      let l = c.loop-k in
      let slice = c.slice_enclosure-answer in
      sym
      (slice-refused a.m a.a a.b a.h a.first l.k l.union l.invariant slice.result slice.ensures.value
      c.in_default.field-0 c.in_default.is (omega (arith, c.loop-k-test.true, slice-count a.h c.requires)));
}

pub loop-k-preserved : goal.loop-k-preserved
loop-k-preserved c =
    let a = c.args in
    let l = c.loop-k in
    let slice = c.slice_enclosure-answer in
    joined-next a.m a.a a.b a.h a.first l.k l.union l.invariant slice.result slice.ensures.value
    c.in-Bounds.moved c.in-Bounds.is c.union_bounds-next.result c.union_bounds-next.ensures.value

pub returns : goal.returns
returns c = record {
  value = let l = c.loop-k in
      let a = c.args in
      let e : l.k ≡ 2 ^ a.h = omega (arith, c.loop-k-test.false, l.auto.k-end, slice-count a.h c.requires) in
      sym (subst (λ (k : ℕ). union_slices a.m a.a a.b a.h (Bounds a.first) k ≡ Bounds l.union) e l.invariant);
}
