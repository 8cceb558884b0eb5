-- `union_slices` meets its contract: by the depth, held at 12.
use Prim.Native.Nat.{◌^◌}
use mathlib.Core.Path.{sym, ap, subst, ◌∙◌}
use mathlib.Core.Bool.{◌&&◌}
use lib.Dec.{T, ltb, ltb→lt}
use lib.Ieee.Fits.{and_l, and_r}
use native.Mathlib.Omega.{arith}
use Rattle.transform.specs.declared.BoundsAnswer.TheVariants.{Bounds}
use Rattle.bounds_query.specs.Zeros.{BoundsAnswer-positive_zeros}
use Rattle.motion_piece.specs.motion_cover.Cover.{union_slices}
use Rattle.cover_slices.proofs.union_slices.Goals as goal

pub union_finer-requires : goal.union_finer-requires
union_finer-requires c = let h = c.held_depth-h.result in let d = c.coarse_depth.result in let both : T (ltb 1 h && ltb d h) = subst T (sym c.if-h-coarse_depth.true) tt in let several = ltb→lt 1 h (and_l (ltb 1 h) (ltb d h) both) in let finer = ltb→lt d h (and_r (ltb 1 h) (ltb d h) both) in record { fact_1 = omega (arith, c.held_depth-h.ensures.value); fact_2 = omega (arith, several); fact_3 = omega (arith, finer, c.coarse_depth.ensures.value) }

pub returns-then-h-coarse_depth : goal.returns-then-h-coarse_depth
returns-then-h-coarse_depth c = record {
  value = let s = c.args in
      let h = c.held_depth-h.ensures.value in
      c.union_finer.ensures.value
      ∙ λ i. BoundsAnswer-positive_zeros (union_slices s.m (c.constants-a.ensures.value i) s.b (h i) (Bounds s.first) (2 ^ (h i)));
}

pub union_judged-requires : goal.union_judged-requires
union_judged-requires c = omega (arith, c.held_depth-h.ensures.value)

pub returns : goal.returns
returns c = record {
  value = let s = c.args in
      let h = c.held_depth-h.ensures.value in
      c.positive_zeros.ensures.value
      ∙ ap BoundsAnswer-positive_zeros c.union_judged.ensures.value
      ∙ λ i. BoundsAnswer-positive_zeros (union_slices s.m (c.constants-a.ensures.value i) s.b (h i) (Bounds s.first) (2 ^ (h i)));
}
