-- `union_finer` meets its contract: groups of lean slices where these are the cover's own (`groups-answer`), and judged slices otherwise.
use Prim.Native.Nat.{ℕ, ◌/◌, ◌^◌}
use mathlib.Core.Path.{sym, ap, ◌∙◌}
use native.Mathlib.Nat.{min-eq_left}
use native.Mathlib.Omega.{arith}
use Rattle.bounds3.specs.declared.Bounds3f.{Bounds3f}
use Rattle.transform.specs.declared.BoundsAnswer.TheVariants.{Bounds}
use Rattle.bounds_query.specs.Zeros.{BoundsAnswer-positive_zeros}
use Rattle.cover_groups.specs.means.Groups.{Groups-union}
use Rattle.cover_slices.proofs.Groups.{groups-answer}
use Rattle.cover_slices.proofs.union_finer.Goals as goal

pub returns-then-is_lean : goal.returns-then-is_lean
unfolding BoundsAnswer-positive_zeros
returns-then-is_lean c = record {
  value = let a = c.args in
      let m = a.m in
      c.positive_zeros.ensures.value
      ∙ ap (λ (u : Bounds3f). BoundsAnswer-positive_zeros (Bounds u))
      (c.union_groups-union.ensures.value
      ∙ ap (λ (k : ℕ). Groups-union a.a m.s0 m.s1 m.pad0 m.pad1 a.b k (2 ^ k / 4) a.first) (min-eq_left c.requires.fact_1))
      ∙ sym (groups-answer m a.a a.b a.first (c.is_lean.ensures.value c.if-is_lean.true) a.h c.requires.fact_2 c.requires.fact_3);
}

pub union_judged-judged-requires : goal.union_judged-judged-requires
union_judged-judged-requires c = omega (arith, c.requires.fact_1)

pub returns : goal.returns
returns c = record { value = c.positive_zeros-2.ensures.value ∙ ap BoundsAnswer-positive_zeros c.union_judged-judged.ensures.value }
