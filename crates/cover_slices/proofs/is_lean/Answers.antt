-- `is_lean` meets its contract: what was tested, and the coarse slices that were judged.
use Prim.Native.Nat.{ℕ, ◌^◌}
use mathlib.Core.Path.{◌≡◌, sym, ap, subst, ◌∙◌}
use mathlib.Core.Bool.{◌&&◌}
use lib.Dec.{T}
use lib.Ieee.Fits.{and_l, and_r}
use native.Mathlib.Omega.{arith}
use Rattle.transform.specs.declared.BoundsAnswer.TheVariants.{Bounds}
use Rattle.motion_piece.specs.motion_cover.Cover.{union_slices}
use Rattle.cover_slices.specs.means.Lean.{BoundsAnswer-is_box}
use Rattle.cover_slices.proofs.Groups.{coarse-small}
use Rattle.cover_slices.proofs.is_lean.Goals as goal

pub returns-then-not-parts-numbers : goal.returns-then-not-parts-numbers
returns-then-not-parts-numbers c = record { value = λ e. absurd (subst T (sym e) tt) }

pub returns-then-refusal-ne0 : goal.returns-then-refusal-ne0
returns-then-refusal-ne0 c = record { value = λ e. absurd (subst T (sym e) tt) }

pub union_judged-requires : goal.union_judged-requires
union_judged-requires c = omega (arith, c.coarse_depth-d.ensures.value, coarse-small c.args.a)

pub returns : goal.returns
returns c = record {
  value = λ e.
      let a = c.args in
      let p = c.is_enclosable-parts.result in
      let q = c.is_finite_box-numbers.result in
      let f = c.is_finite-finite.result in
      let all : T (p && q && f) = subst T (sym c.if-not-parts-numbers.false) tt in
      let coarse = c.union_judged.ensures.value ∙ ap (λ (d : ℕ). union_slices a.m a.a a.b d (Bounds a.first) (2 ^ d)) c.coarse_depth-d.ensures.value in
      record {
        parts = subst T c.is_enclosable-parts.ensures.value (and_l p q (and_l (p && q) f all));
        numbers = c.is_enclosable-parts.ensures.numbers;
        ordered = sym c.refusal-refusal.ensures.value ∙ c.if-refusal-ne0.false;
        corners = c.is_finite_box-numbers.ensures.numbers;
        start = subst T c.is_finite-finite.ensures.value (and_r (p && q) f all);
        coarse = subst T (sym e ∙ c.is_box.ensures.value ∙ ap BoundsAnswer-is_box coarse) tt;
      };
}
