-- `is_lean` meets its contract: what was tested, and the coarse pieces that were judged.
use Prim.Native.Nat.{ℕ, min}
use mathlib.Core.Path.{◌≡◌, sym, ap, subst, ◌∙◌}
use mathlib.Core.Bool.{◌&&◌}
use lib.Dec.{T}
use lib.Ieee.Fits.{and_l, and_r}
use lib.Ieee.Bits.{is_true}
use native.Mathlib.Omega.{arith}
use Rattle.transform.specs.declared.BoundsAnswer.TheVariants.{Bounds}
use Rattle.bounds_query.specs.Query.{max_depth}
use Rattle.cover_slices.specs.means.Lean.{coarse_depth, BoundsAnswer-is_box}
use Rattle.cover_slices.proofs.Groups.{coarse-small}
use Rattle.dt_pieces.specs.means.Pieces.{piece_box, union_pieces}
use Rattle.window_slices.proofs.is_lean.Goals as goal

pub returns-then-not-parts-numbers : goal.returns-then-not-parts-numbers
returns-then-not-parts-numbers c = record { value = λ e. absurd (subst T (sym e) tt) }

pub returns-then-refusal-ne0 : goal.returns-then-refusal-ne0
returns-then-refusal-ne0 c = record { value = λ e. absurd (subst T (sym e) tt) }

pub returns : goal.returns
returns c = record {
  value = λ e.
      let a = c.args in
      let p = c.is_enclosable-parts.result in
      let q = c.is_finite_box-numbers.result in
      let f = c.is_finite-finite.result in
      let g = c.is_unit_part-share.result in
      let all : T (p && q && f && g) = subst T (sym c.if-not-parts-numbers.false) tt in
      let three = and_l (p && q && f) g all in
      let own = c.coarse_depth-d.ensures.value in
      let depth : min c.coarse_depth-d.result max_depth ≡ coarse_depth a.a = omega (arith, own, coarse-small a.a) in
      let coarse = c.union_pieces.ensures.value
      ∙ ap (λ (d : ℕ). union_pieces (piece_box a.a a.s0 a.s1 a.pad0 a.pad1 a.b) (Bounds a.first) d a.dt) depth in
      record {
        parts = subst T c.is_enclosable-parts.ensures.value (and_l p q (and_l (p && q) f three));
        numbers = c.is_enclosable-parts.ensures.numbers;
        ordered = sym c.refusal-refusal.ensures.value ∙ c.if-refusal-ne0.false;
        corners = c.is_finite_box-numbers.ensures.numbers;
        start = subst T c.is_finite-finite.ensures.value (and_r (p && q) f three);
        share = c.is_unit_part-share.ensures.value (is_true g (and_r (p && q && f) g all));
        coarse = subst T (sym e ∙ c.is_box.ensures.value ∙ ap BoundsAnswer-is_box coarse) tt;
      };
}
