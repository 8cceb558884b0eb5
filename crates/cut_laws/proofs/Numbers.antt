-- The numbers that cutting can give: `cut-number`.
use Prim.Native.Nat.{ℕ}
use mathlib.Core.Logic.{inl, inr}
use mathlib.Core.Path.{refl}
use mathlib.Core.Bool.{Bool, true, false, ◌||◌, cond}
use mathlib.Core.List.{List, [], ◌∷◌}
use lib.Dec.{eqb, ltb}
use Rattle.bounds_query.specs.bounds3.declared.Bounds3f.{Bounds3f}
use Rattle.bounds_query.specs.transform.Answer.{OneOf}
use Rattle.bounds_query.specs.Query.{Bounds3f-refusal}
use Rattle.bounds_query.proofs.Numbers.{box-keeps}
use Rattle.cut_laws.specs.Cut.{max_parts, cut_refusal}

abbrev Known : ℕ → Type 0
Known n = OneOf n (0 ∷ 6 ∷ 7 ∷ 14 ∷ [])

pub cut-number : (b : Bounds3f) (n : ℕ) → OneOf (cut_refusal b n) (0 ∷ 6 ∷ 7 ∷ 14 ∷ [])
unfolding cut_refusal
cut-number b n = go (eqb n 0 || ltb max_parts n)
  where
    go : (t : Bool) → Known (cond t 14 (Bounds3f-refusal b))
    go true = inr (inr (inr (inl refl)))
    go false = box-keeps Known b (inl refl) (inr (inl refl)) (inr (inr (inl refl)))
