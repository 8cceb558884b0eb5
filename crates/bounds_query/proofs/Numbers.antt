-- The numbers of a query's arguments: what holds of 0, 6 and 7 holds of a box's number (`box-keeps`), and with 8 of a cover's (`arguments-keeps`).
use Prim.Native.Nat.{ℕ}
use mathlib.Core.Bool.{Bool, true, false, not, cond}
use lib.Dec.{eqb, ltb}
use Rattle.bounds3.specs.declared.Bounds3f.{Bounds3f}
use Rattle.bounds3.specs.Finite.{Bounds3f-is_finite}
use Rattle.bounds_query.specs.Query.{Bounds3f-is_ordered, Bounds3f-refusal, max_depth, cover_refusal}

pub box-keeps : (P : ℕ → Type 0) (b : Bounds3f) → P 0 → P 6 → P 7 → P (Bounds3f-refusal b)
unfolding Bounds3f-refusal
box-keeps P b none six seven = go (Bounds3f-is_finite b) (Bounds3f-is_ordered b)
  where
    go : (f o : Bool) → P (cond (not f) 6 (cond (not o) 7 0))
    go true true = none
    go true false = seven
    go false o = six

pub arguments-keeps : (P : ℕ → Type 0) (b : Bounds3f) (d : ℕ) → P 0 → P 6 → P 7 → P 8 → P (cover_refusal b d)
unfolding cover_refusal
arguments-keeps P b d none six seven eight =
    box-keeps (λ (n : ℕ). P (cond (eqb n 0) (cond (ltb max_depth d) 8 0) n)) b (depth (ltb max_depth d)) six seven
  where
    depth : (l : Bool) → P (cond l 8 0)
    depth true = eight
    depth false = none
