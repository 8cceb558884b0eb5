-- The union of the covers of kept moves, as a loop takes it: `covers-next`, `covers-end`.
use Prim.Native.Nat.{ℕ, zero, suc, ◌+◌, ◌≤◌, ◌<◌}
use mathlib.Core.Path.{◌≡◌, refl, sym}
use mathlib.Core.List.{List, [], ◌∷◌, map}
use native.Mathlib.Omega.{arith}
use lib.ListN.{length, get_or, drop, drop_of_length-le}
use Rattle.transform.specs.matrix4x4.Rows.{Rows}
use Rattle.bounds3.specs.declared.Bounds3f.{Bounds3f}
use Rattle.transform.specs.declared.BoundsAnswer.{BoundsAnswer}
use Rattle.bounds_query.specs.Query.{BoundsAnswer-union_bounds}
use Rattle.chain_rows.specs.motion_cover.Cover.{AnimatedTransform-cover}
use Rattle.motion_rows.specs.Rows.{AnimatedTransform-from_rows}
use Rattle.chain_rows.specs.motion_chain.Chain.{union_covers}

module _ (b : Bounds3f) (depth : ℕ) (r : BoundsAnswer) where
  -- r with the cover of the move at place i.
  abbrev joined : List Rows → ℕ → BoundsAnswer
  joined moves i = BoundsAnswer-union_bounds r (AnimatedTransform-cover (AnimatedTransform-from_rows (get_or moves i [])) b depth)

  -- What is left of the union from place i on, once r is taken.
  abbrev pub covers_from : List Rows → ℕ → BoundsAnswer
  covers_from moves i = union_covers b depth r (map AnimatedTransform-from_rows (drop i moves))

  pub covers-end : (moves : List Rows) (i : ℕ) → length moves ≤ i → covers_from moves i ≡ r
  unfolding union_covers
  covers-end moves i h = rw (drop_of_length-le moves {i = i} h)

  taken-first : (moves : List Rows) (i : ℕ) → i < length moves
      → covers_from moves i ≡ union_covers b depth (joined moves i) (map AnimatedTransform-from_rows (drop (suc i) moves))
  unfolding union_covers
  taken-first [] i h = absurd (omega (arith, h))
  taken-first (m ∷ moves) zero h = refl
  taken-first (m ∷ moves) (suc i) h = taken-first moves i (omega (arith, h))

  pub covers-next : (moves : List Rows) (i : ℕ) {u : BoundsAnswer} → i < length moves → u ≡ joined moves i
      → union_covers b depth u (map AnimatedTransform-from_rows (drop (i + 1) moves)) ≡ covers_from moves i
  covers-next moves i h e = let n : i + 1 ≡ suc i = omega arith in rw (n, e) (sym (taken-first moves i h))
