-- The union over pieces as the code takes it: `pieces_whole`, an interval that is not cut, and `pieces-halves`,
-- the pieces of the lower half and then those of the upper. Rests on `union-append`.
use Prim.Native.Nat.{ℕ, zero, suc, ◌-◌}
use mathlib.Core.Path.{◌≡◌, refl}
use mathlib.Core.List.{[], ◌∷◌, map, map-append}
use native.Mathlib.Omega.{arith}
use Rattle.bounds_answers.proofs.UnionAll.{union-append}
use Rattle.transform.specs.declared.BoundsAnswer.{BoundsAnswer}
use Rattle.bounds_query.specs.Query.{BoundsAnswer-union_bounds}
use Rattle.interval.specs.declared.Interval.{Interval}
use Rattle.dt_share.specs.Share.{lower_half, upper_half, pieces}
use Rattle.dt_pieces.specs.means.Pieces.{union_pieces}

module _ (box : Interval → BoundsAnswer) (r : BoundsAnswer) where
  pub pieces_whole : (d : ℕ) (i : Interval) → d ≡ 0 → union_pieces box r d i ≡ BoundsAnswer-union_bounds r (box i)
  unfolding union_pieces pieces
  pieces_whole zero i e = refl
  pieces_whole (suc d) i e = absurd (omega (arith, e))

  halves : (d : ℕ) (i : Interval) → union_pieces box r (suc d) i ≡ union_pieces box (union_pieces box r d (lower_half i)) d (upper_half i)
  unfolding union_pieces pieces
  halves d i =
      rw (map-append box (pieces d (lower_half i)) (pieces d (upper_half i)))
      (union-append r (map box (pieces d (lower_half i))) (map box (pieces d (upper_half i))))

  pub pieces-halves : (d : ℕ) (i : Interval) → (d ≡ 0 → ⊥)
      → union_pieces box r d i ≡ union_pieces box (union_pieces box r (d - 1) (lower_half i)) (d - 1) (upper_half i)
  pieces-halves zero i e = absurd (e refl)
  pieces-halves (suc d) i e = let k : suc d - 1 ≡ d = omega arith in rw k (halves d i)
