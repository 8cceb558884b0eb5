-- The union of boxes, as a loop takes it: `union-next`, `union-end`. The boxes behind the first of n places: `behind-first`.
use Prim.Native.Nat.{ℕ, zero, suc, ◌+◌, ◌-◌, ◌≤◌, ◌<◌}
use mathlib.Core.Path.{◌≡◌, refl}
use mathlib.Core.List.{List, [], ◌∷◌}
use native.Mathlib.Omega.{arith}
use lib.ListN.{length, get_or, take, drop, drop_of_length-le}
use lib.Seq.{drop-cons}
use lib.Ieee.{Float}
use Rattle.bounds3.specs.declared.Bounds3f.{Bounds3f}
use Rattle.bounds3.specs.Bounds3f.{Bounds3f-union_bounds}
use Rattle.bounds3.specs.List.{Bounds3f-of_list}
use Rattle.chain_covers.specs.means.Union.{union_boxes}

module _ (boxes : List (List Float)) (u : Bounds3f) (i : ℕ) where
  pub union-next : i < length boxes
      → union_boxes (Bounds3f-union_bounds u (Bounds3f-of_list (get_or boxes i []))) (drop (i + 1) boxes) ≡ union_boxes u (drop i boxes)
  union-next h = let k : i + 1 ≡ suc i = omega arith in rw (k, drop-cons boxes i [] h)

  pub union-end : length boxes ≤ i → union_boxes u (drop i boxes) ≡ u
  union-end h = rw (drop_of_length-le boxes {i = i} h)

pub behind-first : (places : List (List Float)) (n : ℕ) → 0 < n → take (n - 1) (drop 1 places) ≡ drop 1 (take n places)
behind-first places n h = let k : suc (n - 1) ≡ n = omega (arith, h) in rw k at (go places (n - 1))
  where
    go : (places : List (List Float)) (m : ℕ) → take m (drop 1 places) ≡ drop 1 (take (suc m) places)
    go [] zero = refl
    go [] (suc m) = refl
    go (b ∷ places) m = refl
