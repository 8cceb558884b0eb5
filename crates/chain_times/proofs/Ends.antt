-- The end of a stretch: what is counted, `counted`, at most all that is left, `counted-most`, which a part up to the end is, `rest-all`.
use Prim.Native.Nat.{ℕ, suc, ◌+◌, ◌-◌, ◌≤◌}
use mathlib.Core.Path.{◌≡◌, refl}
use mathlib.Core.Bool.{Bool, true, false, cond}
use mathlib.Core.List.{List, [], ◌∷◌}
use native.Mathlib.Omega.{arith}
use lib.ListN.{length, take, drop, length-drop}
use lib.Seq.{take_all}
use lib.Ieee.{Float, le}
use Rattle.std.specs.List.{prefix_len}
use Rattle.time_list.specs.motion_chain.Stretches.{count_up_to}

pub rest-all : (times : List Float) (from : ℕ) → take (length times - from) (drop from times) ≡ drop from times
rest-all times from = let n = length-drop from times in take_all (length times - from) (drop from times) (omega (arith, n))

module _ (end : Float) where
  pub counted : (times : List Float) → prefix_len (λ t. le t end) times ≡ count_up_to end times
  unfolding count_up_to
  counted [] = refl
  counted (t ∷ times) = go (le t end) (counted times)
    where
      go : (b : Bool) {n m : ℕ} → n ≡ m → cond b (1 + n) 0 ≡ cond b (suc m) 0
      go true e = omega (arith, e)
      go false e = refl

  pub counted-most : (times : List Float) → count_up_to end times ≤ length times
  unfolding count_up_to
  counted-most [] = omega arith
  counted-most (t ∷ times) = go (le t end) (counted-most times)
    where
      go : (b : Bool) {n m : ℕ} → n ≤ m → cond b (suc n) 0 ≤ suc m
      go true h = omega (arith, h)
      go false h = omega arith
