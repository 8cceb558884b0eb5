-- The zeros of every search are as `Stored` says: `interval_find_zeros-stored`. Storing keeps it, hence the search does, by induction on the depth.
-- What passes 000's own test is no NaN (`near-number`), and a NaN leaves the zeros as they are (`accept-nan`).
use mathlib.Core.Path.{◌≡◌, refl, ◌∙◌}
use mathlib.Core.Bool.{Bool, true, false, not, cond, ◌&&◌}
use mathlib.Core.Logic.{inl, inr}
use mathlib.Core.List.{List}
use Prim.Native.Nat.{ℕ, zero, suc, ◌+◌, ◌<◌}
use native.Mathlib.Decide.{ℕ_discrete}
use native.Mathlib.Omega.{arith}
use borrow.Author.Tests.{ltb-true}
use lib.Dec.{T, ltb, eqb}
use lib.ListN.{length, get_or, set, length-set, get_or-replicate}
use lib.Seq.{get_or-set_same, get_or-set_other}
use lib.Ieee.{Float, nan, inf, fin, lt, le, eq, is_nan, of_bits}
use lib.Ieee.Fits.{and_r}
use Rattle.interval.specs.declared.Interval.{Interval}
use Rattle.motion_derivative.specs.declared.MotionDerivative.{MotionDerivative}
use Rattle.trig.specs.float32.Operators.{◌⊕◌, ◌⊖◌, positive_zero}
use Rattle.motion_derivative.specs.Derivative.{MotionDerivative-excludes_zero}
use Rattle.zero_list.specs.declared.Zeros.{Zeros}
use Rattle.zero_search.specs.Search.{newton_zero, lower_half, upper_half}
use Rattle.zero_list.specs.Zeros.{tolerance, eight_zeros, near_interval, Zeros-empty, Zeros-store, Zeros-accept}
use Rattle.zero_search.specs.Search.{search, find_zeros, search_depth, searched_interval, unit_search, Search-judged, interval_find_zeros}
use Rattle.zero_search.specs.Stored.{Stored}
use Rattle.zero_search.proofs.Clauses.{either-search}

-- ---- 000's own test, t_newton >= i.low - 1.0e-3 && t_newton < i.high + 1.0e-3

pub near-number : (x t y : Float) → T (le x t && lt t y) → T (not (is_nan t))
unfolding lt is_nan
near-number x nan y h = and_r (le x nan) false h
near-number x (inf s) y h = tt
near-number x (fin s m e) y h = tt

nan-below-none : (x : Float) → le x nan ≡ false
unfolding le lt eq
nan-below-none nan = refl
nan-below-none (inf s) = refl
nan-below-none (fin s m e) = refl

pub accept-nan : (z : Zeros) (i : Interval) → Zeros-accept z i nan ≡ z
unfolding Zeros-accept
accept-nan z i = rw (nan-below-none (i.low ⊖ tolerance))

-- ---- storing

zero_number : T (not (is_nan positive_zero))
unfolding of_bits is_nan
zero_number = tt

empty-numbers : (k : ℕ) → k < 8 → T (not (is_nan (get_or eight_zeros k nan)))
empty-numbers k below = rw (get_or-replicate 8 k positive_zero nan below) zero_number

set-numbers : (l : List Float) (n : ℕ) (t : Float) → length l ≡ 8 → n < 8 → T (not (is_nan t))
    → ((k : ℕ) → k < 8 → T (not (is_nan (get_or l k nan)))) → (k : ℕ) → k < 8 → T (not (is_nan (get_or (set l n t) k nan)))
set-numbers l n t e fits number numbers k below = go (ℕ_discrete k n)
  where
    go : Dec (k ≡ n) → T (not (is_nan (get_or (set l n t) k nan)))
    go (yes h) = rw (h, get_or-set_same l n t nan (rw e fits)) number
    go (no h) = rw (get_or-set_other l n k t nan h) (numbers k below)

empty-stored : Stored (Zeros-empty 0)
empty-stored = record {
  places = refl;
  count = omega arith;
  unused = λ k after below. get_or-replicate 8 k positive_zero nan below;
  numbers = empty-numbers;
  refusal = inl refl;
}

refused-stored : Stored (Zeros-empty 9)
refused-stored = record {
  places = refl;
  count = omega arith;
  unused = λ k after below. get_or-replicate 8 k positive_zero nan below;
  numbers = empty-numbers;
  refusal = inr (refl, refl);
}

store_stored : (z : Zeros) (t : Float) → T (not (is_nan t)) → Stored z → Stored (Zeros-store z t)
unfolding Zeros-store
store_stored z t number h = go (ltb z.count 8) (ltb-true _ _)
  where
    go : (b : Bool) → (b ≡ true → z.count < 8)
        → Stored (cond b (record { zeros = set z.zeros z.count t; count = z.count + 1; refusal = 0 }) (Zeros-empty 9))
    go true fits = record {
      places = length-set z.zeros z.count t ∙ h.places;
      count = omega (arith, fits refl);
      unused = λ k after below. get_or-set_other z.zeros z.count k t nan (λ e. omega (arith, e, after)) ∙ h.unused k (omega (arith, after)) below;
      numbers = set-numbers z.zeros z.count t h.places (fits refl) number h.numbers;
      refusal = inl refl;
    }
    go false fits = refused-stored

accept-stored : (z : Zeros) (i : Interval) (t : Float) → Stored z → Stored (Zeros-accept z i t)
unfolding Zeros-accept
accept-stored z i t h = go (near_interval i t) (near-number (i.low ⊖ tolerance) t (i.high ⊕ tolerance))
  where
    go : (b : Bool) → (T b → T (not (is_nan t))) → Stored (cond b (Zeros-store z t) z)
    go true number = store_stored z t (number tt) h
    go false number = h

search-stored : (d : ℕ) (b : Bool) (f : MotionDerivative) (i : Interval) (z : Zeros) → Stored z → Stored (search d b f i z).zeros
unfolding search
search-stored zero true f i z h = h
search-stored (suc d) true f i z h = h
search-stored zero false f i z h = accept-stored z i (newton_zero f i) h
search-stored (suc d) false f i z h =
    let lower : Stored (find_zeros d f (lower_half i) z).zeros = search-stored d (MotionDerivative-excludes_zero f (lower_half i)) f (lower_half i) z h in
    either-search (λ s. Stored s.zeros) (eqb (find_zeros d f (lower_half i) z).zeros.refusal 0) _ _
    (search-stored d (MotionDerivative-excludes_zero f (upper_half i)) f (upper_half i) _ lower) lower

pub interval_find_zeros-stored : (c1 c2 c3 c4 c5 theta : Float) → Stored (interval_find_zeros c1 c2 c3 c4 c5 theta).zeros
unfolding interval_find_zeros Search-judged
interval_find_zeros-stored c1 c2 c3 c4 c5 theta =
    let f : MotionDerivative = record { c1 = c1; c2 = c2; c3 = c3; c4 = c4; c5 = c5; theta = theta } in
    either-search (λ s. Stored s.zeros) (eqb (unit_search f).zeros.refusal 0) _ _
    (search-stored search_depth (MotionDerivative-excludes_zero f searched_interval) f searched_interval (Zeros-empty 0) empty-stored) refused-stored
