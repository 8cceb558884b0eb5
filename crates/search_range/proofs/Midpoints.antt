-- The midpoint of every interval that the search from 0 to 1 examines is at least 2^-9: `examined-midpoint`. An interval that was halved n times has a high end
-- of at least 2^-n (`highs`), by the rounded midpoints of the nine depths.
use mathlib.Core.Path.{◌≡◌, refl, subst}
use mathlib.Core.Logic.{inl, inr}
use mathlib.Core.Bool.{Bool, true, false}
use mathlib.Core.List.Memᴰ
use mathlib.Core.List.{Memᴰ}
use Prim.Native.Nat.{ℕ, zero, suc, ◌+◌, ◌≤◌}
use native.Mathlib.Omega.{arith}
use lib.Dec.{T, eqb}
use lib.Pow.{pow_pos, pow_mono}
use lib.Ieee.{Float, of_bits, add, mul, round, lt, le, is_nan}
use lib.Ieee.Scale.{finite}
use Rattle.zero_search.proofs.rounding.Order.{≼_trans, number-right}
use Rattle.zero_search.specs.float32.MinMax.{min_num, max_num}
use Rattle.zero_search.specs.float32.Operators.{◌⊕◌, positive_zero, one, half}
use Rattle.zero_search.proofs.float32.MinMax.{max-left, max-right}
use Rattle.zero_search.specs.interval.declared.Interval.{Interval}
use Rattle.zero_search.specs.interval.Contains.{Contains, Subset, Finite}
use Rattle.zero_search.specs.interval.Interval.{Interval-new, Interval-point, Interval-hull, Interval-midpoint, Interval-of_four}
use Rattle.zero_search.specs.interval.Enclosure.{Interval-add_enclosure, Interval-mul_enclosure}
use Rattle.zero_search.proofs.interval.Contains.{subset-low, subset-high, contains-finite}
use Rattle.zero_search.proofs.interval.Extends.{add-contains, mul-contains}
use Rattle.motion_point.specs.unit_interval.Unit.{unit_interval, slice_end, slice}
use Rattle.motion_point.proofs.unit_interval.Slices.{slice_end-mono, slice-unit}
use Rattle.motion_point.proofs.pose_steps.Angle.{unit-finite}
use Rattle.zero_search.specs.motion_derivative.declared.MotionDerivative.{MotionDerivative}
use Rattle.zero_search.specs.motion_derivative.Derivative.{MotionDerivative-excludes_zero}
use Rattle.zero_search.specs.zero_list.declared.Zeros.{Zeros}
use Rattle.zero_search.specs.Search as search
use Rattle.zero_search.specs.Search.{lower_half, upper_half, find_zeros, search_depth}
use Rattle.zero_search.specs.zero_list.Zeros.{Zeros-empty}
use Rattle.search_range.specs.Examined.{search_intervals, examined_intervals, Examined}
use Rattle.search_range.proofs.Examined.{half-encloses, lower-unit, upper-unit, cond-member, whole-unit, examined-unit}

-- From 2^-n to 1.
abbrev pub highs : ℕ → Interval
highs n = record { low = slice_end n 1; high = one }

highs-finite : (n : ℕ) → Finite (highs n)
unfolding slice
highs-finite n = record { low = contains-finite unit-finite (subset-high (slice-unit n 0 (pow_pos n))); high = unit-finite.high }

-- ---- one halving
halved : (n : ℕ) → n ≤ 8
    → T (finite (positive_zero ⊕ slice_end n 1)) × (Interval-mul_enclosure (Interval-add_enclosure unit_interval (highs n)) (Interval-point half) ≡ highs (suc n))
unfolding Interval-mul_enclosure Interval-add_enclosure Interval-of_four Interval-hull Interval-new min_num max_num is_nan add mul round lt of_bits slice_end
halved zero h = (tt, refl)
halved (suc zero) h = (tt, refl)
halved (suc (suc zero)) h = (tt, refl)
halved (suc (suc (suc zero))) h = (tt, refl)
halved (suc (suc (suc (suc zero)))) h = (tt, refl)
halved (suc (suc (suc (suc (suc zero))))) h = (tt, refl)
halved (suc (suc (suc (suc (suc (suc zero)))))) h = (tt, refl)
halved (suc (suc (suc (suc (suc (suc (suc zero))))))) h = (tt, refl)
halved (suc (suc (suc (suc (suc (suc (suc (suc zero)))))))) h = (tt, refl)
halved (suc (suc (suc (suc (suc (suc (suc (suc (suc n))))))))) h = absurd (omega arith)

one-and-one : T (finite (one ⊕ one))
unfolding add round of_bits
one-and-one = tt

module _ (n : ℕ) (l : n ≤ 8) {i : Interval} (s : Subset i unit_interval) (c : Contains (highs n) i.high) where
  sum-finite : Finite (Interval-add_enclosure unit_interval (highs n))
  unfolding Interval-add_enclosure
  sum-finite = record { low = (halved n l).0; high = one-and-one }

  midpoint-high : Contains (highs (suc n)) (Interval-midpoint i)
  midpoint-high =
      subst (λ (X : Interval). Contains X (Interval-midpoint i)) (halved n l).1
      (mul-contains sum-finite half-encloses.finite (add-contains unit-finite (highs-finite n) (subset-low s) c) half-encloses.contains)

  lower_high : Contains (highs (suc n)) (lower_half i).high
  unfolding Interval-new
  lower_high =
      let m = midpoint-high in
      record { low = ≼_trans m.low (max-right i.low (Interval-midpoint i) (number-right m.low)); high = (lower-unit s).high }

  upper-high : Contains (highs (suc n)) (upper_half i).high
  unfolding Interval-new
  upper-high =
      let m = midpoint-high in
      record { low = ≼_trans m.low (max-left (Interval-midpoint i) i.high (number-right m.low)); high = (upper-unit s).high }

-- ---- the search
widened : (n : ℕ) → n ≤ 8 → {x : Float} → Contains (highs n) x → Contains (highs 8) x
widened n l c = let p = pow_mono l in record { low = ≼_trans (slice_end-mono 8 n 1 1 (omega (arith, p))) c.low; high = c.high }

search-high : (d n : ℕ) → n + d ≡ 8 → (b : Bool) (f : MotionDerivative) (i : Interval) (z : Zeros) → Subset i unit_interval → Contains (highs n) i.high
    → (j : Interval) → Memᴰ j (search_intervals d b f i z) → Contains (highs 8) j.high
unfolding search_intervals
search-high zero n e true f i z s c j m = rw (Memᴰ.eq_of_singleton m) (widened n (omega arith) c)
search-high (suc d) n e true f i z s c j m = rw (Memᴰ.eq_of_singleton m) (widened n (omega arith) c)
search-high zero n e false f i z s c j m = rw (Memᴰ.eq_of_singleton m) (widened n (omega arith) c)
search-high (suc d) n e false f i z s c j m =
    let lower = (find_zeros d f (lower_half i) z).zeros in
    let below = search_intervals d (MotionDerivative-excludes_zero f (lower_half i)) f (lower_half i) z in
    let next : suc n + d ≡ 8 = omega arith in
    let l : n ≤ 8 = omega arith in
    elim (Memᴰ.cases_cons m) [
      | inl q ↦ rw q (widened n l c)
      | inr r ↦ elim (Memᴰ.append_cases below r) [
        | inl k ↦
            search-high d (suc n) next (MotionDerivative-excludes_zero f (lower_half i)) f (lower_half i) z (lower-unit s) (lower_high n l s c) j k
        | inr k ↦
            search-high d (suc n) next (MotionDerivative-excludes_zero f (upper_half i)) f (upper_half i) lower (upper-unit s) (upper-high n l s c) j
            (cond-member (eqb lower.refusal 0) _ j k)
      ]
    ]

whole-high : Contains (highs 0) (search.searched_interval).high
unfolding Interval-new min_num max_num is_nan lt le round of_bits slice_end
whole-high = record { low = record { holds = tt }; high = record { holds = tt } }

pub examined-midpoint : (f : MotionDerivative) (j : Interval) → Examined f j → Contains (highs 9) (Interval-midpoint j)
unfolding examined_intervals
examined-midpoint f j m =
    midpoint-high 8 (omega arith) (examined-unit f j m)
    (search-high search_depth 0 refl (MotionDerivative-excludes_zero f search.searched_interval) f search.searched_interval
    (Zeros-empty 0) whole-unit whole-high j m)
