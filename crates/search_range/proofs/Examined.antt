-- Every interval that a zero search examines lies in 0 to 1, its ends in order: `examined-unit`. The midpoint of such an interval lies in 0 to 1, since
-- rounding keeps the order, so that its halves are again such. There are as many as zero_search counts: `search_intervals-count`, `examined_intervals-count`;
-- and as an answer carries that is not refused: `answered-count`.
use mathlib.Core.Path.{◌≡◌, refl, sym, subst}
use mathlib.Core.Bool.{Bool, true, false, cond}
use mathlib.Core.Logic.{inl, inr}
use mathlib.Core.List.Memᴰ
use mathlib.Core.List.{List, [], ◌∷◌, ◌++◌, Memᴰ}
use Prim.Native.Nat.{ℕ, zero, suc, ◌+◌}
use native.Mathlib.Omega.{arith}
use lib.Dec.{eqb}
use lib.ListN.{length, length-append}
use lib.Ieee.{Float, of_bits, add, mul, round, lt, le, is_nan}
use Rattle.zero_search.specs.float32.MinMax.{min_num, max_num}
use Rattle.zero_search.specs.float32.Operators.{half}
use Rattle.zero_search.specs.interval.declared.Interval.{Interval}
use Rattle.zero_search.specs.interval.Contains.{Contains, Subset, Finite, Encloses}
use Rattle.zero_search.specs.interval.Interval.{Interval-new, Interval-point, Interval-hull, Interval-midpoint, Interval-of_four}
use Rattle.zero_search.specs.interval.Enclosure.{Interval-add_enclosure, Interval-mul_enclosure}
use Rattle.zero_search.proofs.interval.Contains.{subset-low, subset-high, point-encloses, new-subset}
use Rattle.zero_search.proofs.interval.Extends.{add-contains, mul-contains}
use Rattle.motion_point.specs.unit_interval.Unit.{unit_interval}
use Rattle.motion_point.proofs.pose_steps.Angle.{unit-finite}
use Rattle.zero_search.specs.motion_derivative.declared.MotionDerivative.{MotionDerivative}
use Rattle.zero_search.specs.motion_derivative.Derivative.{MotionDerivative-excludes_zero}
use Rattle.zero_search.specs.zero_list.declared.Zeros.{Zeros}
use Rattle.zero_search.specs.declared.Search.{Search}
use Rattle.zero_search.specs.Search as search
use Rattle.zero_search.specs.Search.{lower_half, upper_half, find_zeros, interval_find_zeros, search_depth}
use Rattle.zero_search.specs.zero_list.Zeros.{Zeros-empty}
use Rattle.search_range.specs.Examined.{search_intervals, examined_intervals, Examined}

-- ---- the halves of an interval in 0 to 1
sums : Interval
sums = Interval-add_enclosure unit_interval unit_interval

sums-finite : Finite sums
unfolding sums Interval-add_enclosure add round of_bits
sums-finite = record { low = tt; high = tt }

pub half-encloses : Encloses (Interval-point half) half
half-encloses = point-encloses half (unfold of_bits in tt)

-- From 0 to 1 and 0 to 1, halved.
halves-unit : Interval-mul_enclosure sums (Interval-point half) ≡ unit_interval
unfolding sums Interval-mul_enclosure Interval-add_enclosure Interval-of_four Interval-hull Interval-new min_num max_num is_nan add mul round lt of_bits
halves-unit = refl

pub midpoint-unit : {i : Interval} → Subset i unit_interval → Contains unit_interval (Interval-midpoint i)
unfolding sums
midpoint-unit {i} s =
    subst (λ (X : Interval). Contains X (Interval-midpoint i)) halves-unit
    (mul-contains sums-finite half-encloses.finite (add-contains unit-finite unit-finite (subset-low s) (subset-high s)) half-encloses.contains)

pub lower-unit : {i : Interval} → Subset i unit_interval → Subset (lower_half i) unit_interval
lower-unit s = new-subset (subset-low s) (midpoint-unit s)

pub upper-unit : {i : Interval} → Subset i unit_interval → Subset (upper_half i) unit_interval
upper-unit s = new-subset (midpoint-unit s) (subset-high s)

-- ---- what a search examines
equal-unit : {i j : Interval} → j ≡ i → Subset i unit_interval → Subset j unit_interval
equal-unit e s = subst (λ (X : Interval). Subset X unit_interval) (sym e) s

pub cond-member : (b : Bool) (l : List Interval) (j : Interval) → Memᴰ j (cond b l []) → Memᴰ j l
cond-member true l j m = m
cond-member false l j m = absurd (Memᴰ.not-nil m)

pub search-unit : (d : ℕ) (b : Bool) (f : MotionDerivative) (i : Interval) (z : Zeros) → Subset i unit_interval
    → (j : Interval) → Memᴰ j (search_intervals d b f i z) → Subset j unit_interval
unfolding search_intervals
search-unit zero true f i z s j m = equal-unit (Memᴰ.eq_of_singleton m) s
search-unit (suc d) true f i z s j m = equal-unit (Memᴰ.eq_of_singleton m) s
search-unit zero false f i z s j m = equal-unit (Memᴰ.eq_of_singleton m) s
search-unit (suc d) false f i z s j m =
    let lower = (find_zeros d f (lower_half i) z).zeros in
    let below = search_intervals d (MotionDerivative-excludes_zero f (lower_half i)) f (lower_half i) z in
    elim (Memᴰ.cases_cons m) [
      | inl e ↦ equal-unit e s
      | inr n ↦ elim (Memᴰ.append_cases below n) [
        | inl k ↦ search-unit d (MotionDerivative-excludes_zero f (lower_half i)) f (lower_half i) z (lower-unit s) j k
        | inr k ↦
            search-unit d (MotionDerivative-excludes_zero f (upper_half i)) f (upper_half i) lower (upper-unit s) j
            (cond-member (eqb lower.refusal 0) _ j k)
      ]
    ]

-- The whole search begins with 0 to 1 itself.
pub whole-unit : Subset search.searched_interval unit_interval
unfolding Interval-new min_num max_num is_nan lt le of_bits
whole-unit = record { low = record { holds = tt }; proper = record { holds = tt }; high = record { holds = tt } }

pub examined-unit : (f : MotionDerivative) (j : Interval) → Examined f j → Subset j unit_interval
unfolding examined_intervals
examined-unit f j m = search-unit search_depth (MotionDerivative-excludes_zero f search.searched_interval) f search.searched_interval (Zeros-empty 0) whole-unit j m

-- ---- how many there are
pub search_intervals-count : (d : ℕ) (b : Bool) (f : MotionDerivative) (i : Interval) (z : Zeros)
    → length (search_intervals d b f i z) ≡ (search.search d b f i z).examined
unfolding search_intervals search.search
search_intervals-count zero true f i z = refl
search_intervals-count (suc d) true f i z = refl
search_intervals-count zero false f i z = refl
search_intervals-count (suc d) false f i z =
    let lower : Search = find_zeros d f (lower_half i) z in
    let upper : Search = find_zeros d f (upper_half i) lower.zeros in
    halved (eqb lower.zeros.refusal 0)
    (search_intervals d (MotionDerivative-excludes_zero f (lower_half i)) f (lower_half i) z)
    (search_intervals d (MotionDerivative-excludes_zero f (upper_half i)) f (upper_half i) lower.zeros)
    lower
    upper
    (search_intervals-count d (MotionDerivative-excludes_zero f (lower_half i)) f (lower_half i) z)
    (search_intervals-count d (MotionDerivative-excludes_zero f (upper_half i)) f (upper_half i) lower.zeros)
  where
    -- with the upper half unless something was refused in the lower
    halved : (b : Bool) (l u : List Interval) (x y : Search) → length l ≡ x.examined → length u ≡ y.examined
        → length (i ∷ l ++ cond b u []) ≡
        (cond {A = Search} b (record { zeros = y.zeros; examined = 1 + x.examined + y.examined })
        (record { zeros = x.zeros; examined = 1 + x.examined })
        ).examined
    halved true l u x y below above = omega (arith, length-append l u, below, above)
    halved false l u x y below above = omega (arith, length-append l [], below)

pub examined_intervals-count : (f : MotionDerivative) → length (examined_intervals f) ≡ (search.unit_search f).examined
unfolding examined_intervals
examined_intervals-count f =
    search_intervals-count search_depth (MotionDerivative-excludes_zero f search.searched_interval) f search.searched_interval (Zeros-empty 0)

-- So an answer that isn't refused counts them; one that is counts none.
pub answered-count : (c1 c2 c3 c4 c5 theta : Float) → (interval_find_zeros c1 c2 c3 c4 c5 theta).zeros.refusal ≡ 0
    → (interval_find_zeros c1 c2 c3 c4 c5 theta).examined
    ≡ length (examined_intervals (record { c1 = c1; c2 = c2; c3 = c3; c4 = c4; c5 = c5; theta = theta }))
unfolding interval_find_zeros search.Search-judged
answered-count c1 c2 c3 c4 c5 theta h =
    let f : MotionDerivative = record { c1 = c1; c2 = c2; c3 = c3; c4 = c4; c5 = c5; theta = theta } in
    go (eqb (search.unit_search f).zeros.refusal 0) (search.unit_search f) (sym (examined_intervals-count f)) h
  where
    go : {k : ℕ} (b : Bool) (s : Search) → s.examined ≡ k → (cond b s search.Search-refused).zeros.refusal ≡ 0 → (cond b s search.Search-refused).examined ≡ k
    go true s e h = e
    go false s e h = absurd (omega (arith, h))
