-- At most 511 intervals are examined: `examined-below`. A search at depth d examines at most 2^(d + 1) - 1, by induction on the depth.
use Prim.Native.Nat.{ℕ, zero, suc, ◌^◌, ◌≤◌, ◌<◌}
use mathlib.Core.Bool.{Bool, true, false}
use native.Mathlib.Omega.{arith}
use native.Mathlib.Nat.{pow-succ'}
use lib.Pow.{pow_pos, pow_mono}
use lib.Dec.{eqb}
use lib.Ieee.{Float}
use Rattle.interval.specs.declared.Interval.{Interval}
use Rattle.motion_derivative.specs.declared.MotionDerivative.{MotionDerivative}
use Rattle.zero_list.specs.declared.Zeros.{Zeros}
use Rattle.zero_search.specs.declared.Search.{Search}
use Rattle.motion_derivative.specs.Derivative.{MotionDerivative-excludes_zero}
use Rattle.zero_search.specs.Search.{lower_half, upper_half, search, find_zeros, search_depth, searched_interval, unit_search, Search-judged, interval_find_zeros}
use Rattle.zero_list.specs.Zeros.{Zeros-empty}
use Rattle.zero_search.proofs.Clauses.{either-search}

pub search-examined-below : (d : ℕ) (b : Bool) (f : MotionDerivative) (i : Interval) (z : Zeros) → (search d b f i z).examined < 2 ^ suc d
unfolding search
search-examined-below zero true f i z = omega arith
search-examined-below zero false f i z = omega arith
search-examined-below (suc d) true f i z = omega (arith, pow_pos d, pow-succ' 2 d, pow-succ' 2 (suc d))
search-examined-below (suc d) false f i z =
    let lower : Search = find_zeros d f (lower_half i) z in
    let upper : Search = find_zeros d f (upper_half i) lower.zeros in
    let below : lower.examined < 2 ^ suc d = search-examined-below d (MotionDerivative-excludes_zero f (lower_half i)) f (lower_half i) z in
    let above : upper.examined < 2 ^ suc d = search-examined-below d (MotionDerivative-excludes_zero f (upper_half i)) f (upper_half i) lower.zeros in
    either-search (λ s. s.examined < 2 ^ suc (suc d)) (eqb lower.zeros.refusal 0) _ _
    (omega (arith, pow-succ' 2 (suc d))) (omega (arith, pow-succ' 2 (suc d)))

-- So at most 511 where the depth is at most 8.
pub few-examined : (d : ℕ) → d ≤ 8 → (f : MotionDerivative) (i : Interval) (z : Zeros) → (find_zeros d f i z).examined ≤ 511
few-examined d l f i z =
    omega (arith, search-examined-below d (MotionDerivative-excludes_zero f i) f i z, pow_mono {i = suc d} {j = 9} (omega (arith, l)))

pub examined-below : (c1 c2 c3 c4 c5 theta : Float) → (interval_find_zeros c1 c2 c3 c4 c5 theta).examined ≤ 511
unfolding interval_find_zeros Search-judged
examined-below c1 c2 c3 c4 c5 theta =
    let f : MotionDerivative = record { c1 = c1; c2 = c2; c3 = c3; c4 = c4; c5 = c5; theta = theta } in
    either-search (λ s. s.examined ≤ 511) (eqb (unit_search f).zeros.refusal 0) _ _
    (few-examined search_depth (omega arith) f searched_interval (Zeros-empty 0)) (omega arith)
