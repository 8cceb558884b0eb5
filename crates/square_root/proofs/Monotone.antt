-- The square root keeps the order on all values from zero up, +infinity included (`sqrt-mono`); of a positive value of the format it is
-- positive, and so finite (`sqrt-positive`). Both rest on `round_sqrt-mono`; for the second the format's ends are computed.
use mathlib.Core.Path.{◌≡◌, refl}
use Prim.Native.Nat.{ℕ, zero, suc, ◌+◌, ◌*◌, ◌%◌, ◌≤◌, ◌<◌, ◌^◌}
use native.Mathlib.Nat.{le_trans, le_of_eq, le_of_lt, mul-le-mul, mul-one, mul-pos, zero-lt-suc}
use native.Mathlib.Omega.{arith}
use mathlib.Core.Bool.{Bool, true, false, ◌&&◌}
use lib.IntN.{ℤ, pos}
use lib.Dec.{T, leb, ltb, eqb, leb→le, ltb→lt, lt→ltb}
use lib.Pow.{pow_pos}
use lib.Ieee.{Float, nan, inf, fin, Format, binary32, binary64, prec, low, emax, up, down, round, fits, le, is_nan}
use lib.Ieee.Fits.{up_pos, down_pos, and_l, and_r}
use lib.Ieee.Scale.{finite}
use lib.Ieee.Positive.{positive, positive-finite, num, den, den_pos, le→cross}
use Rattle.float_bits.specs.rounding.Order.{◌≼◌, Number}
use Rattle.float_bits.proofs.rounding.Order.{≼_trans, zeros_equal, number-left, number-right, between-finite, above-positive, to-fraction, of-fraction, below-infinity}
use Rattle.square_root.specs.SquareRoot.{isqrt_below, isqrt, sticky_sqrt, round_sqrt, sqrt}
use Rattle.square_root.specs.Nearest.{+0}
use Rattle.square_root.proofs.RoundSqrt.{round_sqrt-mono}

pub sqrt-is : (f : Format) (x : Float) → T (positive x) → sqrt f x ≡ round_sqrt f (num x) (den x)
unfolding sqrt
sqrt-is f nan p = absurd p
sqrt-is f (inf s) p = absurd p
sqrt-is f (fin true m e) p = absurd p
sqrt-is f (fin false zero e) p = absurd p
sqrt-is f (fin false (suc m) e) p = refl

-- ---- the order
positive-mono : (f : Format) {x y : Float} → T (positive x) → T (positive y) → x ≼ y → sqrt f x ≼ sqrt f y
positive-mono f {x} {y} p q h =
    rw (sqrt-is f x p, sqrt-is f y q) (round_sqrt-mono f (num x) (den x) (num y) (den y) (den_pos x) (den_pos y) (le→cross x y p q h.holds))

round_sqrt-number : (f : Format) (num den : ℕ) → 0 < den → Number (round_sqrt f num den)
round_sqrt-number f num den D = number-left (round_sqrt-mono f num den num den D D (omega arith))

zero-root : (f : Format) → +0 ≼ round_sqrt f 0 1
zero-root binary32 = record { holds = unfold le round_sqrt sticky_sqrt isqrt isqrt_below round in tt }
zero-root binary64 = record { holds = unfold le round_sqrt sticky_sqrt isqrt isqrt_below round in tt }

zero-below : (f : Format) (s : Bool) (e : ℤ) (num den : ℕ) → 0 < den → fin s zero e ≼ round_sqrt f num den
zero-below f s e num den D = ≼_trans (zeros_equal s false e (pos 0)) (≼_trans (zero-root f) (round_sqrt-mono f 0 1 num den (zero-lt-suc 0) D (omega arith)))

not_negative : (m : ℕ) (e : ℤ) → +0 ≼ fin true (suc m) e → ⊥
not_negative m e h = let k = to-fraction tt tt h in let l : 0 < suc m * up e = mul-pos (zero-lt-suc m) (up_pos e) in omega arith

-- +0 ≼ x says that x is zero, positive or +infinity.
pub sqrt-mono : (f : Format) {x y : Float} → +0 ≼ x → x ≼ y → sqrt f x ≼ sqrt f y
sqrt-mono f {x} {y} z h = go x y z h
  where
    no_nan : {x : Float} → x ≼ nan → ⊥
    no_nan h = unfold is_nan in number-right h

    no-minus-infinity : (s : Bool) (m : ℕ) (e : ℤ) → fin s m e ≼ inf true → ⊥
    no-minus-infinity s m e h = unfold le in h.holds

    go : (x y : Float) → +0 ≼ x → x ≼ y → sqrt f x ≼ sqrt f y
    go nan y z h = absurd (no_nan z)
    go (inf true) y z h = absurd (no-minus-infinity false 0 (pos 0) z)
    go (inf false) nan z h = absurd (no_nan h)
    go (inf false) (inf true) z h = absurd (unfold le in h.holds)
    go (inf false) (inf false) z h = unfold sqrt in h
    go (inf false) (fin t n d) z h = absurd (unfold le in h.holds)
    go (fin true (suc m) e) y z h = absurd (not_negative m e z)
    go (fin s zero e) nan z h = absurd (no_nan h)
    go (fin s zero e) (inf true) z h = absurd (no-minus-infinity s zero e h)
    go (fin s zero e) (inf false) z h = unfold sqrt in h
    go (fin s zero e) (fin t zero d) z h = unfold sqrt in h
    go (fin s zero e) (fin true (suc n) d) z h = absurd (not_negative n d (≼_trans z h))
    go (fin s zero e) (fin false (suc n) d) z h = unfold sqrt in zero-below f s e (suc n * up d) (down d) (down_pos d)
    go (fin false (suc m) e) nan z h = absurd (no_nan h)
    go (fin false (suc m) e) (inf true) z h = absurd (no-minus-infinity false (suc m) e h)
    go (fin false (suc m) e) (inf false) z h = unfold sqrt in
        below-infinity (round_sqrt f (suc m * up e) (down e)) (round_sqrt-number f (suc m * up e) (down e) (down_pos e))
    go (fin false (suc m) e) (fin t n d) z h = let p = lt→ltb 0 (suc m) (zero-lt-suc m) in positive-mono f p (above-positive p tt h) h

pub positive-above-zero : (x : Float) → T (positive x) → +0 ≼ x
positive-above-zero nan p = absurd p
positive-above-zero (inf s) p = absurd p
positive-above-zero (fin true m e) p = absurd p
positive-above-zero (fin false m e) p = of-fraction tt tt (omega arith)

-- ---- the ends of a format
least-root : (f : Format) → T (positive (round_sqrt f 1 (2 ^ low f)))
unfolding round_sqrt sticky_sqrt isqrt isqrt_below round
least-root binary32 = tt
least-root binary64 = tt

largest-root : (f : Format) → T (finite (round_sqrt f (2 ^ suc (emax f)) 1))
unfolding round_sqrt sticky_sqrt isqrt isqrt_below round
largest-root binary32 = tt
largest-root binary64 = tt

-- A positive value of the format lies between its smallest value and 2 ^ (emax + 1).
fits-range : (f : Format) (x : Float) → T (positive x) → T (fits f x) → (1 * den x ≤ num x * 2 ^ low f) × (num x * 1 ≤ 2 ^ suc (emax f) * den x)
unfolding fits
fits-range f nan p h = absurd p
fits-range f (inf s) p h = absurd p
fits-range f (fin true m e) p h = absurd p
fits-range f (fin false zero e) p h = absurd p
fits-range f (fin false (suc m) e) p h =
    let digits = eqb (suc m % 2) 1 && ltb (suc m) (2 ^ prec f) in
    let high = ltb (suc m * up e) (2 ^ suc (emax f) * down e) in (
      mul-le-mul (mul-pos (zero-lt-suc m) (up_pos e))
          (leb→le (down e) (2 ^ low f) (and_r digits (leb (down e) (2 ^ low f)) (and_l (digits && leb (down e) (2 ^ low f)) high h))),
      le_trans (le_of_eq (mul-one (suc m * up e)))
          (le_of_lt (ltb→lt (suc m * up e) (2 ^ suc (emax f) * down e) (and_r (digits && leb (down e) (2 ^ low f)) high h))),
    )

pub sqrt-positive : (f : Format) (x : Float) → T (positive x) → T (fits f x) → T (positive (sqrt f x))
sqrt-positive f x p h =
    let r = fits-range f x p h in
    let lo = round_sqrt-mono f 1 (2 ^ low f) (num x) (den x) (pow_pos (low f)) (den_pos x) r.0 in
    let hi = round_sqrt-mono f (num x) (den x) (2 ^ suc (emax f)) 1 (den_pos x) (zero-lt-suc 0) r.1 in
    let l = least-root f in
    rw (sqrt-is f x p) (above-positive l (between-finite (positive-finite (round_sqrt f 1 (2 ^ low f)) l) (largest-root f) lo hi) lo)
