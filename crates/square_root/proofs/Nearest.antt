-- The square root is the nearest value of the format, ties to even: `sqrt-nearest`. It rests on `round-nearest` of the crate rounding, by which the result is
-- nearest to a quarter of the sticky root, and on `sticky-side`, by which no midpoint of two values tells that from the root itself.
use mathlib.Core.Path.{◌≡◌, sym, ◌∙◌, subst}
use Prim.Native.Nat.{ℕ, ◌+◌, ◌-◌, ◌*◌, ◌/◌, ◌≤◌, ◌<◌, ◌^◌}
use native.Mathlib.Nat.{le_of_eq, le_antisymm, lt_of_not-le, mul-pos, le-div_iff_mul-le, div-lt_iff_lt-mul, zero-lt-suc, le_refl}
use native.Mathlib.Omega.{arith}
use mathlib.Core.Bool.{false}
use lib.Dec.{T}
use lib.Pow.{pow-add, pow_pos}
use lib.Ieee.{Float, Format, prec, low, size, fits}
use lib.Ieee.Exact.{HasValue}
use lib.Ieee.Order.{drop}
use lib.Ieee.Scale.{finite, grid, round_val, round_under}
use lib.Ieee.Positive.{positive, positive-finite, num, den, den_pos}
use Rattle.float_bits.proofs.rounding.Nearest.{Nearest, round-nearest}
use Rattle.square_root.specs.SquareRoot.{isqrt, sticky_sqrt, round_sqrt, sqrt}
use Rattle.square_root.specs.Nearest.{SameSide, NearestSqrt, CorrectlyRoundedSqrt}
use Rattle.square_root.proofs.FloorSqrt.{isqrt-unique}
use Rattle.square_root.proofs.Sticky.{sticky-side}
use Rattle.square_root.proofs.RoundSqrt.{to-halves, to-halves', of-halves, of-halves'}
use Rattle.square_root.proofs.Monotone.{sqrt-is, sqrt-positive}

-- n / d is the square of the root in units of the format's smallest value, so 4 * n / d its square in half units; L units are the number 1, and D = 4 * L.
module _ (n N d S L D : ℕ) (P : 0 < d) (W : 0 < L) (E : D ≡ L * 4) (F : N ≡ 4 * n) (i : SameSide N d S) where
  -- The whole part of the sticky root is the root's.
  whole_part : S * L / D ≡ isqrt (n / d)
  whole_part = isqrt-unique (record { least = (le-div_iff_mul-le P).1 below; above = (div-lt_iff_lt-mul P).1 above })
    where
      Q : 0 < D
      Q = rw E (mul-pos W (zero-lt-suc 3))

      below : S * L / D * (S * L / D) * d ≤ n
      below = go (S * L / D) ((le-div_iff_mul-le Q).0 (le_refl (S * L / D)))
        where
          go : (q : ℕ) → q * D ≤ S * L → q * q * d ≤ n
          go q h = let k = rw F at (i.ge' (2 * q) (of-halves (2 * q) S L D E W (omega arith))) in omega arith

      above : n < (S * L / D + 1) * (S * L / D + 1) * d
      above = go (S * L / D) ((div-lt_iff_lt-mul Q).0 (omega arith))
        where
          go : (q : ℕ) → S * L < (q + 1) * D → n < (q + 1) * (q + 1) * d
          go q h = lt_of_not-le (λ (k : (q + 1) * (q + 1) * d ≤ n).
              let l = to-halves (2 * (q + 1)) S L D E (i.ge (2 * (q + 1)) (rw F (omega arith))) in
              omega arith)

  nearest-sqrt : (k R Y : ℕ) → Nearest (S * L) D k R Y → NearestSqrt n d k R Y
  nearest-sqrt k R Y r = record {
    from-below = λ (l : Y < R). rw F at (i.ge' (R + Y) (of-halves (R + Y) S L D E W (r.from-below l)));
    from-above = λ (l : R < Y). rw F at (i.le' (R + Y) (of-halves' (R + Y) S L D E W (r.from-above l)));
    tie-even = λ (ne : R ≡ Y → ⊥) (t : (R + Y) * (R + Y) * d ≡ 4 * n). r.tie-even ne
        (le_antisymm
        (to-halves (R + Y) S L D E (i.ge (R + Y) (le_of_eq (t ∙ sym F))))
        (to-halves' (R + Y) S L D E (i.le (R + Y) (le_of_eq (F ∙ sym t)))));
  }

round_sqrt-nearest : (f : Format) (num den : ℕ) → 0 < den → T (finite (round_sqrt f num den)) → CorrectlyRoundedSqrt f num den (round_sqrt f num den)
unfolding round_sqrt
round_sqrt-nearest f num den P h =
    let N = num * 4 ^ (low f + 1) in
    let S = sticky_sqrt N den in
    let L = 2 ^ low f in
    let D = 2 ^ (low f + 2) in
    let E : D ≡ L * 4 = pow-add 2 (low f) 2 in
    let F : N ≡ 4 * (num * 4 ^ low f) = rw (pow-add 4 (low f) 1) (omega arith) in
    let i = sticky-side N den P in
    let value = round_val f S D (round_under f S D h) in
    record {
      units = grid f S D;
      value = value;
      nearest = λ (y : Float) (Y : ℕ) (t : T (fits f y)) (v : HasValue y false Y L).
          subst (λ (q : ℕ). NearestSqrt (num * 4 ^ low f) den (size q - prec f) (grid f S D) Y)
          (whole_part (num * 4 ^ low f) N den S L D P (pow_pos (low f)) E F i)
          (nearest-sqrt (num * 4 ^ low f) N den S L D P (pow_pos (low f)) E F i (drop (prec f) (S * L) D)
          (grid f S D) Y (round-nearest f S D (pow_pos (low f + 2)) (grid f S D) value y Y t v));
    }

pub sqrt-nearest : (f : Format) (x : Float) → T (positive x) → T (fits f x) → CorrectlyRoundedSqrt f (num x) (den x) (sqrt f x)
sqrt-nearest f x p h =
    rw (sqrt-is f x p) (round_sqrt-nearest f (num x) (den x) (den_pos x) (rw (sqrt-is f x p) at (positive-finite (sqrt f x) (sqrt-positive f x p h))))
