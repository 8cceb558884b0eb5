-- Laws of `round_sqrt`: it is monotone (`round_sqrt-mono`) and sees only the value of its fraction (`round_sqrt-same`). `root-nearest` is what an integer
-- implementation needs: a root in a larger unit rounds alike, if it keeps a sticky digit and its unit is among the digits that the format drops.
use mathlib.Core.Path.{◌≡◌, refl, sym, ap}
use Prim.Native.Nat.{ℕ, zero, suc, ◌+◌, ◌*◌, ◌≤◌, ◌<◌, ◌^◌}
use native.Mathlib.Nat.{le_of_eq, le_antisymm, mul-le-mul_right, le_of_mul-le-mul_right, mul-pos, pow-suc}
use native.Mathlib.Omega.{arith}
use mathlib.Core.Bool.{false}
use lib.Pow.{pow-add, pow_pos}
use lib.Ieee.{Format, prec, low, round}
use lib.Ieee.Order.{drop}
use Rattle.float_bits.specs.rounding.Order.{◌≼◌}
use Rattle.float_bits.proofs.rounding.HalfUnits.{round-same-halves}
use Rattle.square_root.specs.SquareRoot.{sticky_sqrt, round_sqrt}
use Rattle.square_root.specs.Nearest.{SameSide}
use Rattle.square_root.proofs.Sticky.{sticky-side, sticky-mono}

-- num / den ≤ num' / den', in half units of the format.
scaled : (num den num' den' P : ℕ) → num * den' ≤ num' * den → num * P * den' ≤ num' * P * den
scaled num den num' den' P h = let k = mul-le-mul_right P h in omega arith

round_sqrt-sticky : (f : Format) (num den num' den' : ℕ) → 0 < den → 0 < den' → num * den' ≤ num' * den
    → sticky_sqrt (num * 4 ^ (low f + 1)) den ≤ sticky_sqrt (num' * 4 ^ (low f + 1)) den'
round_sqrt-sticky f num den num' den' D D' h =
    sticky-mono (num * 4 ^ (low f + 1)) den (num' * 4 ^ (low f + 1)) den' D D' (scaled num den num' den' (4 ^ (low f + 1)) h)

pub round_sqrt-mono : (f : Format) (num den num' den' : ℕ) → 0 < den → 0 < den' → num * den' ≤ num' * den → round_sqrt f num den ≼ round_sqrt f num' den'
unfolding round_sqrt
round_sqrt-mono f num den num' den' D D' h =
    let P = pow_pos (low f + 2) in
    let S = round_sqrt-sticky f num den num' den' D D' h in
    record {
      holds = lib.Ieee.Order.round_mono f (sticky_sqrt (num * 4 ^ (low f + 1)) den) (2 ^ (low f + 2))
          (sticky_sqrt (num' * 4 ^ (low f + 1)) den') (2 ^ (low f + 2)) P P (mul-le-mul_right (2 ^ (low f + 2)) S);
    }

pub round_sqrt-same : (f : Format) (num den num' den' : ℕ) → 0 < den → 0 < den' → num * den' ≡ num' * den → round_sqrt f num den ≡ round_sqrt f num' den'
unfolding round_sqrt
round_sqrt-same f num den num' den' D D' e =
    ap (λ (s : ℕ). round f false s (2 ^ (low f + 2)))
    (le_antisymm (round_sqrt-sticky f num den num' den' D D' (le_of_eq e)) (round_sqrt-sticky f num' den' num den D' D (le_of_eq (sym e))))

-- ---- a root in a larger unit
pub pow-four : (n : ℕ) → 4 ^ n ≡ 2 ^ n * 2 ^ n
pow-four zero = refl
pow-four (suc n) = let e = pow-four n in rw (pow-suc 4 n, pow-suc 2 n) (omega arith)

-- s quarters of a unit against H half units, both as `round-same-halves` compares them: L units are the number 1, and D = 4 * L.
module _ (H s L D : ℕ) (E : D ≡ L * 4) where
  pub to-halves : 2 * H ≤ s → H * D ≤ 2 * (s * L)
  to-halves k = rw E (let l = mul-le-mul_right (2 * L) k in omega arith)

  pub to-halves' : s ≤ 2 * H → 2 * (s * L) ≤ H * D
  to-halves' k = rw E (let l = mul-le-mul_right (2 * L) k in omega arith)

  pub of-halves : 0 < L → H * D ≤ 2 * (s * L) → 2 * H ≤ s
  of-halves p k = let l : 2 * H * (2 * L) ≤ s * (2 * L) = let j = rw E at k in omega arith in le_of_mul-le-mul_right l (omega arith)

  pub of-halves' : 0 < L → 2 * (s * L) ≤ H * D → s ≤ 2 * H
  of-halves' p k = let l : s * (2 * L) ≤ 2 * H * (2 * L) = let j = rw E at k in omega arith in le_of_mul-le-mul_right l (omega arith)

-- √(n / c) is P times √(4 * a), so h * P is to the one as h is to the other.
module _ (a n c s S P : ℕ) (C : 0 < P * P * c) (Q : 0 < P) (e : n ≡ 4 * a * (P * P * c)) (i : SameSide (4 * a) 1 s) (j : SameSide n c S) (h : ℕ) where
  coarse-ge : 2 * (h * P) ≤ s * P → 2 * (h * P) ≤ S
  coarse-ge k =
      let l : 2 * h ≤ s = le_of_mul-le-mul_right (let z : 2 * h * P ≤ s * P = omega arith in z) Q in
      let m = mul-le-mul_right (P * P * c) (i.ge' h l) in
      j.ge (h * P) (rw e (omega arith))

  coarse-ge' : 2 * (h * P) ≤ S → 2 * (h * P) ≤ s * P
  coarse-ge' k =
      let m = rw e at (j.ge' (h * P) k) in
      let l : h * h * 1 ≤ 4 * a = le_of_mul-le-mul_right (let z : h * h * 1 * (P * P * c) ≤ 4 * a * (P * P * c) = omega arith in z) C in
      let z = mul-le-mul_right P (i.ge h l) in omega arith

  coarse-le : s * P ≤ 2 * (h * P) → S ≤ 2 * (h * P)
  coarse-le k =
      let l : s ≤ 2 * h = le_of_mul-le-mul_right (let z : s * P ≤ 2 * h * P = omega arith in z) Q in
      let m = mul-le-mul_right (P * P * c) (i.le' h l) in
      j.le (h * P) (rw e (omega arith))

  coarse-le' : S ≤ 2 * (h * P) → s * P ≤ 2 * (h * P)
  coarse-le' k =
      let m = rw e at (j.le' (h * P) k) in
      let l : 4 * a ≤ h * h * 1 = le_of_mul-le-mul_right (let z : 4 * a * (P * P * c) ≤ h * h * 1 * (P * P * c) = omega arith in z) C in
      let z = mul-le-mul_right P (i.le h l) in omega arith

-- √(num / den) is √a * 2 ^ k in units of the format's smallest value, and s quarters are on the same side of every half as √a. Where the format drops k
-- digits, s * 2 ^ k quarters round as the root does.
pub root-nearest : (f : Format) (num den a k s : ℕ) → 0 < den → num * 4 ^ low f ≡ a * 4 ^ k * den → SameSide (4 * a) 1 s
    → k ≤ drop (prec f) (s * 2 ^ k * 2 ^ low f) (2 ^ (low f + 2)) → round f false (s * 2 ^ k) (2 ^ (low f + 2)) ≡ round_sqrt f num den
unfolding round_sqrt
root-nearest f num den a k s C e i K =
    let P = 2 ^ k in
    let L = 2 ^ low f in
    let D = 2 ^ (low f + 2) in
    let n = num * 4 ^ (low f + 1) in
    let S = sticky_sqrt n den in
    let E : D ≡ L * 4 = pow-add 2 (low f) 2 in
    let p = pow_pos (low f) in
    let j = sticky-side n den C in
    let PC : 0 < P * P * den = mul-pos (mul-pos (pow_pos k) (pow_pos k)) C in
    let N : n ≡ 4 * a * (P * P * den) = in_halves (low f) e in
    round-same-halves f false (s * P) D S D k (pow_pos (low f + 2)) (pow_pos (low f + 2)) K
    (record {
      ge = λ (h : ℕ) (x : h * P * D ≤ 2 * (s * P * L)). to-halves (h * P) S L D E
          (coarse-ge a n den s S P PC (pow_pos k) N i j h (of-halves (h * P) (s * P) L D E p x));
      ge' = λ (h : ℕ) (x : h * P * D ≤ 2 * (S * L)). to-halves (h * P) (s * P) L D E
          (coarse-ge' a n den s S P PC (pow_pos k) N i j h (of-halves (h * P) S L D E p x));
      le = λ (h : ℕ) (x : 2 * (s * P * L) ≤ h * P * D). to-halves' (h * P) S L D E
          (coarse-le a n den s S P PC (pow_pos k) N i j h (of-halves' (h * P) (s * P) L D E p x));
      le' = λ (h : ℕ) (x : 2 * (S * L) ≤ h * P * D). to-halves' (h * P) (s * P) L D E
          (coarse-le' a n den s S P PC (pow_pos k) N i j h (of-halves' (h * P) S L D E p x));
    })
  where
    in_halves : (l : ℕ) → num * 4 ^ l ≡ a * 4 ^ k * den → num * 4 ^ (l + 1) ≡ 4 * a * (2 ^ k * 2 ^ k * den)
    in_halves l e = rw (pow-add 4 l 1) (let z = rw (pow-four k) at e in omega arith)
