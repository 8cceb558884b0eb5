-- Rounding to nearest keeps the order, whatever the signs: `round_mono`, and `rounds-mono` for results that are known as the rounding of a fraction,
-- `Rounds`. lib.Ieee has it for fractions of at least zero; the sign goes through `round` (`round-neg`).
use mathlib.Core.Path.{◌≡◌, refl, sym, ap, ◌∙◌}
use Prim.Native.Nat.{ℕ, suc, zero, ◌+◌, ◌*◌, ◌≤◌, ◌<◌, ◌^◌}
use native.Mathlib.Nat.{mul-pos, eq-zero-or-pos}
use native.Mathlib.Omega.{arith}
use mathlib.Core.Logic.{inl, inr}
use mathlib.Core.Bool.{Bool, true, false, cond}
use lib.Dec.{ltb}
use lib.Ieee.{Float, inf, Format, binary32, binary64, prec, low, emax, odd, units, round, neg, le}
use lib.Ieee.Fits.{round_is}
use lib.Ieee.Order.{drop, kept}
use Rattle.rounding.specs.Order.{◌≼◌}
use Rattle.rounding.proofs.Rational.{pos_part, neg_part, FractionLe}
use Rattle.rounding.proofs.Order.{≼_trans, neg-antitone}

-- ---- the sign goes through `round`
odd-neg : (d q k l : ℕ) → odd d true q k l ≡ neg (odd d false q k l)
unfolding odd neg
odd-neg d zero k l = refl
odd-neg d (suc q) k l = refl

units-neg : (f : Format) (q k : ℕ) → units f true q k ≡ neg (units f false q k)
unfolding units neg
units-neg f q k = go (ltb (q * 2 ^ k) (2 ^ (low f + suc (emax f))))
  where
    go : (b : Bool) → cond b (odd (suc (prec f)) true q k (low f)) (inf true) ≡ neg (cond b (odd (suc (prec f)) false q k (low f)) (inf false))
    go true = odd-neg (suc (prec f)) q k (low f)
    go false = refl

pub round-neg : (f : Format) (a c : ℕ) → round f true a c ≡ neg (round f false a c)
round-neg f a c =
    round_is f true a c
    ∙ units-neg f (kept (prec f) (a * 2 ^ low f) c) (drop (prec f) (a * 2 ^ low f) c)
    ∙ ap neg (sym (round_is f false a c))

-- ---- the order goes through `round`
rises : (f : Format) (a b c d : ℕ) → 0 < b → 0 < d → a * d ≤ c * b → round f false a b ≼ round f false c d
rises f a b c d B D h = record { holds = lib.Ieee.Order.round_mono f a b c d B D h }

falls : (f : Format) (a b c d : ℕ) → 0 < b → 0 < d → c * b ≤ a * d → round f true a b ≼ round f true c d
falls f a b c d B D h = rw (round-neg f a b, round-neg f c d) (neg-antitone (rises f c d a b D B h))

one-pos : 0 < 1
one-pos = omega arith

minus-zero : (f : Format) → round f true 0 1 ≼ round f false 0 1
minus-zero binary32 = record { holds = unfold round le in tt }
minus-zero binary64 = record { holds = unfold round le in tt }

plus-zero : (f : Format) → round f false 0 1 ≼ round f true 0 1
plus-zero binary32 = record { holds = unfold round le in tt }
plus-zero binary64 = record { holds = unfold round le in tt }

both_zero : (a b c d : ℕ) → 0 < d → a * d + b * c ≤ 0 → a ≡ 0
both_zero a b c d D h = elim (eq-zero-or-pos a) [ inl e ↦ e | inr p ↦ absurd (let q : 0 < a * d = mul-pos p D in omega arith) ]

-- ±a / c ≤ ±b / d, so the rounded values are in that order too.
pub round_mono : (f : Format) (s t : Bool) (a b c d : ℕ) → 0 < c → 0 < d
    → FractionLe (pos_part s a) (neg_part s a) c (pos_part t b) (neg_part t b) d → round f s a c ≼ round f t b d
round_mono f false false a b c d C D h = rises f a c b d C D (omega arith)
round_mono f true true a b c d C D h = falls f a c b d C D (omega arith)
round_mono f true false a b c d C D h = ≼_trans (falls f a c 0 1 C one-pos (omega arith)) (≼_trans (minus-zero f) (rises f 0 1 b d one-pos D (omega arith)))
round_mono f false true a b c d C D h =
    let x : a ≡ 0 = both_zero a b c d D (omega arith) in
    let y : b ≡ 0 = both_zero b a d c C (omega arith) in
    ≼_trans (rises f a c 0 1 C one-pos (omega arith)) (≼_trans (plus-zero f) (falls f 0 1 b d one-pos D (omega arith)))

-- ---- z is the rounding of (p - n) / d, a zero with either sign
pub record Rounds (f : Format) (z : Float) (p n d : ℕ) : Type 0 where
  pub sign : Bool
  pub size : ℕ
  pub is : z ≡ round f sign size d
  pub value : pos_part sign size + n ≡ p + neg_part sign size

pub rounds-mono : {f : Format} {z w : Float} {p n d q m e : ℕ} → Rounds f z p n d → Rounds f w q m e → 0 < d → 0 < e → FractionLe p n d q m e → z ≼ w
rounds-mono {f} {z} {w} {p} {n} {d} {q} {m} {e} r s D E h =
    rw (r.is, s.is)
    (round_mono f r.sign s.sign r.size s.size d e D E
    (shift (pos_part r.sign r.size) (neg_part r.sign r.size) (pos_part s.sign s.size) (neg_part s.sign s.size) r.value s.value))
  where
    shift : (a b c g : ℕ) → a + n ≡ p + b → c + m ≡ q + g → FractionLe a b d c g e
    shift a b c g u v =
        let u' : (a + n) * e ≡ (p + b) * e = ap (λ (x : ℕ). x * e) u in
        let v' : (c + m) * d ≡ (q + g) * d = ap (λ (x : ℕ). x * d) v in
        omega arith
