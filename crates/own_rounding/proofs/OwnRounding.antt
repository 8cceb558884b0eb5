-- A value of the format is its own rounding, a zero's sign aside: `own-rounding`. So a number from 0 on that is added to it or taken from it moves it one way
-- only: `add-above`, `sub-below`; and zero leaves it: `add-zero`, `sub-zero`.
use mathlib.Core.Path.{◌≡◌, refl, sym, subst}
use mathlib.Core.Bool.{Bool, true, false}
use Prim.Native.Nat.{ℕ, ◌+◌, ◌*◌, ◌^◌, ◌<◌}
use native.Mathlib.Nat.{mul-pos}
use native.Mathlib.Omega.{arith}
use lib.IntN.{ℤ, pos}
use lib.Dec.{T}
use lib.Ieee.{Float, nan, inf, fin, binary32, up, down, round, of_bits, fits}
use lib.Ieee.Fits.{down_pos}
use lib.Ieee.Exact.{HasValue, round_exact}
use lib.Ieee.Scale.{finite}
use lib.Ieee.Positive.{den, den_pos}
use Rattle.float32.specs.rounding.Order.{◌≼◌}
use Rattle.float32.proofs.rounding.Rational.{num_pos, num_neg, FractionLe}
use Rattle.float32.proofs.rounding.Order.{≼_trans, to-fraction, of-fraction}
use Rattle.float32.proofs.rounding.Monotone.{Rounds, rounds-mono}
use Rattle.float32.proofs.rounding.Arithmetic.{add_rounds, sub-rounds}
use Rattle.float32.specs.Operators.{◌⊕◌, ◌⊖◌, positive_zero}
use Rattle.float32.proofs.Constants.{zero-refl}
use Rattle.float_bits.specs.Decode.{integer_decode}
use Rattle.float_bits.proofs.Decode.{magnitude-lt, decode-exact, decode-value, significand-lt}
use Rattle.own_rounding.specs.means.Alike.{Alike}

pub alike-trans : {x y z : Float} → Alike x y → Alike y z → Alike x z
alike-trans e f = record { to = ≼_trans e.to f.to; from = ≼_trans f.from e.from }

-- Values of one fraction are alike.
value-alike : (s : Bool) (m : ℕ) (e : ℤ) (z : Float) → HasValue z s (m * up e) (down e) → Alike z (fin s m e)
value-alike s m e nan v = absurd v
value-alike s m e (inf t) v = absurd v
value-alike s m e (fin t n d) v = subst (λ (u : Bool). Alike (fin u n d) (fin s m e)) (sym v.0) (same s v.1)
  where
    same : (s : Bool) → n * up d * down e ≡ m * up e * down d → Alike (fin s n d) (fin s m e)
    same true h = record { to = of-fraction tt tt (omega (arith, h)); from = of-fraction tt tt (omega (arith, h)) }
    same false h = record { to = of-fraction tt tt (omega (arith, h)); from = of-fraction tt tt (omega (arith, h)) }

-- Roundings of one fraction are alike.
rounds-alike : {z w : Float} {p n d : ℕ} → 0 < d → Rounds binary32 z p n d → Rounds binary32 w p n d → Alike z w
rounds-alike {p = p} {n = n} {d = d} D r s = record { to = rounds-mono r s D D (level p n d); from = rounds-mono s r D D (level p n d) }
  where
    level : (p n d : ℕ) → FractionLe p n d p n d
    level p n d = omega arith

-- What x's own fraction rounds to.
record Own (x : Float) : Type 0 where
  value : Float
  rounds : Rounds binary32 value (num_pos x) (num_neg x) (den x)
  alike : Alike value x

own : (x : Float) → T (finite x) → T (fits binary32 x) → Own x
own nan f h = absurd f
own (inf s) f h = absurd f
own (fin s m e) f h =
    let x = fin s m e in
    let v : HasValue (round binary32 s (m * up e) (down e)) s (m * up e) (down e) =
    round_exact binary32 s (m * up e) (down e) (integer_decode x).significand (integer_decode x).exponent (down_pos e) (significand-lt x)
    (subst (λ (k : ℕ). k < 2 ^ 277) (sym (decode-exact x h)) (magnitude-lt x h)) (decode-value x h f).1 in
    record {
      value = round binary32 s (m * up e) (down e);
      rounds = record { sign = s; size = m * up e; is = refl; value = refl };
      alike = value-alike s m e (round binary32 s (m * up e) (down e)) v;
    }

pub own-rounding : {z : Float} (x : Float) → T (finite x) → T (fits binary32 x) → Rounds binary32 z (num_pos x) (num_neg x) (den x) → Alike z x
own-rounding x f h r = let o = own x f h in alike-trans (rounds-alike (den_pos x) r o.rounds) o.alike

-- ---- numbers from zero on
pub no-negative : (x : Float) → T (finite x) → positive_zero ≼ x → num_neg x ≡ 0
unfolding of_bits
no-negative x f h = let l = to-fraction {x = fin false 0 (pos 0)} {y = x} tt f h in go x l
  where
    go : (x : Float) → FractionLe 0 0 1 (num_pos x) (num_neg x) (den x) → num_neg x ≡ 0
    go nan l = refl
    go (inf s) l = refl
    go (fin true m e) l = omega arith
    go (fin false m e) l = refl

module _ (x y : Float) (f : T (finite x)) (g : T (finite y)) (z : positive_zero ≼ y) where
  -- The difference is at most the sum, whatever x is.
  pub sub-add : x ⊖ y ≼ x ⊕ y
  sub-add =
      let D = mul-pos (den_pos x) (den_pos y) in
      rounds-mono (sub-rounds binary32 x y f g) (add_rounds binary32 x y f g) D D
      (apart (num_pos x) (num_neg x) (den x) (num_pos y) (num_neg y) (den y) (no-negative y g z))
    where
      apart : (p n d q m e : ℕ) → m ≡ 0 → FractionLe (p * e + m * d) (n * e + q * d) (d * e) (p * e + q * d) (n * e + m * d) (d * e)
      apart p n d q m e k = rw k (omega arith)

  module _ (h : T (fits binary32 x)) where
    pub add-above : x ≼ x ⊕ y
    add-above =
        let o = own x f h in
        ≼_trans o.alike.from
        (rounds-mono o.rounds (add_rounds binary32 x y f g) (den_pos x) (mul-pos (den_pos x) (den_pos y))
        (above (num_pos x) (num_neg x) (den x) (num_pos y) (num_neg y) (den y) (no-negative y g z)))
      where
        above : (p n d q m e : ℕ) → m ≡ 0 → FractionLe p n d (p * e + q * d) (n * e + m * d) (d * e)
        above p n d q m e k = rw k (omega arith)

    pub sub-below : x ⊖ y ≼ x
    sub-below =
        let o = own x f h in
        ≼_trans
        (rounds-mono (sub-rounds binary32 x y f g) o.rounds (mul-pos (den_pos x) (den_pos y)) (den_pos x)
        (below (num_pos x) (num_neg x) (den x) (num_pos y) (num_neg y) (den y) (no-negative y g z)))
        o.alike.to
      where
        below : (p n d q m e : ℕ) → m ≡ 0 → FractionLe (p * e + m * d) (n * e + q * d) (d * e) p n d
        below p n d q m e k = rw k (omega arith)

-- ---- zero
module _ (x : Float) (f : T (finite x)) (h : T (fits binary32 x)) where
  pub add-zero : Alike (x ⊕ positive_zero) x
  unfolding of_bits
  add-zero = record {
    to = ≼_trans (rounds-mono (add_rounds binary32 x positive_zero f tt) (own x f h).rounds (mul-pos (den_pos x) (den_pos positive_zero))
        (den_pos x) (level (num_pos x) (num_neg x) (den x))) (own x f h).alike.to;
    from = add-above x positive_zero f tt zero-refl h;
  }
    where
      level : (p n d : ℕ) → FractionLe (p * 1 + 0 * d) (n * 1 + 0 * d) (d * 1) p n d
      level p n d = omega arith

  pub sub-zero : Alike (x ⊖ positive_zero) x
  unfolding of_bits
  sub-zero = record {
    to = sub-below x positive_zero f tt zero-refl h;
    from = ≼_trans (own x f h).alike.from (rounds-mono (own x f h).rounds
        (sub-rounds binary32 x positive_zero f tt) (den_pos x) (mul-pos (den_pos x) (den_pos positive_zero)) (level (num_pos x) (num_neg x) (den x)));
  }
    where
      level : (p n d : ℕ) → FractionLe p n d (p * 1 + 0 * d) (n * 1 + 0 * d) (d * 1)
      level p n d = omega arith
