-- The least angle: what passes a test while nothing before it does is what `least_from` finds (`least-unique`), so an angle whose cosine is at most n, and
-- whose predecessor's is above n, is `least_angle` of n (`least_angle-unique`), since the cosine falls from 0 to 2 Q; n is biased.
-- The least angle is at most 2 Q (`least_angle-le`), and at most any whose cosine passes (`least_angle-below`).
use mathlib.Core.Path.{◌≡◌, refl, ap, subst, ◌∙◌}
use mathlib.Core.Logic.{inl, inr}
use mathlib.Core.Bool.{Bool, true, false, cond}
use Prim.Native.Nat.{ℕ, zero, suc, ◌+◌, ◌-◌, ◌*◌, ◌^◌, ◌≤◌, ◌<◌}
use native.Mathlib.Nat.{lt_of_lt_of_le, eq-or-lt_of_le}
use native.Mathlib.Decide.{dec_le}
use native.Mathlib.Omega.{arith}
use borrow.Author.Tests.{lt-leb}
use lib.IntN.{ℤ}
use lib.Signed.{le_z}
use lib.Ieee.{minus}
use Rattle.sine_table.specs.Table.{quarter_turn}
use Rattle.trig.specs.Units.{cos_units}
use Rattle.arc_cosine.specs.Acos.{least_from, least_angle}
use Rattle.trig.specs.Biased.{biased}
use Rattle.trig.proofs.Units.{minus-above, minus-below, minus-le, cos-unbiased, cos-falls}

-- ---- the least that passes a test

pub least-unique : (p : ℕ → Bool) (d j u : ℕ) → j ≤ u → u ≤ j + d → p u ≡ true → ((k : ℕ) → k < u → p k ≡ false) → least_from p d j ≡ u
unfolding least_from
least-unique p zero j u a b t f = omega arith
least-unique p (suc d) j u a b t f = elim (eq-or-lt_of_le a) [
  | inl e ↦ ap (λ (x : Bool). cond x j (least_from p d (suc j))) (ap p e ∙ t) ∙ e
  | inr l ↦ ap (λ (x : Bool). cond x j (least_from p d (suc j))) (f j l) ∙ least-unique p d (suc j) u l (omega arith) t f
]

pub least-le : (p : ℕ → Bool) (d j : ℕ) → least_from p d j ≤ j + d
unfolding least_from
least-le p zero j = omega arith
least-le p (suc d) j = go (p j) (least_from p d (suc j)) (least-le p d (suc j))
  where
    go : (b : Bool) (k : ℕ) → k ≤ suc j + d → cond b j k ≤ j + suc d
    go true k h = omega arith
    go false k h = omega arith

least-below : (p : ℕ → Bool) (d j u : ℕ) → j ≤ u → u ≤ j + d → p u ≡ true → least_from p d j ≤ u
unfolding least_from
least-below p zero j u a b t = a
least-below p (suc d) j u a b t = elim (eq-or-lt_of_le a) [
  | inl e ↦ rw (ap p e ∙ t) a
  | inr l ↦ go (p j) (least_from p d (suc j)) (least-below p d (suc j) u l (omega arith) t)
]
  where
    go : (b : Bool) (k : ℕ) → k ≤ u → cond b j k ≤ u
    go true k h = a
    go false k h = h

-- ---- the test, of biased numbers

pub minus-gt : (a b c : ℕ) → b < a → le_z (minus a c) (minus b c) ≡ false
minus-gt a b c h = go (dec_le c a) (dec_le c b)
  where
    go : Dec (c ≤ a) → Dec (c ≤ b) → le_z (minus a c) (minus b c) ≡ false
    go (yes p) (yes q) = rw (minus-above a c p, minus-above b c q) (lt-leb (a - c) (b - c) (omega arith))
    go (yes p) (no q) = rw (minus-above a c p, minus-below b c (omega arith))
    go (no p) (yes q) = absurd (omega arith)
    go (no p) (no q) = rw (minus-below a c (omega arith), minus-below b c (omega arith)) (lt-leb (c - suc b) (c - suc a) (omega arith))

cos-le : (u n : ℕ) → biased (cos_units u) ≤ n → le_z (cos_units u) (minus n (2 ^ 30)) ≡ true
cos-le u n h = subst (λ (z : ℤ). le_z z (minus n (2 ^ 30)) ≡ true) (cos-unbiased u) (minus-le (biased (cos_units u)) n (2 ^ 30) h)

cos-gt : (u n : ℕ) → n < biased (cos_units u) → le_z (cos_units u) (minus n (2 ^ 30)) ≡ false
cos-gt u n h = subst (λ (z : ℤ). le_z z (minus n (2 ^ 30)) ≡ false) (cos-unbiased u) (minus-gt (biased (cos_units u)) n (2 ^ 30) h)

-- ---- the least angle

pub least_angle-unique : (n u : ℕ) → u ≤ 2 * quarter_turn → biased (cos_units u) ≤ n
    → ((k : ℕ) → u ≡ suc k → n < biased (cos_units k)) → least_angle (minus n (2 ^ 30)) ≡ u
unfolding least_angle
least_angle-unique n u h a b =
    least-unique (λ (k : ℕ). le_z (cos_units k) (minus n (2 ^ 30))) (2 * quarter_turn) 0 u (omega arith) (omega arith) (cos-le u n a) (before u h b)
  where
    before : (u : ℕ) → u ≤ 2 * quarter_turn → ((k : ℕ) → u ≡ suc k → n < biased (cos_units k)) → (k : ℕ) → k < u → le_z (cos_units k) (minus n (2 ^ 30)) ≡ false
    before zero h b k l = absurd (omega arith)
    before (suc v) h b k l = cos-gt k n (lt_of_lt_of_le (b v refl) (cos-falls k v (omega arith) (omega arith)))

pub least_angle-le : (w : ℤ) → least_angle w ≤ 2 * quarter_turn
unfolding least_angle
least_angle-le w = let l = least-le (λ (k : ℕ). le_z (cos_units k) w) (2 * quarter_turn) 0 in omega (arith, l)

pub least_angle-below : (w : ℤ) (u : ℕ) → u ≤ 2 * quarter_turn → le_z (cos_units u) w ≡ true → least_angle w ≤ u
unfolding least_angle
least_angle-below w u h t = least-below (λ (k : ℕ). le_z (cos_units k) w) (2 * quarter_turn) 0 u (omega arith) (omega arith) t
