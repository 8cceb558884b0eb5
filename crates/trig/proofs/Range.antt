-- Document 01's range of the sine, and of the cosine, between two angles: it holds the value at every float between them (`sin-extends`, `cos-extends`),
-- a narrower pair gives a narrower range (`sin-isotone`, `cos-isotone`), and it lies in -1 to 1 (`sin-range-unit`, `cos-range-unit`). Both functions are
-- one law, over a rule in biased units with a test for either end, `Rule`: between two angles that pass no test the rule is not beyond both.
use mathlib.Core.Path.{◌≡◌, refl, sym, ◌∙◌}
use mathlib.Core.Logic.{◌⊎◌, inl, inr}
use mathlib.Core.Bool.{Bool, true, false, ◌||◌, and-eq-true_iff, true≢false}
use Prim.Native.Nat.{ℕ, ◌*◌, ◌≤◌, ◌<◌, min, max}
use native.Mathlib.Nat.{le_trans}
use native.Mathlib.Decide.{dec_le}
use native.Mathlib.Omega.{arith}
use borrow.Author.Tests.{leb-true, le-leb}
use lib.Dec.{leb}
use lib.Ieee.{Float, neg}
use Rattle.float32.specs.rounding.Order.{◌≼◌}
use Rattle.float32.proofs.rounding.Order.{≼_trans, ≼_refl, number-left, number-right}
use Rattle.float32.proofs.rounding.Corners.{Bounds}
use Rattle.float32.specs.Operators.{one}
use Rattle.float32.proofs.MinMax.{min-left, min-right, max-left, max-right, min-picks, max-picks}
use Rattle.sine_table.specs.Table.{quarter_turn}
use Rattle.trig.specs.Units.{angle_units, cos_units}
use Rattle.trig.specs.SinCos.{sin, cos}
use Rattle.trig.specs.Biased.{biased, biased_sin}
use Rattle.trig.proofs.Units.{sin-below-end, sin-above-end, cos-below-end, cos-above-end}
use Rattle.trig.specs.Range.{Angle, lies, range_low, range_high, sin_low, sin_high, cos_low, cos_high}
use Rattle.trig.proofs.Monotone.{biased_float, biased-mono, angle_units-mono, angle-finite}
use Rattle.trig.proofs.Monotone.{angle-units-le, angle-near, sin-at, cos-at, sin-unit, cos-unit}

-- ---- w lies from u to v

lies-yes : (w u v : ℕ) → u ≤ w → w ≤ v → lies w u v ≡ true
lies-yes w u v h k = (and-eq-true_iff (leb (min u v) w) (leb w (max u v))).1 (le-leb (min u v) w (omega arith), le-leb w (max u v) (omega arith))

lies-from : (w u v : ℕ) → u ≤ v → lies w u v ≡ true → u ≤ w
lies-from w u v h e = let l = leb-true (min u v) w ((and-eq-true_iff (leb (min u v) w) (leb w (max u v))).0 e).0 in omega (arith, l)

lies-to : (w u v : ℕ) → u ≤ v → lies w u v ≡ true → w ≤ v
lies-to w u v h e = let l = leb-true w (max u v) ((and-eq-true_iff (leb (min u v) w) (leb w (max u v))).0 e).1 in omega (arith, l)

lies-no : (w u v : ℕ) → lies w u v ≡ false → (v < w) ⊎ (w < u)
lies-no w u v e = go (dec_le w v) (dec_le u w)
  where
    go : Dec (w ≤ v) → Dec (u ≤ w) → (v < w) ⊎ (w < u)
    go (yes p) (yes q) = absurd (true≢false (sym (lies-yes w u v q p) ∙ e))
    go (yes p) (no q) = inr (omega arith)
    go (no p) d = inl (omega arith)

lies-wider : (w u v u' v' : ℕ) → u' ≤ u → u ≤ v → v ≤ v' → lies w u v ≡ true → lies w u' v' ≡ true
lies-wider w u v u' v' h k l e = lies-yes w u' v' (le_trans h (lies-from w u v k e)) (le_trans (lies-to w u v k e) l)

-- ---- the range of two values

module _ (s t : Bool) (p q : Float) (P : Bounds (neg one) one p) (Q : Bounds (neg one) one q) where
  range-holds : (z : Float) → Bounds (neg one) one z → (s ≡ false → (p ≼ z) ⊎ (q ≼ z))
      → (t ≡ false → (z ≼ p) ⊎ (z ≼ q)) → Bounds (range_low s p q) (range_high t p q) z
  range-holds z Z f g = record { below = low s f; above = high t g }
    where
      low : (s : Bool) → (s ≡ false → (p ≼ z) ⊎ (q ≼ z)) → range_low s p q ≼ z
      low true f = Z.below
      low false f = elim (f refl) [ inl h ↦ ≼_trans (min-left p q (number-left h)) h | inr h ↦ ≼_trans (min-right p q (number-left h)) h ]

      high : (t : Bool) → (t ≡ false → (z ≼ p) ⊎ (z ≼ q)) → z ≼ range_high t p q
      high true g = Z.above
      high false g = elim (g refl) [ inl h ↦ ≼_trans h (max-left p q (number-right h)) | inr h ↦ ≼_trans h (max-right p q (number-right h)) ]

  range-unit : (neg one ≼ range_low s p q) × (range_high t p q ≼ one)
  range-unit = (low s, high t)
    where
      low : (s : Bool) → neg one ≼ range_low s p q
      low true = ≼_refl (neg one) (number-left P.below)
      low false = min-picks (λ (z : Float). neg one ≼ z) p q P.below Q.below

      high : (t : Bool) → range_high t p q ≼ one
      high true = ≼_refl one (number-right P.above)
      high false = max-picks (λ (z : Float). z ≼ one) p q P.above Q.above

  range-isotone : (s' t' : Bool) (p' q' : Float) → (s ≡ true → s' ≡ true) → (t ≡ true → t' ≡ true)
      → Bounds (range_low s' p' q') (range_high t' p' q') p → Bounds (range_low s' p' q') (range_high t' p' q') q
      → (range_low s' p' q' ≼ range_low s p q) × (range_high t p q ≼ range_high t' p' q')
  range-isotone s' t' p' q' f g i j = (low s f, high t g)
    where
      least : (s' : Bool) → s' ≡ true → range_low s' p' q' ≼ neg one
      least true e = ≼_refl (neg one) (number-left P.below)
      least false e = absurd (true≢false (sym e))

      greatest : (t' : Bool) → t' ≡ true → one ≼ range_high t' p' q'
      greatest true e = ≼_refl one (number-right P.above)
      greatest false e = absurd (true≢false (sym e))

      low : (s : Bool) → (s ≡ true → s' ≡ true) → range_low s' p' q' ≼ range_low s p q
      low true f = least s' (f refl)
      low false f = min-picks (λ (z : Float). range_low s' p' q' ≼ z) p q i.below j.below

      high : (t : Bool) → (t ≡ true → t' ≡ true) → range_high t p q ≼ range_high t' p' q'
      high true g = greatest t' (g refl)
      high false g = max-picks (λ (z : Float). z ≼ range_high t' p' q') p q i.above j.above

-- ---- one law for both functions

-- f rounds the rule g, whose values between u and v are not below both ends but where `low` passes, nor above both but where `high` does.
record Rule (f : Float → Float) (g : ℕ → ℕ) (low high : ℕ → ℕ → Bool) : Type 0 where
  at : {x : Float} → Angle x → f x ≡ biased_float (g (angle_units x))
  unit : {x : Float} → Angle x → Bounds (neg one) one (f x)
  above-end : (u w v : ℕ) → u ≤ w → w ≤ v → v ≤ 5 * quarter_turn → low u v ≡ false → (g u ≤ g w) ⊎ (g v ≤ g w)
  below_end : (u w v : ℕ) → u ≤ w → w ≤ v → v ≤ 5 * quarter_turn → high u v ≡ false → (g w ≤ g u) ⊎ (g w ≤ g v)
  low-wider : (u v u' v' : ℕ) → u' ≤ u → u ≤ v → v ≤ v' → low u v ≡ true → low u' v' ≡ true
  high-wider : (u v u' v' : ℕ) → u' ≤ u → u ≤ v → v ≤ v' → high u v ≡ true → high u' v' ≡ true

module _ {f : Float → Float} {g : ℕ → ℕ} {low high : ℕ → ℕ → Bool} (R : Rule f g low high) where
  ordered : {x y : Float} → Angle x → Angle y → g (angle_units x) ≤ g (angle_units y) → f x ≼ f y
  ordered {x} {y} X Y h = rw (R.at X, R.at Y) (biased-mono (g (angle_units x)) (g (angle_units y)) h)

  module _ {a b : Float} (A : Angle a) (B : Angle b) where
    rule-unit : (neg one ≼ range_low (low (angle_units a) (angle_units b)) (f a) (f b)) × (range_high (high (angle_units a) (angle_units b)) (f a) (f b) ≼ one)
    rule-unit = range-unit (low (angle_units a) (angle_units b)) (high (angle_units a) (angle_units b)) (f a) (f b) (R.unit A) (R.unit B)

    between : {x : Float} → a ≼ x → x ≼ b → Angle x
    between h k = record { from_zero = ≼_trans A.from_zero h; to-full-turn = ≼_trans k B.to-full-turn }

    rule-extends : {x : Float} → a ≼ x → x ≼ b
        → Bounds (range_low (low (angle_units a) (angle_units b)) (f a) (f b)) (range_high (high (angle_units a) (angle_units b)) (f a) (f b)) (f x)
    rule-extends {x} h k =
        let X = between h k in
        let u = angle_units-mono (angle-finite X) A.from_zero h in
        let v = angle_units-mono (angle-finite B) X.from_zero k in
        range-holds (low (angle_units a) (angle_units b)) (high (angle_units a) (angle_units b)) (f a) (f b) (R.unit A) (R.unit B) (f x) (R.unit X)
        (λ (e : low (angle_units a) (angle_units b) ≡ false). elim (R.above-end (angle_units a) (angle_units x) (angle_units b) u v (angle-units-le B) e)
        [ inl l ↦ inl (ordered A X l) | inr l ↦ inr (ordered B X l) ])
        (λ (e : high (angle_units a) (angle_units b) ≡ false). elim (R.below_end (angle_units a) (angle_units x) (angle_units b) u v (angle-units-le B) e)
        [ inl l ↦ inl (ordered X A l) | inr l ↦ inr (ordered X B l) ])

  rule-isotone : {a' a b b' : Float} → Angle a' → Angle b' → a' ≼ a → a ≼ b → b ≼ b'
      → (range_low (low (angle_units a') (angle_units b')) (f a') (f b') ≼ range_low (low (angle_units a) (angle_units b)) (f a) (f b))
      × (range_high (high (angle_units a) (angle_units b)) (f a) (f b) ≼ range_high (high (angle_units a') (angle_units b')) (f a') (f b'))
  rule-isotone {a'} {a} {b} {b'} A' B' h k l =
      let A = between A' B' h (≼_trans k l) in
      let B = between A' B' (≼_trans h k) l in
      let u = angle_units-mono (angle-finite A) A'.from_zero h in
      let w = angle_units-mono (angle-finite B) A.from_zero k in
      let v = angle_units-mono (angle-finite B') B.from_zero l in
      range-isotone (low (angle_units a) (angle_units b)) (high (angle_units a) (angle_units b)) (f a) (f b) (R.unit A) (R.unit B)
      (low (angle_units a') (angle_units b')) (high (angle_units a') (angle_units b')) (f a') (f b')
      (R.low-wider (angle_units a) (angle_units b) (angle_units a') (angle_units b') u w v)
      (R.high-wider (angle_units a) (angle_units b) (angle_units a') (angle_units b') u w v)
      (rule-extends A' B' h (≼_trans k l)) (rule-extends A' B' (≼_trans h k) l)

-- ---- the two rules

sin-rule : Rule sin biased_sin (lies (3 * quarter_turn)) (lies quarter_turn)
sin-rule =
    record {
      at = sin-at;
      unit = λ {x} X. sin-unit x (angle-near X);
      above-end = λ u w v h k l e. sin-above-end u w v h k l (lies-no (3 * quarter_turn) u v e);
      below_end = λ u w v h k l e. sin-below-end u w v h k l (lies-no quarter_turn u v e);
      low-wider = lies-wider (3 * quarter_turn);
      high-wider = lies-wider quarter_turn;
    }

abbrev cos_high_test : ℕ → ℕ → Bool
cos_high_test u v = lies 0 u v || lies (4 * quarter_turn) u v

cos-rule : Rule cos (λ (u : ℕ). biased (cos_units u)) (lies (2 * quarter_turn)) cos_high_test
cos-rule =
    record {
      at = cos-at;
      unit = λ {x} X. cos-unit x (angle-near X);
      above-end = λ u w v h k l e. cos-above-end u w v h k l (lies-no (2 * quarter_turn) u v e);
      below_end = λ u w v h k l e. below u w v h k l (lies 0 u v) (lies (4 * quarter_turn) u v) (lies-no 0 u v) (lies-no (4 * quarter_turn) u v) e;
      low-wider = lies-wider (2 * quarter_turn);
      high-wider = λ u v u' v' h k l. either (lies 0 u v) (lies (4 * quarter_turn) u v) (lies 0 u' v')
          (lies (4 * quarter_turn) u' v') (lies-wider 0 u v u' v' h k l) (lies-wider (4 * quarter_turn) u v u' v' h k l);
    }
  where
    below : (u w v : ℕ) → u ≤ w → w ≤ v → v ≤ 5 * quarter_turn → (s t : Bool)
        → (s ≡ false → (v < 0) ⊎ (0 < u)) → (t ≡ false → (v < 4 * quarter_turn) ⊎ (4 * quarter_turn < u))
        → (s || t) ≡ false → (biased (cos_units w) ≤ biased (cos_units u)) ⊎ (biased (cos_units w) ≤ biased (cos_units v))
    below u w v h k l true t f g e = absurd (true≢false e)
    below u w v h k l false t f g e = cos-below-end u w v h k l (elim (f refl) [ inl z ↦ absurd (omega arith) | inr z ↦ z ]) (g e)

    either : (s t s' t' : Bool) → (s ≡ true → s' ≡ true) → (t ≡ true → t' ≡ true) → (s || t) ≡ true → (s' || t') ≡ true
    either s t true t' f g e = refl
    either true t false t' f g e = absurd (true≢false (sym (f refl)))
    either false t false t' f g e = g e

-- ---- the theorems

module _ {a b : Float} (A : Angle a) (B : Angle b) where
  pub sin-range-unit : (neg one ≼ sin_low a b) × (sin_high a b ≼ one)
  unfolding sin_low sin_high
  sin-range-unit = rule-unit sin-rule A B

  pub cos-range-unit : (neg one ≼ cos_low a b) × (cos_high a b ≼ one)
  unfolding cos_low cos_high
  cos-range-unit = rule-unit cos-rule A B

  pub sin-extends : {x : Float} → a ≼ x → x ≼ b → Bounds (sin_low a b) (sin_high a b) (sin x)
  unfolding sin_low sin_high
  sin-extends h k = rule-extends sin-rule A B h k

  pub cos-extends : {x : Float} → a ≼ x → x ≼ b → Bounds (cos_low a b) (cos_high a b) (cos x)
  unfolding cos_low cos_high
  cos-extends h k = rule-extends cos-rule A B h k

module _ {a' a b b' : Float} (A : Angle a') (B : Angle b') (h : a' ≼ a) (k : a ≼ b) (l : b ≼ b') where
  pub sin-isotone : (sin_low a' b' ≼ sin_low a b) × (sin_high a b ≼ sin_high a' b')
  unfolding sin_low sin_high
  sin-isotone = rule-isotone sin-rule A B h k l

  pub cos-isotone : (cos_low a' b' ≼ cos_low a b) × (cos_high a b ≼ cos_high a' b')
  unfolding cos_low cos_high
  cos-isotone = rule-isotone cos-rule A B h k l
