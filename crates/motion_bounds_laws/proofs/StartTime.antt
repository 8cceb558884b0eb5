-- An unused place of the zero array means the start: the time of the zero +0 is no later than the start time (`lerp-start`), so that the start
-- transform moves the point (`point-at-start`). Rests on `rounds-below` and `rounds-above`: rounding never passes a value of the format.
use Prim.Native.Nat.{ℕ, ◌+◌, ◌*◌, ◌^◌, ◌<◌}
use mathlib.Core.Path.{◌≡◌, refl, sym, subst}
use mathlib.Core.Bool.{Bool, true, false, not, ◌||◌}
use native.Mathlib.Nat as nat
use native.Mathlib.Omega.{arith}
use lib.IntN.{ℤ}
use lib.Dec.{T}
use lib.Ieee.{Float, nan, inf, fin, binary32, fits, up, down, round, of_bits, add, sub, neg}
use lib.Ieee.Bits.{is_true}
use lib.Ieee.Fits.{down_pos, mul-fits}
use lib.Ieee.Exact.{HasValue, round_exact}
use lib.Ieee.Scale.{finite}
use lib.Ieee.Positive.{den, den_pos}
use Rattle.motion_bounds.specs.rounding.Order.{◌≼◌}
use Rattle.motion_bounds.proofs.rounding.Rational.{pos_part, neg_part, num_pos, num_neg, FractionLe}
use Rattle.motion_bounds.proofs.rounding.Order.{≼_trans, between-finite, of-fraction}
use Rattle.motion_bounds.proofs.rounding.Monotone.{Rounds, rounds-mono}
use Rattle.motion_bounds.proofs.rounding.Arithmetic.{add_rounds, mul-rounds}
use Rattle.motion_bounds.specs.float32.Operators.{◌⊕◌, ◌⊖◌, ◌⊗◌, one}
use Rattle.motion_bounds.specs.float32.Lerp.{lerp}
use Rattle.motion_bounds.proofs.float32.Constants.{one-finite}
use Rattle.motion_bounds.specs.matrix4x4.Rows.{positive_zero}
use Rattle.motion_bounds.proofs.matrix4x4.Zero.{Zero, signed, zero-zero, zero-mul}
use Rattle.motion_bounds.specs.bounds3.declared.Point3f.{Point3f}
use Rattle.motion_bounds.specs.transform.TransformPoint.{Transform-transform_point}
use Rattle.motion_bounds.specs.pose_steps.declared.PoseConstants.{PoseConstants}
use Rattle.motion_bounds.specs.animated_transform.declared.AnimatedTransform.{AnimatedTransform}
use Rattle.motion_bounds.specs.animated_transform.Built.{Built}
use Rattle.motion_bounds.proofs.animated_transform.Built.{built-judged}
use Rattle.motion_bounds.proofs.motion_point.Query.{moved-point-start}
use Rattle.motion_bounds.specs.MotionBounds.{point_at}
use Rattle.motion_bounds.specs.float_bits.Decode.{integer_decode}
use Rattle.motion_bounds.proofs.float_bits.Decode.{magnitude-lt, decode-exact, decode-value, significand-lt}

-- ---- a value of the format is its own rounding
module _ (s : Bool) (m : ℕ) (e : ℤ) (h : T (fits binary32 (fin s m e))) where
  own_value : HasValue (round binary32 s (m * up e) (down e)) s (m * up e) (down e)
  own_value =
      let x = fin s m e in
      round_exact binary32 s (m * up e) (down e) (integer_decode x).significand (integer_decode x).exponent (down_pos e) (significand-lt x)
      (subst (λ (k : ℕ). k < 2 ^ 277) (sym (decode-exact x h)) (magnitude-lt x h)) (decode-value x h tt).1

equal-fractions : (s : Bool) (a c b d : ℕ) → a * d ≡ b * c → FractionLe (pos_part s a) (neg_part s a) c (pos_part s b) (neg_part s b) d
equal-fractions true a c b d q = omega arith
equal-fractions false a c b d q = omega arith

equal-value : (s : Bool) (m : ℕ) (e : ℤ) (y : Float) → HasValue y s (m * up e) (down e) → (y ≼ fin s m e) × (fin s m e ≼ y)
equal-value s m e nan v = absurd v
equal-value s m e (inf t) v = absurd v
equal-value s m e (fin t n d) (p, q) =
    rw p (
      of-fraction tt tt (equal-fractions s (n * up d) (down d) (m * up e) (down e) q),
      of-fraction tt tt (equal-fractions s (m * up e) (down e) (n * up d) (down d) (sym q)),
    )

module _ {z : Float} {p n d : ℕ} (r : Rounds binary32 z p n d) (D : 0 < d) where
  rounds-below : (x : Float) → T (finite x) → T (fits binary32 x) → FractionLe p n d (num_pos x) (num_neg x) (den x) → z ≼ x
  rounds-below nan f h l = absurd f
  rounds-below (inf s) f h l = absurd f
  rounds-below (fin s m e) f h l =
      ≼_trans (rounds-mono r (record { sign = s; size = m * up e; is = refl; value = refl }) D (down_pos e) l) (equal-value s m e _ (own_value s m e h)).0

  rounds-above : (x : Float) → T (finite x) → T (fits binary32 x) → FractionLe (num_pos x) (num_neg x) (den x) p n d → x ≼ z
  rounds-above nan f h l = absurd f
  rounds-above (inf s) f h l = absurd f
  rounds-above (fin s m e) f h l =
      ≼_trans (equal-value s m e _ (own_value s m e h)).1 (rounds-mono (record { sign = s; size = m * up e; is = refl; value = refl }) r (down_pos e) D l)

-- ---- one times such a value, and that plus a zero
module _ (x : Float) (f : T (finite x)) (h : T (fits binary32 x)) where
  one-rounds : Rounds binary32 (one ⊗ x) (1 * num_pos x + 0 * num_neg x) (1 * num_neg x + 0 * num_pos x) (1 * den x)
  unfolding of_bits
  one-rounds = mul-rounds binary32 one x one-finite f

  one-mul-below : one ⊗ x ≼ x
  one-mul-below = rounds-below one-rounds (omega (arith, den_pos x)) x f h (same (num_pos x) (num_neg x) (den x))
    where
      same : (p n d : ℕ) → FractionLe (1 * p + 0 * n) (1 * n + 0 * p) (1 * d) p n d
      same p n d = omega arith

  one-mul-above : x ≼ one ⊗ x
  one-mul-above = rounds-above one-rounds (omega (arith, den_pos x)) x f h (same (num_pos x) (num_neg x) (den x))
    where
      same : (p n d : ℕ) → FractionLe p n d (1 * p + 0 * n) (1 * n + 0 * p) (1 * d)
      same p n d = omega arith

  add-zero-below : {z : Float} → Zero z → x ⊕ z ≼ x
  add-zero-below (signed s e) =
      let z = fin s 0 e in
      rounds-below (add_rounds binary32 x z f tt) (nat.mul-pos (den_pos x) (down_pos e)) x f h
      (same (num_pos x) (num_neg x) (den x) (down e) (positive s) (negative s))
    where
      positive : (s : Bool) → pos_part s (0 * up e) ≡ 0
      positive true = refl
      positive false = nat.zero-mul (up e)

      negative : (s : Bool) → neg_part s (0 * up e) ≡ 0
      negative true = nat.zero-mul (up e)
      negative false = refl

      same : (p n d c : ℕ) {q m : ℕ} → q ≡ 0 → m ≡ 0 → FractionLe (p * c + q * d) (n * c + m * d) (d * c) p n d
      same p n d c a b = rw (a, b) (omega arith)

-- ---- the time of an unused place
whole-start : one ⊖ positive_zero ≡ one
unfolding sub add neg round of_bits
whole-start = refl

pub lerp-start : (s e : Float) → T (finite s) → T (fits binary32 s) → T (finite e) → lerp positive_zero s e ≼ s
unfolding lerp
lerp-start s e f h g =
    let product = one ⊗ s in
    let below = one-mul-below s f h in
    let above = one-mul-above s f h in
    rw whole-start (≼_trans (add-zero-below product (between-finite f f above below) (mul-fits binary32 one s) (zero-mul e zero-zero g)) below)

module _ {m : AnimatedTransform} (built : Built m) (a : PoseConstants) (p : Point3f) where
  pub point-at-start : point_at m a p positive_zero ≡ Transform-transform_point m.start_transform p
  unfolding point_at
  point-at-start =
      let j = built-judged built in
      let t = lerp-start m.start_time m.end_time j.start-time j.start-binary32 j.end-time in
      moved-point-start m a _ p (either (not m.actually_animated) (is_true _ t.holds))
    where
      either : (b : Bool) {c : Bool} → c ≡ true → b || c ≡ true
      either true e = refl
      either false e = e
