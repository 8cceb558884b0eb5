-- An operation on intervals of one number gives the interval of one number, the float operation's, bit for bit: `add-point` and its like. For sine and cosine
-- this rests on what they are at the quarters' places, where document 01 puts 1 and -1.
use Rattle.std.proofs.Common.{◌≡◌, ℕ, ◌*◌, ◌≤◌, min, max, Bool, true, false, cond, ◌&&◌, ◌||◌, leb, ◌⊎◌, sym, refl, ap, ◌∙◌, ap₂, inl, inr, true≢false, arith, leb-true}
use lib.Ieee.{Float, binary32, of_bits, is_nan, lt, le, neg}
use lib.Ieee.Fits.{and_l, and_r}
use Rattle.float32.specs.MinMax.{min_num, max_num}
use Rattle.float32.specs.Operators.{◌⊕◌, ◌⊖◌, ◌⊗◌, ◌⊘◌, one}
use Rattle.square_root.specs.SquareRoot.{sqrt}
use Rattle.trig.specs.sine_table.Table.{quarter_turn}
use Rattle.trig.specs.Biased.{biased, biased_sin}
use Rattle.trig.specs.Units.{angle_units, cos_units}
use Rattle.trig.specs.SinCos.{sin, cos}
use Rattle.trig.specs.means.Computing.{computing}
use Rattle.trig.specs.Range.{Angle, full_turn_float, lies, sin_low, sin_high, cos_low, cos_high}
use Rattle.trig.proofs.Monotone.{biased_float, sin-at, cos-at}
use Rattle.interval.specs.Interval.{Interval-new, Interval-point, Interval-hull, Interval-of_four}
use Rattle.interval.specs.Enclosure.{Interval-add_enclosure, Interval-sub_enclosure, Interval-mul_enclosure, Interval-div_enclosure}
use Rattle.interval.specs.Enclosure.{Interval-sqrt_enclosure, Interval-sin_enclosure, Interval-cos_enclosure}
use Rattle.interval.specs.Extension.{Angles}

-- ---- least and greatest of a number and itself
same : (x : Float) (b c : Bool) → cond b x (cond c x x) ≡ x
same x true c = refl
same x false true = refl
same x false false = refl

pub min-same : (x : Float) → min_num x x ≡ x
unfolding min_num
min-same x = same x (is_nan x) (lt x x)

pub max-same : (x : Float) → max_num x x ≡ x
unfolding max_num
max-same x = same x (is_nan x) (lt x x)

four_same : (x : Float) → Interval-of_four x x x x ≡ Interval-point x
unfolding Interval-of_four Interval-hull Interval-new
four_same x = simp (min-same, max-same)

-- ---- the operations
module _ (x y : Float) where
  pub add-point : Interval-add_enclosure (Interval-point x) (Interval-point y) ≡ Interval-point (x ⊕ y)
  unfolding Interval-add_enclosure
  add-point = refl

  pub sub-point : Interval-sub_enclosure (Interval-point x) (Interval-point y) ≡ Interval-point (x ⊖ y)
  unfolding Interval-sub_enclosure
  sub-point = refl

  pub mul-point : Interval-mul_enclosure (Interval-point x) (Interval-point y) ≡ Interval-point (x ⊗ y)
  unfolding Interval-mul_enclosure
  mul-point = four_same (x ⊗ y)

  pub div-point : Interval-div_enclosure (Interval-point x) (Interval-point y) ≡ Interval-point (x ⊘ y)
  unfolding Interval-div_enclosure
  div-point = four_same (x ⊘ y)

pub sqrt-point : (x : Float) → Interval-sqrt_enclosure (Interval-point x) ≡ Interval-point (sqrt binary32 x)
unfolding Interval-sqrt_enclosure
sqrt-point x = refl

-- ---- the quarters' places
sin-at-quarter : biased_float (biased_sin quarter_turn) ≡ one
unfolding computing
sin-at-quarter = refl

sin-at-three-quarters : biased_float (biased_sin (3 * quarter_turn)) ≡ neg one
unfolding computing
sin-at-three-quarters = refl

cos-at-zero : biased_float (biased (cos_units 0)) ≡ one
unfolding computing
cos-at-zero = refl

cos-at-half : biased_float (biased (cos_units (2 * quarter_turn))) ≡ neg one
unfolding computing
cos-at-half = refl

cos-at-full : biased_float (biased (cos_units (4 * quarter_turn))) ≡ one
unfolding computing
cos-at-full = refl

-- A place that lies from u to u is u.
lies_same : (w u : ℕ) → lies w u u ≡ true → u ≡ w
lies_same w u e = split (leb (min u u) w) (leb w (max u u)) (leb-true (min u u) w) (leb-true w (max u u)) e
  where
    split : (s t : Bool) → (s ≡ true → min u u ≤ w) → (t ≡ true → w ≤ max u u) → (s && t) ≡ true → u ≡ w
    split true true f g e = let h = f refl in let k = g refl in omega arith
    split true false f g e = absurd (true≢false (sym e))
    split false t f g e = absurd (true≢false (sym e))

either_same : (w w' u : ℕ) → (lies w u u || lies w' u u) ≡ true → (u ≡ w) ⊎ (u ≡ w')
either_same w w' u e = split (lies w u u) (lies w' u u) (lies_same w u) (lies_same w' u) e
  where
    split : (s t : Bool) → (s ≡ true → u ≡ w) → (t ≡ true → u ≡ w') → (s || t) ≡ true → (u ≡ w) ⊎ (u ≡ w')
    split true t f g e = inl (f refl)
    split false t f g e = inr (g e)

-- Where the test puts z in the place of q, the value is z.
unless-place : (t : Bool) (z p q : Float) → (t ≡ true → p ≡ z) → q ≡ p → cond t z q ≡ p
unless-place true z p q f e = sym (f refl)
unless-place false z p q f e = e

pub point-angle : (x : Float) → Angles (Interval-point x) → Angle x
point-angle x d =
    record {
      from_zero = record { holds = and_l (le (of_bits binary32 0) x) (le x full_turn_float) d };
      to-full-turn = record { holds = and_r (le (of_bits binary32 0) x) (le x full_turn_float) d };
    }

module _ {x : Float} (A : Angle x) where
  sin-place : (w : ℕ) (z : Float) → biased_float (biased_sin w) ≡ z → angle_units x ≡ w → sin x ≡ z
  sin-place w z e h = sin-at A ∙ ap (λ (u : ℕ). biased_float (biased_sin u)) h ∙ e

  cos-place : (w : ℕ) (z : Float) → biased_float (biased (cos_units w)) ≡ z → angle_units x ≡ w → cos x ≡ z
  cos-place w z e h = cos-at A ∙ ap (λ (u : ℕ). biased_float (biased (cos_units u))) h ∙ e

  pub sin-point : Interval-sin_enclosure (Interval-point x) ≡ Interval-point (sin x)
  unfolding Interval-sin_enclosure sin_low sin_high
  sin-point =
      let u = angle_units x in
      ap₂ (λ (l h : Float). record { low = l; high = h })
      (unless-place (lies (3 * quarter_turn) u u) (neg one) (sin x) (min_num (sin x) (sin x))
      (λ e. sin-place (3 * quarter_turn) (neg one) sin-at-three-quarters (lies_same (3 * quarter_turn) u e)) (min-same (sin x)))
      (unless-place (lies quarter_turn u u) one (sin x) (max_num (sin x) (sin x))
      (λ e. sin-place quarter_turn one sin-at-quarter (lies_same quarter_turn u e)) (max-same (sin x)))

  pub cos-point : Interval-cos_enclosure (Interval-point x) ≡ Interval-point (cos x)
  unfolding Interval-cos_enclosure cos_low cos_high
  cos-point =
      let u = angle_units x in
      ap₂ (λ (l h : Float). record { low = l; high = h })
      (unless-place (lies (2 * quarter_turn) u u) (neg one) (cos x) (min_num (cos x) (cos x))
      (λ e. cos-place (2 * quarter_turn) (neg one) cos-at-half (lies_same (2 * quarter_turn) u e)) (min-same (cos x)))
      (unless-place (lies 0 u u || lies (4 * quarter_turn) u u) one (cos x) (max_num (cos x) (cos x))
      (λ e. elim (either_same 0 (4 * quarter_turn) u e) [ inl h ↦ cos-place 0 one cos-at-zero h | inr h ↦ cos-place (4 * quarter_turn) one cos-at-full h ])
      (max-same (cos x)))
