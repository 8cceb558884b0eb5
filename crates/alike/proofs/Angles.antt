-- Sine and cosine of an interval of angles from 0 to a quarter turn are least and greatest of the values at its two ends: `sin-new`, `cos-new`. The
-- float nearest to a quarter turn lies beyond it, by 12 units; but its sine is 1, so that no test for the quarter turn is needed.
use mathlib.Core.Path.{◌≡◌, refl, sym, ap, subst, ◌∙◌}
use mathlib.Core.Logic.{◌⊎◌, inl, inr}
use mathlib.Core.Bool.{Bool, true, false, not, cond, ◌&&◌, ◌||◌}
use Prim.Native.Nat.{ℕ, ◌+◌, ◌-◌, ◌*◌, ◌^◌, ◌≤◌, ◌<◌, min, max}
use native.Mathlib.Omega.{arith}
use native.Mathlib.Decide.{dec_lt}
use lib.Dec.{T, leb, leb→le}
use lib.Ieee.{fits}
use lib.Ieee.Bits.{of_bits-fits}
use lib.Ieee.Scale.{finite}
use lib.Ieee.{Float, binary32, of_bits, is_nan, lt, le}
use Rattle.own_rounding.specs.rounding.Order.{◌≼◌, Number}
use Rattle.own_rounding.proofs.rounding.Order.{finite_number, number-left, not-lt-≼}
use Rattle.own_rounding.specs.float32.MinMax.{min_num, max_num}
use Rattle.own_rounding.specs.float32.Operators.{one}
use Rattle.own_rounding.proofs.float32.Constants.{one-finite}
use Rattle.interval_unjudged.specs.sine_table.Table.{quarter_turn}
use Rattle.interval_unjudged.specs.trig.Biased.{biased, biased_sin}
use Rattle.interval_unjudged.specs.trig.Units.{angle_units, cos_units}
use Rattle.interval_unjudged.specs.trig.SinCos.{sin, cos}
use Rattle.interval_unjudged.specs.trig.means.Computing.{computing}
use Rattle.interval_unjudged.specs.trig.Units.{fixed}
use Rattle.interval_unjudged.specs.trig.Range.{Angle, lies, quarter_turn_float, sin_low, sin_high, cos_low, cos_high}
use Rattle.interval_unjudged.proofs.trig.Units.{sin-falls}
use Rattle.interval_unjudged.proofs.trig.Monotone.{biased_float, sin-at, sin-unit, cos-at, cos-unit, angle-near, angle-finite, angle_units-mono}
use Rattle.interval_unjudged.specs.interval.Interval.{Interval-new}
use Rattle.interval_unjudged.specs.interval.Enclosure.{Interval-sin_enclosure, Interval-cos_enclosure}
use Rattle.own_rounding.specs.means.Alike.{Alike}
use Rattle.alike.proofs.Values.{alike-values}
use Rattle.alike.proofs.Turns.{sin-fits}
use Rattle.alike.proofs.Compare.{lt-not-≼}

-- ---- tests
fails : (b : Bool) → (T b → ⊥) → b ≡ false
fails true h = absurd (h tt)
fails false h = refl

-- w doesn't lie from u to v.
outside : (w u v : ℕ) → u ≤ v → (v < w) ⊎ (w < u) → lies w u v ≡ false
outside w u v h k = go (leb (min u v) w) (leb w (max u v)) (leb→le (min u v) w) (leb→le w (max u v))
  where
    never : (v < w) ⊎ (w < u) → min u v ≤ w → w ≤ max u v → ⊥
    never (inl l) p q = omega arith
    never (inr l) p q = omega arith

    go : (s t : Bool) → (T s → min u v ≤ w) → (T t → w ≤ max u v) → (s && t) ≡ false
    go true true f g = absurd (never k (f tt) (g tt))
    go true false f g = refl
    go false t f g = refl

-- ---- the cosine of 0
cos-at-zero : biased_float (biased (cos_units 0)) ≡ one
unfolding computing
cos-at-zero = refl

max-one : (z : Float) → z ≼ one → one ≡ max_num one z
unfolding max_num
max-one z h = go (is_nan one) (lt one z) (finite_number one one-finite) (λ t. lt-not-≼ one z t h)
  where
    go : (b c : Bool) → T (not b) → (T c → ⊥) → one ≡ cond b z (cond c z one)
    go true c n k = absurd n
    go false true n k = absurd (k tt)
    go false false n k = refl

-- ---- the sine beyond a quarter turn
turn-units : angle_units quarter_turn_float ≡ quarter_turn + 12
unfolding of_bits fixed
turn-units = refl

turn-finite : T (finite quarter_turn_float)
unfolding of_bits
turn-finite = tt

sin-top : biased_sin quarter_turn ≡ 2 ^ 31
unfolding computing
sin-top = refl

sin-beyond : biased_sin (quarter_turn + 12) ≡ 2 ^ 31 - 1
unfolding computing
sin-beyond = refl

one-top : biased_float (2 ^ 31) ≡ one
unfolding computing
one-top = refl

one-next : biased_float (2 ^ 31 - 1) ≡ one
unfolding computing
one-next = refl

-- Both round to 1.
rounds-top : (n : ℕ) → 2 ^ 31 - 1 ≤ n → n ≤ 2 ^ 31 → biased_float n ≡ one
rounds-top n h k = elim (split (dec_lt n (2 ^ 31))) [
  | inl e ↦ ap biased_float e ∙ one-top
  | inr l ↦ ap biased_float (let m : n ≡ 2 ^ 31 - 1 = omega (arith, h, l) in m) ∙ one-next
]
  where
    split : Dec (n < 2 ^ 31) → (n ≡ 2 ^ 31) ⊎ (n < 2 ^ 31)
    split (yes l) = inr l
    split (no l) = inl (omega (arith, k, l))

one-above : Alike one (of_bits binary32 0) → ⊥
one-above a = let h = a.to.holds in no h
  where
    no : T (le one (of_bits binary32 0)) → ⊥
    no h = unfold le of_bits in h

-- Of what is at most 1, the greatest with 1 is 1.
max-last : (z : Float) → Number z → T (fits binary32 z) → z ≼ one → one ≡ max_num z one
unfolding max_num
max-last z n v h = go (is_nan z) (lt z one) n (not-lt-≼ one z (finite_number one one-finite) n)
  where
    same : Alike z one → one ≡ z
    same a = elim (alike-values v (of_bits-fits binary32 0x3f800000) a) [ inl e ↦ sym e | inr k ↦ absurd (one-above k.1) ]

    go : (b c : Bool) → T (not b) → (T (not c) → one ≼ z) → one ≡ cond b one (cond c one z)
    go true c k f = refl
    go false true k f = refl
    go false false k f = same (record { to = h; from = f tt })

module _ {a b : Float} (A : Angle a) (B : Angle b) (h : a ≼ b) (q : b ≼ quarter_turn_float) where
  order : angle_units a ≤ angle_units b
  order = angle_units-mono (angle-finite B) A.from_zero h

  to-turn : angle_units b ≤ quarter_turn + 12
  to-turn = subst (λ (n : ℕ). angle_units b ≤ n) turn-units (angle_units-mono turn-finite B.from_zero q)

  below_two : angle_units b < 2 * quarter_turn
  below_two = let k = to-turn in omega arith

  at-half : lies (2 * quarter_turn) (angle_units a) (angle_units b) ≡ false
  at-half = outside (2 * quarter_turn) (angle_units a) (angle_units b) order (inl below_two)

  at-three : lies (3 * quarter_turn) (angle_units a) (angle_units b) ≡ false
  at-three = outside (3 * quarter_turn) (angle_units a) (angle_units b) order (inl (let k = below_two in omega arith))

  at-full : lies (4 * quarter_turn) (angle_units a) (angle_units b) ≡ false
  at-full = outside (4 * quarter_turn) (angle_units a) (angle_units b) order (inl (let k = below_two in omega arith))

  -- Where the quarter turn lies between them, the sine of the second is 1.
  peak : quarter_turn ≤ angle_units b → one ≡ max_num (sin a) (sin b)
  peak l =
      let u = sin-falls quarter_turn (angle_units b) (omega arith) l (let k = below_two in omega arith) in
      let v = sin-falls (angle_units b) (quarter_turn + 12) l to-turn (omega arith) in
      let e = rounds-top (biased_sin (angle_units b)) (subst (λ (n : ℕ). n ≤ biased_sin (angle_units b)) sin-beyond v)
      (subst (λ (n : ℕ). biased_sin (angle_units b) ≤ n) sin-top u) in
      let f : sin b ≡ one = sin-at B ∙ e in
      let w = (sin-unit a (angle-near A)).above in
      rw f (max-last (sin a) (number-left w) (sin-fits a) w)

  pub sin-new : Interval-sin_enclosure (record { low = a; high = b }) ≡ Interval-new (sin a) (sin b)
  unfolding Interval-sin_enclosure sin_low sin_high Interval-new
  sin-new = rw at-three (ap (λ (x : Float). record { low = min_num (sin a) (sin b); high = x })
      (go (leb (min (angle_units a) (angle_units b)) quarter_turn) (leb quarter_turn (max (angle_units a) (angle_units b)))
      (leb→le quarter_turn (max (angle_units a) (angle_units b)))))
    where
      go : (s t : Bool) → (T t → quarter_turn ≤ max (angle_units a) (angle_units b)) → cond (s && t) one (max_num (sin a) (sin b)) ≡ max_num (sin a) (sin b)
      go false t k = refl
      go true false k = refl
      go true true k = peak (let l = k tt in let o = order in omega arith)

  -- From 0 on the cosine's greatest is its value at the low end, which is 1 there.
  high : cond (lies 0 (angle_units a) (angle_units b) || false) one (max_num (cos a) (cos b)) ≡ max_num (cos a) (cos b)
  high = go (leb (min (angle_units a) (angle_units b)) 0) (leb→le (min (angle_units a) (angle_units b)) 0)
    where
      start : angle_units a ≡ 0 → one ≡ max_num (cos a) (cos b)
      start z =
          let e : cos a ≡ one = cos-at A ∙ ap (λ (u : ℕ). biased_float (biased (cos_units u))) z ∙ cos-at-zero in
          rw e (max-one (cos b) (cos-unit b (angle-near B)).above)

      go : (s : Bool) → (T s → min (angle_units a) (angle_units b) ≤ 0)
          → cond (s && leb 0 (max (angle_units a) (angle_units b)) || false) one (max_num (cos a) (cos b)) ≡ max_num (cos a) (cos b)
      go false k = refl
      go true k = held (leb 0 (max (angle_units a) (angle_units b)))
        where
          held : (t : Bool) → cond (t || false) one (max_num (cos a) (cos b)) ≡ max_num (cos a) (cos b)
          held true = start (let l = k tt in let o = order in omega arith)
          held false = refl

  pub cos-new : Interval-cos_enclosure (record { low = a; high = b }) ≡ Interval-new (cos a) (cos b)
  unfolding Interval-cos_enclosure cos_low cos_high Interval-new
  cos-new = rw (at-half, at-full) (ap (λ (x : Float). record { low = min_num (cos a) (cos b); high = x }) high)
