-- What far angles do to the zero search: a run of Newton's steps that meets one stores no zero, whatever the coefficients (`stores-none`); with the theta of a
-- built move with rotation it ends in NaN (`rotation-ends-in-nan`), with any built move's where it is met below 2^127 (`built-ends-in-nan`).
-- No angle of a built move's poses or covers is far (`built-angles-near`).
-- A theta of 2^127 or more in size makes both angles of the first step far, since a midpoint is at least 2^-9; with a smaller one a run ends in NaN, or where
-- it is, at a t of 2^127 or more in size, which lies outside the search's intervals. At such a t both angles are far where theta is at least 2^-28.
use mathlib.Core.Path.{◌≡◌, refl, sym, ap, subst, ◌∙◌}
use mathlib.Core.Logic.{◌⊎◌, inl, inr}
use mathlib.Core.Bool.{Bool, true, false, not, cond, true≢false}
use Prim.Native.Nat.{ℕ, zero, suc, ◌+◌, ◌*◌, ◌^◌, ◌≤◌, ◌<◌}
use native.Mathlib.Nat.{le_trans, mul-pos, mul-le-mul, mul-le-mul_right}
use native.Mathlib.Omega.{arith}
use borrow.Author.Tests.{ltb-false, lt-ltb, le-ltb}
use lib.IntN.{ℤ}
use lib.Dec.{T, eqb, lit≤, lit<}
use lib.Ieee.{Float, nan, inf, fin, binary32, up, down, unlike, round, add, sub, mul, neg, lt, le, eq, is_nan, of_bits, fits}
use lib.Ieee.Fits.{down_pos, and_l, and_r, cond-fits, nan-fits, round-fits, mul-fits}
use lib.Ieee.Scale.{finite}
use Rattle.zero_search.specs.rounding.Order.{◌≼◌}
use Rattle.zero_search.proofs.rounding.Order.{≼_trans, to-fraction, lt-≼}
use Rattle.zero_search.proofs.rounding.Monotone.{round-neg, round_mono}
use Rattle.zero_search.specs.float32.Abs.{abs}
use Rattle.zero_search.specs.float32.MinMax.{min_num, max_num}
use Rattle.zero_search.specs.float32.Operators.{◌⊕◌, ◌⊖◌, ◌⊗◌, positive_zero, one, two}
use Rattle.zero_search.specs.float32.Clamp.{clamp}
use Rattle.zero_search.specs.trig.SinCos.{near}
use Rattle.motion_point.specs.arc_cosine.Acos.{in_domain, least_angle, floor_units, acos}
use Rattle.zero_search.specs.trig.Range.{quarter_turn_float, half_turn_float, full_turn_float}
use Rattle.zero_search.proofs.trig.Monotone.{angle-near}
use Rattle.motion_point.specs.quaternion.Quaternion.{Quaternion-dot}
use Rattle.zero_search.specs.interval.declared.Interval.{Interval}
use Rattle.zero_search.specs.interval.Contains.{Contains, Subset, Finite}
use Rattle.zero_search.specs.interval.Interval.{Interval-new, Interval-point, Interval-hull, Interval-midpoint, Interval-of_four}
use Rattle.zero_search.specs.interval.Enclosure.{Interval-add_enclosure, Interval-sub_enclosure, Interval-mul_enclosure}
use Rattle.zero_search.proofs.interval.Contains.{subset-low, subset-high, contains-finite, point-encloses}
use Rattle.zero_search.proofs.interval.Extends.{add-contains, sub-contains, mul-contains}
use Rattle.zero_search.proofs.interval.Isotone.{of-four-subset}
use Rattle.motion_point.specs.unit_interval.Unit.{unit_interval, slice_end}
use Rattle.motion_point.proofs.unit_interval.DtUnit.{dt-unit}
use Rattle.motion_point.specs.pose_steps.Pose.{PoseConstants-new}
use Rattle.motion_point.proofs.pose_steps.Angle.{unit-finite, theta-quarter}
use Rattle.zero_search.specs.motion_derivative.declared.MotionDerivative.{MotionDerivative}
use Rattle.zero_search.specs.motion_derivative.Derivative.{MotionDerivative-newton}
use Rattle.zero_search.specs.zero_list.declared.Zeros.{Zeros}
use Rattle.zero_search.specs.Search.{newton_zero}
use Rattle.zero_search.specs.zero_list.Zeros.{tolerance, near_interval, Zeros-store, Zeros-accept}
use Rattle.zero_search.proofs.Stored.{accept-nan}
use Rattle.motion_point.specs.animated_transform.declared.AnimatedTransform.{AnimatedTransform}
use Rattle.motion_point.specs.animated_transform.Built.{Built}
use Rattle.motion_point.proofs.animated_transform.Built.{built-judged}
use Rattle.motion_point.specs.TransformPoint.{AnimatedTransform-constants}
use Rattle.search_range.specs.Far.{Far, MeetsFar, Doubles, EndsInNan, EndsInNanBelow, StoresNone, AnglesNear}
use Rattle.search_range.proofs.Examined.{examined-unit}
use Rattle.search_range.proofs.Assertions.{half_turn, scale-half-turn, angles-subset}
use Rattle.search_range.proofs.Newton.{mul-nan, nan-far, newton-far, newton-one-far, further-newton, ends-in-nan}
use Rattle.search_range.proofs.Midpoints.{highs, examined-midpoint}
use Rattle.search_range.proofs.Rotation.{rotations, rotation-theta}

-- |x| is 2^127 or more, or x is not finite.
abbrev Large : Float → Type 0
Large x = lt (abs x) (of_bits binary32 0x7f000000) ≡ false

-- ---- a product that is far
infinite-far : (s : Bool) → Far (inf s)
unfolding lt abs of_bits
infinite-far s = refl

none-or-infinite : (b s : Bool) → Far (cond b nan (inf s))
none-or-infinite true s = nan-far
none-or-infinite false s = infinite-far s

times-infinite : (x : Float) (s : Bool) → Far (x ⊗ inf s)
unfolding mul
times-infinite nan s = nan-far
times-infinite (inf r) s = infinite-far (unlike r s)
times-infinite (fin r m e) s = none-or-infinite (eqb m 0) (unlike r s)

infinite-times : (s : Bool) (x : Float) → Far (inf s ⊗ x)
unfolding mul
infinite-times s nan = nan-far
infinite-times s (inf r) = infinite-far (unlike s r)
infinite-times s (fin r m e) = none-or-infinite (eqb m 0) (unlike s r)

far-above : (x : Float) → of_bits binary32 0x4b800000 ≼ x → Far x
unfolding lt abs of_bits
far-above nan h = refl
far-above (inf s) h = refl
far-above (fin true m e) h =
    let l = to-fraction {x = fin false 1 (ℤ.pos 24)} {y = fin true m e} tt tt h in
    let d = down_pos e in
    absurd (omega (arith, l, d))
far-above (fin false m e) h =
    let l = to-fraction {x = fin false 1 (ℤ.pos 24)} {y = fin false m e} tt tt h in
    le-ltb (m * up e * 1) (1 * 2 ^ 24 * down e) (omega (arith, l))

abs_neg : (x : Float) → abs (neg x) ≡ abs x
unfolding abs neg
abs_neg nan = refl
abs_neg (inf s) = refl
abs_neg (fin s m e) = refl

near-signed : (s : Bool) (a c : ℕ) → near (round binary32 s a c) ≡ near (round binary32 false a c)
near-signed true a c = rw (round-neg binary32 a c, abs_neg (round binary32 false a c))
near-signed false a c = refl

limit_is : round binary32 false (2 ^ 24) 1 ≡ of_bits binary32 0x4b800000
unfolding round of_bits
limit_is = refl

round-far : (s : Bool) (a c : ℕ) → 0 < c → 2 ^ 24 * c ≤ a → Far (round binary32 s a c)
round-far s a c C h =
    near-signed s a c
    ∙ far-above (round binary32 false a c)
    (subst (λ (x : Float). x ≼ round binary32 false a c) limit_is (round_mono binary32 false false (2 ^ 24) a 1 c (lit< tt) C (omega (arith, h))))

-- ---- twice a large number overflows
top-is : round binary32 false (2 ^ 128) 1 ≡ inf false
unfolding round
top-is = refl

top-only : (x : Float) → inf false ≼ x → x ≡ inf false
unfolding le lt eq
top-only nan h = absurd h.holds
top-only (inf true) h = absurd h.holds
top-only (inf false) h = refl
top-only (fin s m e) h = absurd h.holds

over-positive : (a c : ℕ) → 0 < c → 2 ^ 128 * c ≤ a → round binary32 false a c ≡ inf false
over-positive a c C h =
    top-only (round binary32 false a c)
    (subst (λ (x : Float). x ≼ round binary32 false a c) top-is (round_mono binary32 false false (2 ^ 128) a 1 c (lit< tt) C (fraction (2 ^ 128) a c h)))
  where
    fraction : (k a c : ℕ) → k * c ≤ a → k * c + 0 * 1 ≤ a * 1 + 0 * c
    fraction k a c h = omega arith

round-over : (s : Bool) (a c : ℕ) → 0 < c → 2 ^ 128 * c ≤ a → round binary32 s a c ≡ inf s
round-over false a c C h = over-positive a c C h
round-over true a c C h = round-neg binary32 a c ∙ ap neg (over-positive a c C h) ∙ (unfold neg in refl)

large-size : (s : Bool) (m : ℕ) (e : ℤ) → Large (fin s m e) → 2 ^ 127 * down e ≤ m * up e
unfolding lt abs of_bits
large-size s m e h = clear (m * up e) (2 ^ 127) (down e) (ltb-false (m * up e * 1) (1 * 2 ^ 127 * down e) h)
  where
    clear : (a k d : ℕ) → 1 * k * d ≤ a * 1 → k * d ≤ a
    clear a k d h = omega arith

large-value : (θ t : Float) → Large θ → Far (two ⊗ θ ⊗ t)
unfolding mul of_bits
large-value nan t h = nan-far
large-value (inf s) t h = infinite-times (unlike false s) t
large-value (fin s m e) t h =
    rw (round-over (unlike false s) (1 * 2 * (m * up e)) (1 * down e)
    (one-pos (down e) (down_pos e)) (double (2 ^ 127) (m * up e) (down e) (large-size s m e h)))
    (infinite-times (unlike false s) t)
  where
    one-pos : (d : ℕ) → 0 < d → 0 < 1 * d
    one-pos d h = omega arith

    double : (k a d : ℕ) → k * d ≤ a → 2 * k * (1 * d) ≤ 1 * 2 * a
    double k a d h = omega arith

-- ---- and a large number times one of 2^-27 or more is far
abbrev factors : Interval
factors = record { low = of_bits binary32 0x32000000; high = half_turn_float }

factors-finite : Finite factors
unfolding of_bits
factors-finite = record { low = tt; high = tt }

large-times : (x y : Float) → Contains factors x → Large y → Far (x ⊗ y)
unfolding mul of_bits
large-times x nan c h = rw (mul-nan x) nan-far
large-times x (inf s) c h = times-infinite x s
large-times nan (fin s m e) c h = absurd (contains-finite factors-finite c)
large-times (inf r) (fin s m e) c h = absurd (contains-finite factors-finite c)
large-times (fin r n d) (fin s m e) c h =
    round-far (unlike r s) (n * up d * (m * up e)) (down d * down e) (mul-pos (down_pos d) (down_pos e))
    (far (down d) (n * up d) (down e) (m * up e) (least r c.low) (le_trans (mul-le-mul_right (down e) (lit≤ tt)) (large-size s m e h)))
  where
    least : (r : Bool) → fin false 1 (ℤ.negsuc 26) ≼ fin r n d → down d ≤ 2 ^ 27 * (n * up d)
    least true h =
        let l = to-fraction {x = fin false 1 (ℤ.negsuc 26)} {y = fin true n d} tt tt h in
        let p = down_pos d in
        absurd (omega (arith, l, p))
    least false h = let l = to-fraction {x = fin false 1 (ℤ.negsuc 26)} {y = fin false n d} tt tt h in omega (arith, l)

    far : (D N E M : ℕ) → D ≤ 2 ^ 27 * N → 2 ^ 51 * E ≤ M → 2 ^ 24 * (D * E) ≤ N * M
    far D N E M h k = let l : D * (2 ^ 51 * E) ≤ 2 ^ 27 * N * M = mul-le-mul h k in omega (arith, l)

-- Twice a number from a to b, where twice a and twice b are as computed.
module _ {X Y : Interval} (f : Finite X) (e : Interval-mul_enclosure (Interval-point two) X ≡ Y) (low : factors.low ≼ Y.low)
    (high : Y.high ≼ factors.high) where
  twice-factor : {x : Float} → Contains X x → Contains factors (two ⊗ x)
  twice-factor {x} c =
      let p = point-encloses two (unfold of_bits in tt) in
      let y = subst (λ (Z : Interval). Contains Z (two ⊗ x)) e (mul-contains p.finite f p.contains c) in
      record { low = ≼_trans low y.low; high = ≼_trans y.high high }

-- that of a midpoint
highs-finite : Finite (highs 9)
unfolding round of_bits slice_end
highs-finite = record { low = tt; high = tt }

twice-highs : Interval-mul_enclosure (Interval-point two) (highs 9) ≡ record { low = slice_end 8 1; high = two }
unfolding Interval-mul_enclosure Interval-of_four Interval-hull Interval-new min_num max_num is_nan mul round lt of_bits slice_end
twice-highs = refl

twice-high : {t : Float} → Contains (highs 9) t → Contains factors (two ⊗ t)
twice-high c = twice-factor highs-finite twice-highs (record { holds = unfold le round of_bits slice_end in tt }) (record { holds = unfold le of_bits in tt }) c

-- and that of the theta of a built move with rotation
rotations-finite : Finite rotations
unfolding of_bits
rotations-finite = record { low = tt; high = tt }

twice-rotations : Interval-mul_enclosure (Interval-point two) rotations ≡ factors
unfolding Interval-mul_enclosure Interval-of_four Interval-hull Interval-new min_num max_num is_nan mul round lt of_bits
twice-rotations = refl

twice-rotation : {θ : Float} → Contains rotations θ → Contains factors (two ⊗ θ)
twice-rotation c = twice-factor rotations-finite twice-rotations (record { holds = unfold le of_bits in tt }) (record { holds = unfold le of_bits in tt }) c

-- ---- a number near an interval of 0 to 1 is small
abbrev wide : Interval
wide = record { low = neg one; high = two }

wide-finite : Finite wide
unfolding neg of_bits
wide-finite = record { low = tt; high = tt }

below-limit : (a k d : ℕ) → 0 < d → 3 ≤ k → a ≤ 2 * d → a * 1 < 1 * k * d
below-limit a k d D h l = let p : 3 * d ≤ k * d = mul-le-mul_right d h in omega (arith, p)

wide-doubles : (x : Float) → Contains wide x → Doubles x
unfolding lt abs of_bits neg
wide-doubles nan c = absurd (contains-finite wide-finite c)
wide-doubles (inf s) c = absurd (contains-finite wide-finite c)
wide-doubles (fin true m e) c =
    let l = to-fraction {x = fin true 1 (ℤ.pos 0)} {y = fin true m e} tt tt c.low in
    lt-ltb (m * up e * 1) (1 * 2 ^ 127 * down e) (below-limit (m * up e) (2 ^ 127) (down e) (down_pos e) (lit≤ tt) (omega (arith, l)))
wide-doubles (fin false m e) c =
    let l = to-fraction {x = fin false m e} {y = fin false 1 (ℤ.pos 1)} tt tt c.high in
    lt-ltb (m * up e * 1) (1 * 2 ^ 127 * down e) (below-limit (m * up e) (2 ^ 127) (down e) (down_pos e) (lit≤ tt) (omega (arith, l)))

tolerance-finite : T (finite tolerance)
unfolding of_bits
tolerance-finite = tt

low_wide : neg one ≼ (Interval-sub_enclosure unit_interval (Interval-point tolerance)).low
unfolding Interval-sub_enclosure sub add neg round le of_bits
low_wide = record { holds = tt }

high-wide : (Interval-add_enclosure unit_interval (Interval-point tolerance)).high ≼ two
unfolding Interval-add_enclosure add round le of_bits
high-wide = record { holds = tt }

near-wide : {j : Interval} → Subset j unit_interval → (u : Float) → T (near_interval j u) → Contains wide u
near-wide {j} s u h =
    let p = point-encloses tolerance tolerance-finite in
    let low = sub-contains unit-finite p.finite (subset-low s) p.contains in
    let high = add-contains unit-finite p.finite (subset-high s) p.contains in
    let above : j.low ⊖ tolerance ≼ u = record { holds = and_l (le (j.low ⊖ tolerance) u) (lt u (j.high ⊕ tolerance)) h } in
    let below = lt-≼ u (j.high ⊕ tolerance) (and_r (le (j.low ⊖ tolerance) u) (lt u (j.high ⊕ tolerance)) h) in
    record { low = ≼_trans low_wide (≼_trans low.low above); high = ≼_trans below (≼_trans high.high high-wide) }

large-refused : {j : Interval} → Subset j unit_interval → (u : Float) → Large u → (z : Zeros) → Zeros-accept z j u ≡ z
unfolding Zeros-accept
large-refused {j} s u l z = go (near_interval j u) (λ h. near-wide s u h)
  where
    go : (b : Bool) → (T b → Contains wide u) → cond b (Zeros-store z u) z ≡ z
    go true c = absurd (true≢false (sym (wide-doubles u (c tt)) ∙ l))
    go false c = refl

-- ---- a run that meets a far angle
run-one-far : (f : MotionDerivative) (n : ℕ) (t u : Float) → MeetsFar f n t u
    → (MotionDerivative-newton f n t ≡ u) ⊎ (MotionDerivative-newton f n t ≡ nan)
run-one-far f zero t u x = elim x [ ]
run-one-far f (suc n) t u (MeetsFar.here h) = newton-one-far f n t h
run-one-far f (suc n) t u (MeetsFar.further h r) = elim (run-one-far f n _ u r) [
  | inl e ↦ inl (further-newton f n t h ∙ e)
  | inr e ↦ inr (further-newton f n t h ∙ e)
]

pub stores-none : (f : MotionDerivative) → T (fits binary32 f.theta) → StoresNone f
stores-none f fθ j u z x r = at-theta (lt (abs f.theta) (of_bits binary32 0x7f000000)) refl
  where
    nothing : newton_zero f j ≡ nan → Zeros-accept z j (newton_zero f j) ≡ z
    nothing e = ap (Zeros-accept z j) e ∙ accept-nan z j

    at-u : (b : Bool) → lt (abs u) (of_bits binary32 0x7f000000) ≡ b → Doubles f.theta → Zeros-accept z j (newton_zero f j) ≡ z
    at-u true d dθ = nothing (ends-in-nan f fθ dθ 4 (Interval-midpoint j) u (mul-fits binary32 _ _) r d)
    at-u false l dθ = elim (run-one-far f 4 (Interval-midpoint j) u r) [
      | inl e ↦ ap (Zeros-accept z j) e ∙ large-refused (examined-unit f j x) u l z
      | inr e ↦ nothing e
    ]

    at-theta : (b : Bool) → lt (abs f.theta) (of_bits binary32 0x7f000000) ≡ b → Zeros-accept z j (newton_zero f j) ≡ z
    at-theta true d = at-u (lt (abs u) (of_bits binary32 0x7f000000)) refl d
    at-theta false l =
        let m = examined-midpoint f j x in
        let mid = Interval-midpoint j in
        nothing (newton-far f 3 mid (large-value f.theta mid l) (large-times (two ⊗ mid) f.theta (twice-high m) l))

quarter-two : quarter_turn_float ≼ two
quarter-two = record { holds = unfold le of_bits in tt }

minus-one-rotation : neg one ≼ rotations.low
minus-one-rotation = record { holds = unfold le neg of_bits in tt }

-- With a theta from 2^-28 to a quarter turn such a run ends in NaN, wherever it meets the angle.
meets-ends-in-nan : (f : MotionDerivative) → T (fits binary32 f.theta) → Contains rotations f.theta → EndsInNan f
meets-ends-in-nan f fθ c n t u ft r = go (lt (abs u) (of_bits binary32 0x7f000000)) refl
  where
    doubles : Doubles f.theta
    doubles = wide-doubles f.theta (record { low = ≼_trans minus-one-rotation c.low; high = ≼_trans c.high quarter-two })

    met : (n : ℕ) (t : Float) → MeetsFar f n t u → Large u → MotionDerivative-newton f n t ≡ nan
    met zero t x l = elim x [ ]
    met (suc n) t (MeetsFar.here h) l = newton-far f n t (large-times (two ⊗ f.theta) t (twice-rotation c) l) (large-value t f.theta l)
    met (suc n) t (MeetsFar.further h r) l = further-newton f n t h ∙ met n _ r l

    go : (b : Bool) → lt (abs u) (of_bits binary32 0x7f000000) ≡ b → MotionDerivative-newton f n t ≡ nan
    go true d = ends-in-nan f fθ doubles n t u ft r d
    go false l = met n t r l

-- ---- a built move
half_full : half_turn_float ≼ full_turn_float
half_full = record { holds = unfold le of_bits in tt }

half-near : {x : Float} → Contains half_turn x → near x ≡ true
half-near c = angle-near (record { from_zero = c.low; to-full-turn = ≼_trans c.high half_full })

acos-fits : (c : Float) → T (fits binary32 (acos c))
unfolding acos
acos-fits c = cond-fits binary32 (in_domain c) _ _ (round-fits binary32 false (least_angle (floor_units c)) (2 ^ 28)) (nan-fits binary32)

minus-one-zero : neg one ≼ positive_zero
minus-one-zero = record { holds = unfold le neg of_bits in tt }

quarter-half : quarter_turn_float ≼ half_turn_float
quarter-half = record { holds = unfold le of_bits in tt }

module _ {m : AnimatedTransform} (b : Built m) where
  theta-bounds : Contains (record { low = positive_zero; high = quarter_turn_float }) (AnimatedTransform-constants m).theta
  unfolding PoseConstants-new
  theta-bounds =
      let built = built-judged b in
      let q = theta-quarter (Quaternion-dot m.r0 m.r1) built.dot built.dot-sign in
      record { low = q.below; high = q.above }

  theta-half : Contains half_turn (AnimatedTransform-constants m).theta
  theta-half = record { low = theta-bounds.low; high = ≼_trans theta-bounds.high quarter-half }

  theta-fits : T (fits binary32 (AnimatedTransform-constants m).theta)
  unfolding PoseConstants-new
  theta-fits = acos-fits (clamp (Quaternion-dot m.r0 m.r1) (neg one) one)

  pub built-ends-in-nan : (f : MotionDerivative) → f.theta ≡ (AnimatedTransform-constants m).theta → EndsInNanBelow f
  built-ends-in-nan f e =
      let t = theta-bounds in
      ends-in-nan f (subst (λ (x : Float). T (fits binary32 x)) (sym e) theta-fits)
      (subst Doubles (sym e) (wide-doubles _ (record { low = ≼_trans minus-one-zero t.low; high = ≼_trans t.high quarter-two })))

  pub rotation-ends-in-nan : m.has_rotation ≡ true → (f : MotionDerivative) → f.theta ≡ (AnimatedTransform-constants m).theta → EndsInNan f
  rotation-ends-in-nan r f e =
      meets-ends-in-nan f (subst (λ (x : Float). T (fits binary32 x)) (sym e) theta-fits) (subst (Contains rotations) (sym e) (rotation-theta b r))

  pub built-angles-near : AnglesNear m
  built-angles-near = record {
    pose = λ time after before.
        let j = built-judged b in
        half-near (scale-half-turn theta-half
        (dt-unit m.start_time m.end_time time j.start-time j.start-binary32 j.end-time j.end-binary32 j.duration after before));
    cover = λ D s. cover D s;
    search = λ f j e x.
        let a = angles-subset f (subst (Contains (record { low = positive_zero; high = quarter_turn_float })) (sym e) theta-bounds) (examined-unit f j x) in
        (half-near (subset-low a), half-near (subset-high a));
  }
    where
      cover : (D : Interval) → Subset D unit_interval
          → let c = Interval-mul_enclosure (Interval-point (AnimatedTransform-constants m).theta) D in (near c.low ≡ true) × (near c.high ≡ true)
      cover D s =
          let l = scale-half-turn theta-half (subset-low s) in
          let h = scale-half-turn theta-half (subset-high s) in
          let X = Interval-mul_enclosure (Interval-point (AnimatedTransform-constants m).theta) D in
          let four : Subset X half_turn = unfold Interval-mul_enclosure in of-four-subset l l h h in
          (half-near (subset-low four), half-near (subset-high four))
