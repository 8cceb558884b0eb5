-- Theta of a built move with rotation is at least 2^-28: `rotation-theta`. A dot product below 0.9995 rounds down to less than 2^30 units, the cosine of 0, so
-- that the least angle that passes the arc cosine's test isn't 0; and it is a whole number of units of 2^-28.
use mathlib.Core.Path.{◌≡◌, refl, sym, subst}
use mathlib.Core.Bool.{Bool, true, false, cond}
use Prim.Native.Nat.{ℕ, zero, suc, ◌*◌, ◌/◌, ◌^◌, ◌≤◌, ◌<◌}
use native.Mathlib.Nat.{div-lt_iff_lt-mul}
use native.Mathlib.Omega.{arith}
use borrow.Author.Tests.{lt-leb}
use lib.IntN.{ℤ, pos, neg_ℤ}
use lib.Dec.{T}
use lib.Pow.{pow_pos}
use lib.Signed.{le_z, shr_z}
use lib.Ieee.{Float, nan, inf, fin, binary32, up, down, round, neg, lt, le, eq, of_bits}
use lib.Ieee.Fits.{down_pos}
use Rattle.zero_search.specs.rounding.Order.{◌≼◌}
use Rattle.zero_search.proofs.rounding.Order.{≼_trans, to-fraction, lt-≼}
use Rattle.zero_search.proofs.rounding.Monotone.{round_mono}
use Rattle.zero_search.specs.float32.Operators.{positive_zero, one}
use Rattle.zero_search.specs.float32.Clamp.{clamp}
use Rattle.zero_search.specs.trig.Units.{cos_units}
use Rattle.zero_search.specs.trig.Range.{quarter_turn_float}
use Rattle.zero_search.specs.trig.means.Computing.{computing}
use Rattle.motion_point.specs.arc_cosine.Acos.{in_domain, least_from, least_angle, floor_units, acos}
use Rattle.motion_point.specs.quaternion.Quaternion.{Quaternion-dot}
use Rattle.motion_point.specs.quaternion.Slerp.{slerp_threshold}
use Rattle.zero_search.specs.interval.declared.Interval.{Interval}
use Rattle.zero_search.specs.interval.Contains.{Contains}
use Rattle.motion_point.specs.pose_steps.Pose.{PoseConstants-new}
use Rattle.motion_point.proofs.pose_steps.Angle.{theta-quarter}
use Rattle.motion_point.specs.animated_transform.declared.AnimatedTransform.{AnimatedTransform}
use Rattle.motion_point.specs.animated_transform.Built.{Built}
use Rattle.motion_point.proofs.animated_transform.Built.{built-judged}
use Rattle.motion_point.specs.TransformPoint.{AnimatedTransform-constants}

-- From 2^-28 to a quarter turn.
abbrev pub rotations : Interval
rotations = record { low = of_bits binary32 0x31800000; high = quarter_turn_float }

-- ---- the least angle that passes, where 0 does not
least-from : (p : ℕ → Bool) (d j : ℕ) → j ≤ least_from p d j
unfolding least_from
least-from p zero j = omega arith
least-from p (suc d) j = go (p j) (least_from p d (suc j)) (least-from p d (suc j))
  where
    go : (b : Bool) (k : ℕ) → suc j ≤ k → j ≤ cond b j k
    go true k h = omega arith
    go false k h = omega arith

least-after : (p : ℕ → Bool) (d j : ℕ) → p j ≡ false → suc j ≤ least_from p (suc d) j
unfolding least_from
least-after p d j h = rw h (least-from p d (suc j))

-- 2 Q is 843,314,856
angle-positive : (w : ℤ) → le_z (cos_units 0) w ≡ false → 1 ≤ least_angle w
unfolding least_angle
angle-positive w h = least-after (λ (u : ℕ). le_z (cos_units u) w) 843314855 0 h

-- ---- what is at most 0.9995 rounds down to less than 2^30
units-below : (A D : ℕ) → 0 < D → A * 2 ^ 24 ≤ 16768827 * D → A * 2 ^ 30 / D < 2 ^ 30
units-below A D p h = (div-lt_iff_lt-mul p).1 (omega (arith, h))

floor-below-one : (c : Float) → c ≼ slerp_threshold → le_z (pos (2 ^ 30)) (floor_units c) ≡ false
unfolding floor_units of_bits
floor-below-one nan h = refl
floor-below-one (inf s) h = refl
floor-below-one (fin false m e) h =
    let l = to-fraction {x = fin false m e} {y = fin false 16768827 (ℤ.negsuc 23)} tt tt h in
    lt-leb (2 ^ 30) (m * up e * 2 ^ 30 / down e) (units-below (m * up e) (down e) (down_pos e) (omega (arith, l)))
floor-below-one (fin true m e) h = go (m * up e * 2 ^ 30)
  where
    go : (x : ℕ) → le_z (pos (2 ^ 30)) (shr_z (neg_ℤ (pos x)) (down e)) ≡ false
    go zero = lt-leb (2 ^ 30) (0 / down e) (units-below 0 (down e) (down_pos e) (omega arith))
    go (suc k) = refl

cos-zero : cos_units 0 ≡ pos (2 ^ 30)
unfolding computing
cos-zero = refl

-- ---- the arc cosine of it is at least 2^-28
one_unit : round binary32 false 1 (2 ^ 28) ≡ of_bits binary32 0x31800000
unfolding round of_bits
one_unit = refl

not-number : (x : Float) → x ≼ nan → ⊥
unfolding le lt eq
not-number nan h = h.holds
not-number (inf s) h = h.holds
not-number (fin s m e) h = h.holds

acos-positive : (c : Float) → c ≼ slerp_threshold → positive_zero ≼ acos c → of_bits binary32 0x31800000 ≼ acos c
unfolding acos
acos-positive c h z = go (in_domain c) z
  where
    some : 1 ≤ least_angle (floor_units c)
    some = angle-positive (floor_units c) (rw cos-zero (floor-below-one c h))

    go : (b : Bool) → positive_zero ≼ cond b (round binary32 false (least_angle (floor_units c)) (2 ^ 28)) nan
        → of_bits binary32 0x31800000 ≼ cond b (round binary32 false (least_angle (floor_units c)) (2 ^ 28)) nan
    go true k =
        subst (λ (x : Float). x ≼ round binary32 false (least_angle (floor_units c)) (2 ^ 28)) one_unit
        (round_mono binary32 false false 1 (least_angle (floor_units c)) (2 ^ 28) (2 ^ 28) (pow_pos 28) (pow_pos 28) (omega (arith, some)))
    go false k = absurd (not-number positive_zero k)

-- ---- the clamped dot product
one-above : one ≼ slerp_threshold → ⊥
one-above h = let t = h.holds in unfold le of_bits in t

clamp-below : (c : Float) → c ≼ slerp_threshold → clamp c (neg one) one ≼ slerp_threshold
unfolding clamp
clamp-below c h = go (lt c (neg one)) (lt one c) (λ t. lt-≼ one c t)
  where
    go : (a b : Bool) → (T b → one ≼ c) → cond a (neg one) (cond b one c) ≼ slerp_threshold
    go true b above = record { holds = unfold le neg of_bits in tt }
    go false true above = absurd (one-above (≼_trans (above tt) h))
    go false false above = h

pub rotation-theta : {m : AnimatedTransform} → Built m → m.has_rotation ≡ true → Contains rotations (AnimatedTransform-constants m).theta
unfolding PoseConstants-new
rotation-theta {m} b r =
    let built = built-judged b in
    let dot = Quaternion-dot m.r0 m.r1 in
    let q = theta-quarter dot built.dot built.dot-sign in
    let below : dot ≼ slerp_threshold = lt-≼ dot slerp_threshold (rw (sym built.rotation, r) tt) in
    record { low = acos-positive (clamp dot (neg one) one) (clamp-below dot below) q.below; high = q.above }
