-- The arc cosine of a c in -1 to 1 lies from 0 to a half turn (`acos-range`), and of a c of at least 0 it is at most a quarter turn (`acos-quarter`).
-- Its value is shown by one angle and the one before it (`acos-unique`): the search is never run.
use mathlib.Core.Path.{◌≡◌, refl, sym, ap, subst, ◌∙◌}
use mathlib.Core.Bool.{Bool, true, false, cond}
use Prim.Native.Nat.{ℕ, suc, ◌*◌, ◌/◌, ◌^◌, ◌≤◌, ◌<◌}
use native.Mathlib.Omega.{arith}
use borrow.Author.Tests.{le-leb}
use lib.IntN.{pos, neg_ℤ}
use lib.Dec.{lit≤}
use lib.Pow.{pow_pos}
use lib.Signed.{le_z, shr_z}
use lib.Ieee.{Float, nan, inf, fin, binary32, up, down, minus, round, of_bits}
use Rattle.float_bits.specs.rounding.Order.{◌≼◌}
use Rattle.float_bits.proofs.rounding.Monotone.{round_mono}
use Rattle.float_bits.proofs.rounding.Corners.{Bounds}
use Rattle.float_bits.proofs.rounding.Rational.{num_neg}
use Rattle.sine_table.specs.Table.{quarter_turn}
use Rattle.trig.specs.Units.{cos_units}
use Rattle.arc_cosine.specs.Acos.{in_domain, least_angle, floor_units, acos}
use Rattle.trig.specs.Biased.{biased}
use Rattle.trig.specs.means.Computing.{computing}
use Rattle.arc_cosine.proofs.Floor.{unit-finite}
use Rattle.arc_cosine.proofs.Least.{least_angle-unique, least_angle-le, least_angle-below}
use Rattle.trig.specs.Range.{quarter_turn_float, half_turn_float}
use Rattle.float_bits.proofs.rounding.Order.{num_neg-none}

acos-in : (c : Float) → in_domain c ≡ true → acos c ≡ round binary32 false (least_angle (floor_units c)) (2 ^ 28)
unfolding acos
acos-in c h = ap (λ (b : Bool). cond b (round binary32 false (least_angle (floor_units c)) (2 ^ 28)) nan) h

pub acos-unique : (c : Float) (n u : ℕ) → in_domain c ≡ true → floor_units c ≡ minus n (2 ^ 30) → u ≤ 2 * quarter_turn
    → biased (cos_units u) ≤ n → ((k : ℕ) → u ≡ suc k → n < biased (cos_units k)) → acos c ≡ round binary32 false u (2 ^ 28)
acos-unique c n u h w l a b = acos-in c h ∙ ap (λ (v : ℕ). round binary32 false v (2 ^ 28)) (ap least_angle w ∙ least_angle-unique n u l a b)

-- ---- its range

angle-mono : (u v : ℕ) → u ≤ v → round binary32 false u (2 ^ 28) ≼ round binary32 false v (2 ^ 28)
angle-mono u v h = round_mono binary32 false false u v (2 ^ 28) (2 ^ 28) (pow_pos 28) (pow_pos 28) (omega arith)

zero_is : round binary32 false 0 (2 ^ 28) ≡ of_bits binary32 0
unfolding round of_bits
zero_is = refl

quarter-is : round binary32 false quarter_turn (2 ^ 28) ≡ quarter_turn_float
unfolding round of_bits
quarter-is = refl

half_is : round binary32 false (2 * quarter_turn) (2 ^ 28) ≡ half_turn_float
unfolding round of_bits
half_is = refl

pub acos-range : (c : Float) → in_domain c ≡ true → Bounds (of_bits binary32 0) half_turn_float (acos c)
acos-range c h =
    let u = least_angle (floor_units c) in
    rw (acos-in c h)
    (record {
      below = subst (λ (x : Float). x ≼ round binary32 false u (2 ^ 28)) zero_is (angle-mono 0 u (omega arith));
      above = subst (λ (x : Float). round binary32 false u (2 ^ 28) ≼ x) half_is (angle-mono u (2 * quarter_turn) (least_angle-le (floor_units c)));
    })

-- A c of at least 0 is rounded down to at least 0, which is the cosine of a quarter turn.
floor-nonnegative : (c : Float) → num_neg c ≡ 0 → le_z (pos 0) (floor_units c) ≡ true
unfolding floor_units
floor-nonnegative nan h = refl
floor-nonnegative (inf s) h = refl
floor-nonnegative (fin false m e) h = le-leb 0 (m * up e * 2 ^ 30 / down e) (omega arith)
floor-nonnegative (fin true m e) h =
    subst (λ (x : ℕ). le_z (pos 0) (shr_z (neg_ℤ (pos (x * 2 ^ 30))) (down e)) ≡ true) (sym h) (le-leb 0 (0 / down e) (omega arith))

cos-quarter : cos_units quarter_turn ≡ pos 0
unfolding computing
cos-quarter = refl

pub acos-quarter : (c : Float) → in_domain c ≡ true → of_bits binary32 0 ≼ c → acos c ≼ quarter_turn_float
acos-quarter c h z =
    let w = floor_units c in
    let l : least_angle w ≤ quarter_turn = least_angle-below w quarter_turn (lit≤ tt) (rw cos-quarter (floor-nonnegative c (num_neg-none c (unit-finite c h) z))) in
    rw (acos-in c h) (subst (λ (x : Float). round binary32 false (least_angle w) (2 ^ 28) ≼ x) quarter-is (angle-mono (least_angle w) quarter_turn l))
