-- Near and far slerp, read leanly, stand for the judged ones where these are accepted: `slerp-lean`. Theta times dt lies from 0 to a quarter turn, so
-- that sine and cosine are those at the borders, without a test (`theta-quarter`).
use mathlib.Core.Path.{◌≡◌, refl, ap, subst}
use Prim.Native.Nat.{ℕ}
use mathlib.Core.Bool.{Bool, true, false}
use mathlib.Core.List.{List, [], ◌∷◌, ◌++◌}
use lib.Ieee.{Float, is_nan, le, lt, mul, round, of_bits, fits}
use Rattle.formula_lean.specs.rounding.Order.{◌≼◌}
use Rattle.formula_lean.proofs.rounding.Order.{≼_trans}
use Rattle.formula_lean.specs.float32.Operators.{◌⊗◌, positive_zero}
use Rattle.formula_lean.specs.float32.MinMax.{min_num, max_num}
use Rattle.formula_lean.specs.trig.SinCos.{sin, cos}
use Rattle.formula_lean.specs.trig.Range.{quarter_turn_float, full_turn_float}
use Rattle.formula_lean.specs.interval.declared.Interval.{Interval}
use Rattle.formula_lean.specs.interval.Judged.{Judged}
use Rattle.formula_lean.specs.interval.Interval.{Interval-point, Interval-new, Interval-hull, Interval-of_four}
use Rattle.formula_lean.specs.interval.Contains.{Subset}
use Rattle.formula_lean.specs.interval.Enclosure.{not_finite, Judged-judge, Interval-add_enclosure, Interval-mul_enclosure, Judged-mul_enclosure}
use Rattle.formula_lean.proofs.interval.Isotone.{mul-isotone}
use Rattle.formula_lean.specs.interval_unjudged.means.Unjudged.{All}
use Rattle.pose_slerp.specs.unit_interval.Unit.{unit_interval}
use Rattle.formula_lean.specs.formula.Promise.{Pairwise}
use Rattle.formula_lean.specs.alike.means.Alike.{Interval-Proper, Interval-new_ordered}
use Rattle.formula_lean.specs.alike.means.Angles.{QuarterAngles}
use Rattle.formula_lean.proofs.alike.Equivalence.{alike-≼}
use Rattle.formula_lean.proofs.alike.Constant.{mul-rising, mul-ordered-left}
use Rattle.formula_lean.specs.means.Lean.{Lean, number, span, range, Lean-Angles, Lean-of, Expr-lean, Expr-lean_all, Program-lean}
use Rattle.formula_lean.specs.means.Asked.{Program-turned}
use Rattle.formula_lean.proofs.Operations.{Stands}
use Rattle.pose_slerp.specs.pose_steps.declared.PoseConstants.{PoseConstants}
use Rattle.pose_slerp.specs.pose_steps.declared.IntervalQuaternion.{IntervalQuaternion}
use Rattle.pose_slerp.specs.pose_steps.Stages.{slerp_near_stage, slerp_far_stage}
use Rattle.pose_slerp.specs.pose_steps.Pose.{Quaternion-list, is_near}
use Rattle.pose_slerp.specs.pose_steps.Promise.{PoseConstants-Valid, quarter_interval}
use Rattle.pose_slerp.specs.pose_steps.Enclose.{IntervalQuaternion-list, IntervalQuaternion-point, Pose-enclose_slerp_near}
use Rattle.pose_slerp.specs.pose_steps.Enclose.{Pose-enclose_slerp_far, enclose_slerp_by, Pose-enclose_slerp}
use Rattle.pose_slerp.proofs.pose_steps.Angle.{quarter-finite, unit-finite, theta-finite, theta-subset}
use Rattle.pose_slerp.specs.means.Unjudged.{Perpendicular-of}
use Rattle.pose_lean.specs.means.Lean.{mix, one_minus, turned, length, over, normalized, near, at_borders, slerp_by, second_by, Lean-slerp}
use Rattle.pose_lean.specs.means.Values.{PoseConstants-Values}
use Rattle.pose_lean.proofs.Stages.{numbers, numbers-stand, number-stands, span-stands, range-stands, stage-lean, StandsQuaternion}

-- ---- theta times dt lies from 0 to a quarter turn, in order
products : Judged-mul_enclosure 0 quarter_interval unit_interval ≡ record { interval = quarter_interval; refusal = 0 }
unfolding Judged-mul_enclosure Judged-judge Interval-mul_enclosure Interval-of_four Interval-hull Interval-new min_num max_num is_nan mul round lt of_bits not_finite
products = refl

quarter-full : quarter_turn_float ≼ full_turn_float
quarter-full = record { holds = unfold le of_bits in tt }

module _ {θ : Float} {D : Interval} (l : positive_zero ≼ θ) (h : θ ≼ quarter_turn_float) (d : Interval-Proper D) (u : Subset D unit_interval) where
  within : Subset (Interval-mul_enclosure (Interval-point θ) D) quarter_interval
  unfolding Judged-mul_enclosure Judged-judge
  within =
      let X = Interval-mul_enclosure (Interval-point θ) D in
      let s = (mul-isotone.isotone 0 0 (record { finite = quarter-finite; subset = theta-subset l h }) (record { finite = unit-finite; subset = u })
      refl (ap (λ (j : Judged). j.refusal) products)).refines.subset in
      subst (λ (j : Judged). Subset X j.interval) products s

  pub theta-quarter : QuarterAngles (θ ⊗ D.low) (θ ⊗ D.high)
  theta-quarter =
      let a = mul-rising θ D (theta-finite l h) d.finite l d.rises in
      let s = within in
      let r = alike-≼ a.low a.high s.proper in
      let from = ≼_trans s.low a.low.to in
      let to = ≼_trans a.high.from s.high in
      record {
        low = record { from_zero = from; to-full-turn = ≼_trans r (≼_trans to quarter-full) };
        high = record { from_zero = ≼_trans from r; to-full-turn = ≼_trans to quarter-full };
        rises = r;
        quarter = to;
      }

-- ---- a number by each of two pairs of values at the borders
mix-borders : (k l : Float) (C S : Interval)
    → Interval-add_enclosure (Interval-new_ordered (k ⊗ C.low) (k ⊗ C.high)) (Interval-new_ordered (l ⊗ S.low) (l ⊗ S.high)) ≡ mix k l C S
unfolding mix
mix-borders k l C S = rw (mul-ordered-left k C, mul-ordered-left l S)

mixed : (k l : Float) (C S : Interval) {Y : Interval}
    → Stands (range (Interval-add_enclosure (Interval-new_ordered (k ⊗ C.low) (k ⊗ C.high)) (Interval-new_ordered (l ⊗ S.low) (l ⊗ S.high)))) Y
    → Stands (range (mix k l C S)) Y
mixed k l C S {Y} s = subst (λ (X : Interval). Stands (range X) Y) (mix-borders k l C S) s

-- ---- the stages
module _ (a : PoseConstants) (v : PoseConstants-Valid a) (w : PoseConstants-Values a)
    {D : Interval} (d : Interval-Proper D) (u : Subset D unit_interval) (m : ℕ) where
  abbrev q0 : IntervalQuaternion
  q0 = IntervalQuaternion-point a.r0

  abbrev q1 : IntervalQuaternion
  q1 = IntervalQuaternion-point a.r1

  abbrev qs : List Lean
  qs = numbers (Quaternion-list a.r0) ++ numbers (Quaternion-list a.r1)

  near-lean : (Pose-enclose_slerp_near m q0 q1 D).refusal ≡ 0 → StandsQuaternion (near a.r0 a.r1 D) (Pose-enclose_slerp_near m q0 q1 D).quaternion
  unfolding Pose-enclose_slerp_near Program-lean Expr-lean_all Expr-lean Lean-of le of_bits fits near normalized over length turned mix one_minus
  near-lean h =
      let x = numbers-stand (Quaternion-list a.r0) v.r0 w.r0 in
      let y = numbers-stand (Quaternion-list a.r1) v.r1 w.r1 in
      let τ = qs ++ range D ∷ [] in
      let σ = IntervalQuaternion-list q0 ++ IntervalQuaternion-list q1 ++ D ∷ [] in
      let s : Pairwise Stands τ σ =
      (x.0, (x.1.0, (x.1.1.0, (x.1.1.1.0, (y.0, (y.1.0, (y.1.1.0, (y.1.1.1.0, (range-stands d, tt))))))))) in
      stage-lean slerp_near_stage m σ τ s tt tt h

  abbrev far : List Lean
  far = qs ++ number a.cos_theta ∷ number a.theta ∷ span D.low D.high ∷ []

  far-turned : QuarterAngles (a.theta ⊗ D.low) (a.theta ⊗ D.high) → All Lean-Angles (Program-turned far slerp_far_stage)
  unfolding Expr-lean
  far-turned q = (q, (q, tt))

  far-stands : (Pose-enclose_slerp_far m q0 q1 (Interval-point a.cos_theta) (Interval-point a.theta) D).refusal ≡ 0
      → Pairwise Stands (Program-lean far slerp_far_stage)
      (IntervalQuaternion-list (Pose-enclose_slerp_far m q0 q1 (Interval-point a.cos_theta) (Interval-point a.theta) D).quaternion)
  unfolding Pose-enclose_slerp_far of_bits fits
  far-stands h =
      let C = Interval-point a.cos_theta in
      let Θ = Interval-point a.theta in
      let x = numbers-stand (Quaternion-list a.r0) v.r0 w.r0 in
      let y = numbers-stand (Quaternion-list a.r1) v.r1 w.r1 in
      let σ = IntervalQuaternion-list q0 ++ IntervalQuaternion-list q1 ++ C ∷ Θ ∷ D ∷ [] in
      let c = number-stands a.cos_theta v.cos_theta w.cos_theta in
      let t = number-stands a.theta (theta-finite v.theta-from-zero v.theta-to-quarter) w.theta in
      let s : Pairwise Stands far σ =
      (x.0, (x.1.0, (x.1.1.0, (x.1.1.1.0, (y.0, (y.1.0, (y.1.1.0, (y.1.1.1.0, (c, (t, (span-stands d, tt))))))))))) in
      stage-lean slerp_far_stage m σ far s tt (far-turned (theta-quarter v.theta-from-zero v.theta-to-quarter d u)) h

  far-lean : (Pose-enclose_slerp_far m q0 q1 (Interval-point a.cos_theta) (Interval-point a.theta) D).refusal ≡ 0
      → StandsQuaternion (turned a.r0 (Perpendicular-of a.r0 a.r1 a.cos_theta).q (at_borders cos a.theta D) (at_borders sin a.theta D))
      (Pose-enclose_slerp_far m q0 q1 (Interval-point a.cos_theta) (Interval-point a.theta) D).quaternion
  unfolding Program-lean Expr-lean_all Expr-lean turned at_borders Perpendicular-of
  far-lean h =
      let p = (Perpendicular-of a.r0 a.r1 a.cos_theta).q in
      let C = at_borders cos a.theta D in
      let S = at_borders sin a.theta D in
      let (x, (y, (z, (k, _)))) = far-stands h in (
        mixed a.r0.v.x p.v.x C S x,
        (mixed a.r0.v.y p.v.y C S y, (mixed a.r0.v.z p.v.z C S z, (mixed a.r0.w p.w C S k, tt))),
      )

  pub slerp-lean : (Pose-enclose_slerp m a D).refusal ≡ 0 → StandsQuaternion (Lean-slerp a D) (Pose-enclose_slerp m a D).quaternion
  unfolding Pose-enclose_slerp enclose_slerp_by Lean-slerp
  slerp-lean = go (is_near a)
    where
      go : (b : Bool) → (enclose_slerp_by b m a D).refusal ≡ 0
          → StandsQuaternion (slerp_by b a.r0 (second_by b a) D (at_borders cos a.theta D) (at_borders sin a.theta D)) (enclose_slerp_by b m a D).quaternion
      go true h = unfold slerp_by second_by in near-lean h
      go false h = unfold slerp_by second_by in far-lean h
