-- The places of the zero array after the stored ones are joined as one: `unused-once`.
-- Each is +0, and a point that was just joined changes no box (`moved-again`).
use Rattle.std.specs.Prelude.{Ok, Err}
use mathlib.Core.Path.{◌≡◌, refl, sym, ap, ◌∙◌}
use mathlib.Core.Bool.{Bool, true, false, cond}
use mathlib.Core.List.{List}
use mathlib.Core.Logic.{◌⊎◌, inl, inr}
use Prim.Native.Nat.{ℕ, zero, suc, ◌≤◌, ◌<◌}
use native.Mathlib.Nat.{eq-or-lt_of_le, le_of_suc-le-suc}
use native.Mathlib.Omega.{arith}
use lib.ListN.{get_or}
use lib.Ieee.{Float, nan, is_nan, lt}
use Rattle.float32.specs.MinMax.{min_num, max_num}
use Rattle.bounds3.specs.declared.Point3f.{Point3f}
use Rattle.bounds3.specs.declared.Bounds3f.{Bounds3f}
use Rattle.bounds3.specs.Point3f.{Point3f-min, Point3f-max}
use Rattle.bounds3.specs.Bounds3f.{Bounds3f-union_point}
use Rattle.transform.specs.control_flow.Loop.{loop}
use Rattle.transform.specs.Answer.{PointAnswer}
use Rattle.transform.specs.declared.BoundsAnswer.{BoundsAnswer}
use Rattle.transform.specs.declared.BoundsAnswer.TheVariants.{Bounds, Refused}
use Rattle.transform.specs.TransformBounds.{BoundsAnswer-union_moved}
use Rattle.float32.specs.Operators.{positive_zero}
use Rattle.pose_steps.specs.declared.PoseConstants.{PoseConstants}
use Rattle.animated_transform.specs.declared.AnimatedTransform.{AnimatedTransform}
use Rattle.motion_bounds.specs.MotionBounds.{point_at, union_zero}

-- ---- the least and the greatest of what they gave and the same number again
either : (x q : Float) (b c : Bool) → (cond b q (cond c q x) ≡ q) ⊎ (cond b q (cond c q x) ≡ x)
either x q true c = inl refl
either x q false true = inl refl
either x q false false = inr refl

module _ (f : Float → Float → Float) (picks : (x q : Float) → (f x q ≡ q) ⊎ (f x q ≡ x)) where
  picks-again : (x q : Float) → f (f x q) q ≡ f x q
  picks-again x q = elim (picks x q) [
    | inl e ↦ ap (λ (z : Float). f z q) e ∙ same (picks q q) ∙ sym e
    | inr e ↦ ap (λ (z : Float). f z q) e
  ]
    where
      same : (f q q ≡ q) ⊎ (f q q ≡ q) → f q q ≡ q
      same (inl e) = e
      same (inr e) = e

min_again : (x q : Float) → min_num (min_num x q) q ≡ min_num x q
min_again = picks-again min_num (λ x q. unfold min_num in either x q (is_nan x) (lt q x))

max_again : (x q : Float) → max_num (max_num x q) q ≡ max_num x q
max_again = picks-again max_num (λ x q. unfold max_num in either x q (is_nan x) (lt x q))

-- ---- a point joined twice
point-again : (b : Bounds3f) (q : Point3f) → Bounds3f-union_point (Bounds3f-union_point b q) q ≡ Bounds3f-union_point b q
unfolding Bounds3f-union_point Point3f-min Point3f-max
point-again b q =
    let l = b.p_min in
    let h = b.p_max in
    rw (
      min_again l.x q.x,
      min_again l.y q.y,
      min_again l.z q.z,
      max_again h.x q.x,
      max_again h.y q.y,
      max_again h.z q.z,
    )

moved-again : (r : BoundsAnswer) (a : PointAnswer) → BoundsAnswer-union_moved (BoundsAnswer-union_moved r a) a ≡ BoundsAnswer-union_moved r a
unfolding BoundsAnswer-union_moved
moved-again (Bounds b) (Ok q) = ap Bounds (point-again b q)
moved-again (Bounds b) (Err n) = refl
moved-again (Refused n) a = refl

-- ---- the places from `count` on
module _ (m : AnimatedTransform) (a : PoseConstants) (p : Point3f) (zeros : List Float) (count : ℕ)
    (unused : (k : ℕ) → count ≤ k → k < 8 → get_or zeros k nan ≡ positive_zero) (r : BoundsAnswer) where
  abbrev joined : ℕ → BoundsAnswer
  joined n = loop (λ k. union_zero m a p (get_or zeros k nan)) n r

  pub unused-once : (k : ℕ) → count ≤ k → k < 8 → joined (suc k) ≡ union_zero m a p positive_zero (joined count)
  unfolding loop union_zero
  unused-once zero l u = let e : count ≡ 0 = omega (arith, l) in rw (unused 0 l u, e)
  unused-once (suc k) l u = elim (eq-or-lt_of_le l) [
    | inl e ↦ rw (unused (suc k) l u, e)
    | inr h ↦ rw (unused (suc k) l u, unused-once k (le_of_suc-le-suc h) (omega (arith, u)), moved-again (joined count) (point_at m a p positive_zero))
  ]
