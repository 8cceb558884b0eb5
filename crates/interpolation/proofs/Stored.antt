-- Which answer the time chooses: 6 for a NaN (`interpolate-nan`), the stored transforms at and outside the end times, judged (`interpolate-start`,
-- `interpolate-end`), and what is answered at dt between them (`interpolate-between`). Those that a built move stores are finite: they are the answer there and where
-- the poses are equal (`built-start`, `built-end`, `interpolate-equal`).
use mathlib.Core.Path.{◌≡◌, refl, ◌∙◌}
use mathlib.Core.Bool.{Bool, true, false, not, ◌||◌, ◌&&◌, cond}
use lib.Dec.{T}
use lib.Ieee.{Float, is_nan, le}
use lib.Ieee.Fits.{and_i}
use Rattle.matrix4x4.specs.Rows.{Matrix4x4-to_rows}
use Rattle.matrix4x4.specs.IsFinite.{Matrix4x4-is_finite}
use Rattle.transform.specs.declared.Transform.{Transform}
use Rattle.transform.specs.Transform.{TransformAnswer}
use Rattle.transform.specs.Transform.{TransformAnswer-refused, Transform-eq}
use Rattle.unit_interval.specs.Unit.{dt}
use Rattle.animated_transform.specs.declared.AnimatedTransform.{AnimatedTransform}
use Rattle.animated_transform.specs.AtTime.{at_start, at_end}
use Rattle.animated_transform.specs.Built.{Built, StoredPose}
use Rattle.animated_transform.proofs.Built.{built-judged}
use Rattle.interpolation.specs.Interpolate.{Transform-is_finite, TransformAnswer-accepted, TransformAnswer-judged}
use Rattle.interpolation.specs.Interpolate.{AnimatedTransform-interpolate_by}
use Rattle.interpolation.specs.Promise.{Between}

taken : (b : Bool) (x y : TransformAnswer) → T b → cond b x y ≡ x
taken true x y h = refl
taken false x y h = elim h [ ]

left : (b : Bool) (x y : TransformAnswer) → T (not b) → cond b x y ≡ y
left false x y h = refl
left true x y h = elim h [ ]

stored-judged : {t : Transform} → StoredPose t → TransformAnswer-judged t ≡ TransformAnswer-accepted t
unfolding Transform-is_finite TransformAnswer-judged
stored-judged {t} s =
    taken (Transform-is_finite t) _ _
    (and_i (Matrix4x4-is_finite (Matrix4x4-to_rows t.m)) (Matrix4x4-is_finite (Matrix4x4-to_rows t.m_inv)) s.matrix s.inverse)

module _ (m : AnimatedTransform) (between : Float → TransformAnswer) (time : Float) where
  pub interpolate-nan : T (is_nan time) → AnimatedTransform-interpolate_by m between time ≡ TransformAnswer-refused 6
  unfolding AnimatedTransform-interpolate_by
  interpolate-nan n = taken (is_nan time) _ _ n

  pub interpolate-start : T (not (is_nan time)) → T (at_start m time)
      → AnimatedTransform-interpolate_by m between time ≡ TransformAnswer-judged m.start_transform
  unfolding AnimatedTransform-interpolate_by
  interpolate-start n s = left (is_nan time) _ _ n ∙ taken (at_start m time) _ _ s

  pub interpolate-end : T (not (is_nan time)) → T (not (at_start m time)) → T (at_end m time)
      → AnimatedTransform-interpolate_by m between time ≡ TransformAnswer-judged m.end_transform
  unfolding AnimatedTransform-interpolate_by
  interpolate-end n s e = left (is_nan time) _ _ n ∙ left (at_start m time) _ _ s ∙ taken (at_end m time) _ _ e

  pub interpolate-between : Between m time → AnimatedTransform-interpolate_by m between time ≡ between (dt m.start_time m.end_time time)
  unfolding AnimatedTransform-interpolate_by
  interpolate-between b = left (is_nan time) _ _ b.number ∙ left (at_start m time) _ _ b.after ∙ left (at_end m time) _ _ b.before

  pub built-start : Built m → T (not (is_nan time)) → T (at_start m time)
      → AnimatedTransform-interpolate_by m between time ≡ TransformAnswer-accepted m.start_transform
  built-start b n s = interpolate-start n s ∙ stored-judged (built-judged b).start

  pub built-end : Built m → T (not (is_nan time)) → T (not (at_start m time)) → T (at_end m time)
      → AnimatedTransform-interpolate_by m between time ≡ TransformAnswer-accepted m.end_transform
  built-end b n s e = interpolate-end n s e ∙ stored-judged (built-judged b).end

  pub interpolate-equal : Built m → T (not (is_nan time)) → T (Transform-eq m.start_transform m.end_transform)
      → AnimatedTransform-interpolate_by m between time ≡ TransformAnswer-accepted m.start_transform
  interpolate-equal b n e =
      built-start b n (still (Transform-eq m.start_transform m.end_transform) m.actually_animated e (built-judged b).animated)
    where
      still : (e a : Bool) → T e → a ≡ not e → T (not a || le time m.start_time)
      still true a t p = rw p tt
      still false a t p = elim t [ ]
