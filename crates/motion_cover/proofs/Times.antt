-- The guarantee before, during and after the move: `before-inside`, `during-inside`, `after-inside`. Each is `cover-contains` with the query's own case named.
use Prim.Native.Nat.{ℕ}
use mathlib.Core.Path.{◌≡◌, refl, sym, subst₂, ◌∙◌}
use mathlib.Core.Bool.{Bool, true, false, not, ◌||◌, cond, true≢false}
use lib.Dec.{T}
use lib.Ieee.{Float, is_nan, le}
use lib.Ieee.Bits.{is_true, is_false}
use Rattle.stored_box.specs.float32.MinMax.{max_num}
use Rattle.stored_box.specs.bounds3.declared.Point3f.{Point3f}
use Rattle.stored_box.specs.bounds3.declared.Bounds3f.{Bounds3f}
use Rattle.stored_box.specs.bounds3.Inside.{Inside}
use Rattle.stored_box.specs.transform.Answer.{PointAnswer, BoundsAnswer-refusal, BoundsAnswer-bounds}
use Rattle.motion_point.specs.animated_transform.declared.AnimatedTransform.{AnimatedTransform}
use Rattle.motion_point.specs.animated_transform.Built.{Built}
use Rattle.motion_point.specs.animated_transform.AtTime.{at_start, at_end}
use Rattle.motion_point.specs.TransformPoint.{AnimatedTransform-constants, AnimatedTransform-moved_point, AnimatedTransform-transform_point}
use Rattle.motion_point.proofs.Query.{moved-point-start, moved-point-end, moved-point-between}
use Rattle.stored_box.specs.unit_interval.Unit.{dt}
use Rattle.motion_point.specs.PadAt.{AnimatedTransform-pad_at}
use Rattle.motion_point.proofs.PadAt.{pad-at-equal, pad-at-start, pad-at-end, pad-at-between}
use Rattle.motion_pad.specs.Pad.{Pad-at}
use Rattle.motion_cover.specs.Cover.{AnimatedTransform-cover}
use Rattle.motion_cover.specs.Theorem.{MovedInside}
use Rattle.motion_cover.specs.Times.{AnswersInside, BeforeInside, DuringInside, AfterInside}
use Rattle.motion_cover.proofs.NonZero.{cover-answered}
use Rattle.motion_cover.proofs.Contains.{query-accepted, cover-contains}

-- ---- the pad, by the query's own tests
module _ (m : AnimatedTransform) (time : Float) where
  pad-start : at_start m time ≡ true → AnimatedTransform-pad_at m time ≡ cond m.actually_animated m.pad0 (max_num m.pad0 m.pad1)
  pad-start = go m.actually_animated (le time m.start_time) refl refl
    where
      go : (a s : Bool) → m.actually_animated ≡ a → le time m.start_time ≡ s → not a || s ≡ true
          → AnimatedTransform-pad_at m time ≡ cond a m.pad0 (max_num m.pad0 m.pad1)
      go false s e f h = pad-at-equal m time e
      go true true e f h = pad-at-start m time e f
      go true false e f h = absurd (true≢false (sym h))

  -- Neither equal poses nor a time up to the start.
  beyond-start : at_start m time ≡ false → (m.actually_animated ≡ true) × (le time m.start_time ≡ false)
  beyond-start = go m.actually_animated (le time m.start_time)
    where
      go : (a s : Bool) → not a || s ≡ false → (a ≡ true) × (s ≡ false)
      go false s h = absurd (true≢false h)
      go true s h = (refl, h)

  pad-end : at_start m time ≡ false → at_end m time ≡ true → AnimatedTransform-pad_at m time ≡ m.pad1
  pad-end s f = let (e, l) = beyond-start s in pad-at-end m time e l f

  pad-between : at_start m time ≡ false → at_end m time ≡ false
      → AnimatedTransform-pad_at m time ≡ Pad-at m.pad0 m.pad1 (dt m.start_time m.end_time time)
  pad-between s f = let (e, l) = beyond-start s in pad-at-between m time e l f

module _ (m : AnimatedTransform) (b : Bounds3f) (d : ℕ) where
  -- The query's answer under another name.
  named : (time : Float) (p : Point3f) (answer : PointAnswer) (pad : Float)
      → Built m → BoundsAnswer-refusal (AnimatedTransform-cover m b d) ≡ 0 → T (not (is_nan time)) → Inside b p
      → AnimatedTransform-moved_point m (AnimatedTransform-constants m) time p ≡ answer → AnimatedTransform-pad_at m time ≡ pad
      → AnswersInside (BoundsAnswer-bounds (AnimatedTransform-cover m b d))
      (AnimatedTransform-transform_point m time p) answer (AnimatedTransform-pad_at m time) pad
  named time p answer pad built e n i h k =
      let box = BoundsAnswer-bounds (AnimatedTransform-cover m b d) in
      let q : AnimatedTransform-transform_point m time p ≡ answer = query-accepted m b d box time p (cover-answered m b d e) n i ∙ h in
      record { same = q; same-pad = k; inside = subst₂ (MovedInside box) k q (cover-contains m b d time p built e n i) }

  pub before-inside : BeforeInside m b (AnimatedTransform-cover m b d)
  before-inside time p built e n i s =
      named time p _ _ built e n i (moved-point-start m (AnimatedTransform-constants m) time p (is_true (at_start m time) s))
      (pad-start m time (is_true (at_start m time) s))

  pub during-inside : DuringInside m b (AnimatedTransform-cover m b d)
  during-inside time p built e n i s f =
      named time p _ _ built e n i (moved-point-between m (AnimatedTransform-constants m) time p (is_false (at_start m time) s) (is_false (at_end m time) f))
      (pad-between m time (is_false (at_start m time) s) (is_false (at_end m time) f))

  pub after-inside : AfterInside m b (AnimatedTransform-cover m b d)
  after-inside time p built e n i s f =
      named time p _ _ built e n i (moved-point-end m (AnimatedTransform-constants m) time p (is_false (at_start m time) s) (is_true (at_end m time) f))
      (pad-end m time (is_false (at_start m time) s) (is_true (at_end m time) f))
