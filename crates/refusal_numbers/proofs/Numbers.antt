-- Building, every query and the answer to any file give document 01's numbers alone: `every-answer`. The numbers and the refused structs are each crate's own
-- laws; that no refusal carries 0 is `NonZero.antt`.
use Rattle.std.specs.Prelude.{Err}
use Prim.Native.Nat.{ℕ}
use mathlib.Core.Path.{◌≡◌, refl}
use mathlib.Core.Bool.{not, ◌||◌}
use mathlib.Core.Logic.{◌⊎◌, inl, inr}
use mathlib.Core.List.{[], ◌∷◌}
use lib.Ieee.{Float, is_nan}
use Rattle.run_schedule.proofs.control_flow.Choice.{cond-keeps}
use Rattle.run_schedule.specs.matrix4x4.Rows.{Rows}
use Rattle.run_schedule.specs.bounds3.declared.Point3f.{Point3f}
use Rattle.run_schedule.specs.bounds3.Finite.{Point3f-is_finite}
use Rattle.run_schedule.specs.transform.Answer.{PointAnswer, OneOf, PointAnswer-refusal}
use Rattle.motion_bounds_laws.proofs.animated_transform.Numbers.{new-refused}
use Rattle.motion_bounds_laws.proofs.motion_point.Query.{moved-point-judged}
use Rattle.motion_bounds_laws.proofs.motion_point.NonZero.{point-numbered, transform-point-numbered}
use Rattle.interpolate_kept.specs.motion_rows.Rows.{AnimatedTransform-from_rows, PoseConstants-from_rows}
use Rattle.interpolate_kept.specs.motion_rows.TransformPoint.{Rows-transform_point}
use Rattle.interpolate_kept.proofs.motion_rows.NonZero.{rows-point-nonzero}
use Rattle.motion_bounds_laws.proofs.Numbers.{bound-point-motion-numbers, motion-bounds-numbers}
use Rattle.refused_run.proofs.motion_cover.Number.{cover-numbered}
use Rattle.refusal_numbers.specs.Numbers.{EveryAnswer}
use Rattle.refusal_numbers.proofs.Building.{building-number}
use Rattle.refusal_numbers.proofs.NonZero.{counted-numbered, point-motion-nonzero, motion-nonzero}
use Rattle.refusal_numbers.proofs.File.{file-numbered}
use Rattle.refusal_numbers.proofs.Pad.{pad-numbered, rows-pad-numbered}
use Rattle.refusal_numbers.proofs.Interpolate.{interpolate-numbered, rows-interpolate-numbered}

rows-point-number : (rows : Rows) (time : Float) (p : Point3f) → OneOf (PointAnswer-refusal (Rows-transform_point rows time p)) (0 ∷ 5 ∷ 6 ∷ [])
unfolding Rows-transform_point
rows-point-number rows time p =
    cond-keeps (λ (a : PointAnswer). OneOf (PointAnswer-refusal a) (0 ∷ 5 ∷ 6 ∷ [])) (is_nan time || not (Point3f-is_finite p)) (Err 6) _
    (inr (inr (inl refl)))
    (worked (moved-point-judged (AnimatedTransform-from_rows rows) (PoseConstants-from_rows rows) time p).number)
  where
    worked : {n : ℕ} → (n ≡ 0) ⊎ (n ≡ 5) → OneOf n (0 ∷ 5 ∷ 6 ∷ [])
    worked (inl e) = inl e
    worked (inr e) = inr (inl e)

pub every-answer : EveryAnswer
every-answer = record {
  building = λ rigid start end. record { number = building-number rigid start end; refused = new-refused rigid start end };
  point = transform-point-numbered;
  rows-point = λ rows time p. point-numbered (Rows-transform_point rows time p) (rows-point-nonzero rows time p) (rows-point-number rows time p);
  pad = pad-numbered;
  rows-pad = rows-pad-numbered;
  interpolate = interpolate-numbered;
  rows-interpolate = rows-interpolate-numbered [];
  point-motion = λ m p. counted-numbered _ _ (point-motion-nonzero m p) (bound-point-motion-numbers m p).number;
  motion = λ m b. counted-numbered _ _ (motion-nonzero m b) (motion-bounds-numbers m b).number;
  cover = cover-numbered;
  file = file-numbered;
}
