-- Poses with their pad over a box, `PaddedPose-enclose_bounds`: what a piece of a cover does once these are known, be it a slice of dt or a stored transform.
-- Definitions only.
use Rattle.std.specs.Prelude.{ℕ, Result, Ok, Err, [], Float}
use Rattle.matrix4x4.specs.declared.Matrix4x4.{Matrix4x4}
use Rattle.bounds3.specs.declared.Bounds3f.{Bounds3f}
use Rattle.transform.specs.declared.Transform.{Transform}
use Rattle.transform.specs.declared.BoundsAnswer.{BoundsAnswer}
use Rattle.transform.specs.declared.BoundsAnswer.TheVariants.{Bounds, Refused}
use Rattle.interval.specs.declared.Interval.{Interval}
use Rattle.interval.specs.refusal.Number.{numbered}
use Rattle.interval.specs.refusal.Outcome.{and_then}
use Rattle.interval.specs.Judged.{Judged, Judged-outcome, Judged-from}
use Rattle.pose_steps.specs.declared.PoseConstants.{PoseConstants}
use Rattle.pose_steps.specs.declared.IntervalVector.{IntervalVector}
use Rattle.pose_steps.specs.declared.IntervalMatrix.{IntervalMatrix}
use Rattle.pose_steps.specs.formula.Enclose.{enclosure}
use Rattle.pose_steps.specs.Judged.{JudgedMatrix, JudgedVector-outcome, JudgedMatrix-outcome}
use Rattle.pose_steps.specs.Enclose.{IntervalMatrix-point, JudgedMatrix-of, Pose-enclose_transform_point, Pose-enclose_matrix, Bounds3f-intervals, IntervalVector-bounds}
use Rattle.motion_pad.specs.Pad.{Pad-enclose, Pad-stored}
use Rattle.motion_pad.specs.Grow.{BoundsAnswer-grow}
use Rattle.motion_cover.specs.Cover.{BoundsAnswer-from_enclosure}
use Rattle.motion_piece.specs.declared.PaddedPose as code

pub record PaddedPose : Type 0 where
  pub matrix : JudgedMatrix
  pub pad : Judged

-- A matrix beside its number; after a refusal its entries are NaN.
abbrev pub JudgedMatrix-from : Result IntervalMatrix ℕ → JudgedMatrix
JudgedMatrix-from (Ok A) = record { matrix = A; refusal = 0 }
JudgedMatrix-from (Err n) = JudgedMatrix-of (enclosure n [])

-- As code has it.
abbrev pub PaddedPose-judged : code.PaddedPose → PaddedPose
PaddedPose-judged p = record { matrix = JudgedMatrix-from (numbered p.matrix); pad = Judged-from (numbered p.pad) }

-- The box that the box b is moved to, grown by the pad, or the number that was met.
unfoldable pub PaddedPose-enclose_bounds : PaddedPose → Bounds3f → BoundsAnswer
PaddedPose-enclose_bounds pose b =
    BoundsAnswer-grow pose.pad
    (BoundsAnswer-from_enclosure (Pose-enclose_transform_point pose.matrix.refusal pose.matrix.matrix (Bounds3f-intervals b)))

-- Over an interval of dt.
abbrev pub PaddedPose-over : PoseConstants → Matrix4x4 → Matrix4x4 → Float → Float → Interval → PaddedPose
PaddedPose-over a s0 s1 pad0 pad1 dt =
    record {
      matrix = JudgedMatrix-from (JudgedMatrix-outcome (Pose-enclose_matrix a s0 s1 dt));
      pad = Judged-from (Judged-outcome (Pad-enclose pad0 pad1 dt));
    }

-- A stored transform has equal ends, and nothing is refused.
abbrev pub PaddedPose-stored : Float → Transform → PaddedPose
PaddedPose-stored pad t = record { matrix = record { matrix = IntervalMatrix-point t.m; refusal = 0 }; pad = Pad-stored pad }

-- ---- in code's two steps
-- The intervals that the box b is moved to, and these as a box.
abbrev pub moved_intervals : Result IntervalMatrix ℕ → Bounds3f → Result IntervalVector ℕ
moved_intervals matrix b =
    and_then matrix (λ (A : IntervalMatrix). JudgedVector-outcome (Pose-enclose_transform_point 0 A (Bounds3f-intervals b)))

abbrev pub moved_box : Result IntervalVector ℕ → BoundsAnswer
moved_box (Ok w) = Bounds (IntervalVector-bounds w)
moved_box (Err n) = Refused n
