-- What a row of the table asks, `Query`, and what comes of it, `answer`: a query on a move builds it from its two poses first,
-- and where building refuses, its number is the answer. Definitions only.
use Rattle.std.specs.Prelude.{ℕ, false, cond, eqb, Float}
use Rattle.motion_cover.specs.trig.SinCos.{sin}
use Rattle.motion_cover.specs.arc_cosine.Acos.{acos}
use Rattle.motion_cover.specs.bounds3.declared.Point3f.{Point3f}
use Rattle.motion_cover.specs.bounds3.declared.Bounds3f.{Bounds3f}
use Rattle.motion_cover.specs.transform.declared.BoundsAnswer.{BoundsAnswer}
use Rattle.motion_cover.specs.transform.Answer.{PointAnswer, PointAnswer-refusal, PointAnswer-point, BoundsAnswer-refusal, BoundsAnswer-bounds}
use Rattle.motion_cover.specs.pose_pair.declared.Pose.{Pose}
use Rattle.motion_cover.specs.animated_transform.declared.AnimatedTransform.{AnimatedTransform}
use Rattle.motion_cover.specs.animated_transform.New.{AnimatedTransformAnswer}
use Rattle.motion_cover.specs.animated_transform.New.{AnimatedTransform-new}
use Rattle.motion_cover.specs.motion_point.TransformPoint.{AnimatedTransform-transform_point}
use Rattle.motion_cover.specs.Cover.{AnimatedTransform-cover}

pub data Query : Type 0 where
  -- the sine of an angle
  sin_of : Float → Query
  -- the arc cosine of a number
  acos_of : Float → Query
  -- whether a move is built from two poses, start and end
  build : Pose → Pose → Query
  -- where that move takes a point at a time
  point_at : Pose → Pose → Float → Point3f → Query
  -- its cover of a box at a depth
  cover_of : Pose → Pose → Bounds3f → ℕ → Query

pub data Answer : Type 0 where
  number : Float → Answer
  built : Answer
  moved : Point3f → Answer
  covered : Bounds3f → Answer
  -- document 01's number
  refused : ℕ → Answer

abbrev pub of_point : PointAnswer → Answer
of_point a = cond (eqb (PointAnswer-refusal a) 0) (moved (PointAnswer-point a)) (refused (PointAnswer-refusal a))

abbrev pub of_bounds : BoundsAnswer → Answer
of_bounds a = cond (eqb (BoundsAnswer-refusal a) 0) (covered (BoundsAnswer-bounds a)) (refused (BoundsAnswer-refusal a))

-- f of the move that was built, or the number of building's refusal.
abbrev pub on_move : AnimatedTransformAnswer → (AnimatedTransform → Answer) → Answer
on_move a f = cond (eqb a.refusal 0) (f a.value) (refused a.refusal)

abbrev pub answer : Query → Answer
answer (sin_of a) = number (sin a)
answer (acos_of c) = number (acos c)
answer (build start end) = on_move (AnimatedTransform-new false start end) (λ m. built)
answer (point_at start end time p) = on_move (AnimatedTransform-new false start end) (λ m. of_point (AnimatedTransform-transform_point m time p))
answer (cover_of start end b depth) = on_move (AnimatedTransform-new false start end) (λ m. of_bounds (AnimatedTransform-cover m b depth))
