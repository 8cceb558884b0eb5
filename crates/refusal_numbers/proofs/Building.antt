-- Building gives 1 to 5 and 16, and as rigid 17 and 18: `building-number`.
use mathlib.Core.Bool.{Bool}
use Rattle.run_schedule.specs.transform.Answer.{OneOf}
use Rattle.motion_bounds_laws.specs.pose_pair.declared.Pose.{Pose}
use Rattle.motion_bounds_laws.specs.animated_transform.New.{AnimatedTransform-new}
use Rattle.motion_bounds_laws.specs.animated_transform.Numbers.{build_numbers}
use Rattle.motion_bounds_laws.proofs.animated_transform.Numbers.{new-refusal}

pub building-number : (rigid : Bool) (start end : Pose) → OneOf (AnimatedTransform-new rigid start end).refusal (build_numbers rigid)
building-number = new-refusal
