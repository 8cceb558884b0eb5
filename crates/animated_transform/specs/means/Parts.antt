-- What the parts of two poses lead to: their move, or the refusal that was met on the way to them. No promise of a public function names it.
use Rattle.std.specs.Prelude.{Bool, Result, Ok, Err}
use Rattle.refusal.specs.declared.Refusal.{Refusal}
use Rattle.refusal.specs.Number.{Refusal-number}
use Rattle.decomposition.specs.Decompose.{Decomposition-accepted}
use Rattle.pose_pair.specs.declared.Pose.{Pose}
use Rattle.animated_transform.specs.declared.PairParts.{PairParts}
use Rattle.animated_transform.specs.New.{AnimatedTransformAnswer, AnimatedTransformAnswer-refused, AnimatedTransform-from_parts}

abbrev pub AnimatedTransformAnswer-of_parts : Bool → Pose → Pose → Result PairParts Refusal → AnimatedTransformAnswer
AnimatedTransformAnswer-of_parts rigid start end (Ok x) =
    AnimatedTransform-from_parts rigid start end x.a x.b (Decomposition-accepted x.p) (Decomposition-accepted x.q)
AnimatedTransformAnswer-of_parts rigid start end (Err r) = AnimatedTransformAnswer-refused (Refusal-number r)
