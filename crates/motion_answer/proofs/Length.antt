-- No text is longer than that of a box, so that 72 bytes hold the answer to every file: `answer-length`.
use Prim.Native.Nat.{ℕ, ◌≤◌}
use native.Mathlib.Omega.{arith}
use mathlib.Core.Path.{refl}
use mathlib.Core.Bool.{Bool}
use mathlib.Core.List.{List}
use lib.ListN.{length}
use Rattle.bounds3.specs.List.{Bounds3f-list}
use Rattle.transform.specs.declared.BoundsAnswer.{BoundsAnswer}
use Rattle.transform.specs.declared.BoundsAnswer.TheVariants.{Bounds, Refused}
use Rattle.motion_text.proofs.Written.{length-bounds, refusal-bound}
use Rattle.motion_answer.specs.Answer.{MoveFile-cover, BoundsAnswer-text, answer_text}
use Rattle.motion_answer.specs.Theorem.{longest_text}

pub answer-length : (rigid : Bool) (bytes : List ℕ) → length (answer_text rigid bytes) ≤ longest_text
unfolding answer_text BoundsAnswer-text
answer-length rigid bytes = go (MoveFile-cover rigid bytes)
  where
    go : (c : BoundsAnswer) → length (BoundsAnswer-text c) ≤ 72
    go (Bounds box) = omega (arith, length-bounds (Bounds3f-list box) refl)
    go (Refused n) = omega (arith, refusal-bound n)
