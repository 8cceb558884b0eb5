-- The pad at a time, asked of a move, `AnimatedTransform-pad`, and of a kept move, whatever its rows, `Rows-pad`. Definitions only.
-- A NaN time is 6, as in the point query; a pad that isn't finite, which lerp may give, is 5.
use Rattle.std.specs.Prelude.{ℕ, cond, List, [], ◌∷◌, Float, Result, Ok, Err}
use Rattle.std.specs.Float.Ieee.{is_nan}
use Rattle.std.specs.Float.Ieee.Scale.{finite}
use Rattle.motion_rows.specs.matrix4x4.Rows.{Rows, positive_zero}
use Rattle.motion_rows.specs.animated_transform.declared.AnimatedTransform.{AnimatedTransform}
use Rattle.motion_rows.specs.Rows.{AnimatedTransform-from_rows}
use Rattle.motion_rows.specs.motion_point.PadAt.{AnimatedTransform-pad_at}

-- a pad, or the number of a refusal
abbrev pub PadAnswer : Type 0
PadAnswer = Result Float ℕ

unfoldable pub PadAnswer-judged : Float → PadAnswer
PadAnswer-judged pad = cond (finite pad) (Ok pad) (Err 5)

unfoldable pub AnimatedTransform-pad : AnimatedTransform → Float → PadAnswer
AnimatedTransform-pad m time = cond (is_nan time) (Err 6) (PadAnswer-judged (AnimatedTransform-pad_at m time))

unfoldable pub Rows-pad : Rows → Float → PadAnswer
Rows-pad rows time = AnimatedTransform-pad (AnimatedTransform-from_rows rows) time

-- document 01's number and value of each case: 0 where nothing is refused, and +0 where something is
abbrev pub PadAnswer-refusal : PadAnswer → ℕ
PadAnswer-refusal (Ok x) = 0
PadAnswer-refusal (Err n) = n

abbrev pub PadAnswer-pad : PadAnswer → Float
PadAnswer-pad (Ok x) = x
PadAnswer-pad (Err n) = positive_zero

-- a lent array after an answer: `old` is what stood in it, and stands in it after a refusal
abbrev pub PadAnswer-left : PadAnswer → List Float → List Float
PadAnswer-left (Ok x) old = x ∷ []
PadAnswer-left (Err n) old = old
