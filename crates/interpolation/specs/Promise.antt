-- The words for what is promised of `AnimatedTransform-interpolate`. Definitions only.
use Rattle.std.specs.Prelude.{◌≡◌, ◌⊎◌, not, ℕ, T, Float}
use Rattle.std.specs.Float.Ieee.{is_nan}
use Rattle.animated_transform.specs.declared.AnimatedTransform.{AnimatedTransform}
use Rattle.animated_transform.specs.AtTime.{at_start, at_end}

-- The numbers that `interpolate` can give.
abbrev pub InterpolationNumber : ℕ → Type 0
InterpolationNumber n = (n ≡ 0) ⊎ ((n ≡ 4) ⊎ ((n ≡ 5) ⊎ (n ≡ 6)))

-- A time at which the transform is worked out and not stored.
pub record Between (m : AnimatedTransform) (time : Float) : Type 0 where
  pub number : T (not (is_nan time))
  pub after : T (not (at_start m time))
  pub before : T (not (at_end m time))
