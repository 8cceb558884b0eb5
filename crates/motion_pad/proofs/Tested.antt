-- A box grown by a pad that isn't refused, by the test of its faces: `faces-finite`, `faces-infinite`, as the code has it. A refused pad: `pad-refused`.
use mathlib.Core.Path.{◌≡◌, sym, ap, ◌∙◌}
use mathlib.Core.Bool.{Bool, true, false}
use Rattle.std.specs.Prelude.{Err}
use borrow.Author.Tests.{ne_eqb}
use Rattle.interval.specs.declared.Interval.{Interval}
use Rattle.interval.specs.refusal.declared.Refusal.{Refusal}
use Rattle.interval.specs.refusal.Number.{Refusal-number}
use Rattle.interval.proofs.refusal.Number.{number-nonzero}
use Rattle.interval.specs.Judged.{Judged-from}
use Rattle.bounds3.specs.declared.Bounds3f.{Bounds3f}
use Rattle.bounds3.specs.Finite.{Bounds3f-is_finite}
use Rattle.transform.specs.declared.BoundsAnswer.TheVariants.{Bounds, Refused}
use Rattle.motion_pad.specs.Grow.{Bounds3f-grow, BoundsAnswer-grow}

module _ (pad : Interval) (b : Bounds3f) {faces : Bounds3f} {t : Bool}
    (g : faces ≡ Bounds3f-grow pad.high b) (f : t ≡ Bounds3f-is_finite faces) where
  -- The test of the faces is that of the grown box.
  tested : Bounds3f-is_finite (Bounds3f-grow pad.high b) ≡ t
  tested = ap Bounds3f-is_finite (sym g) ∙ sym f

  pub faces-finite : t ≡ true → Bounds faces ≡ BoundsAnswer-grow (record { interval = pad; refusal = 0 }) (Bounds b)
  unfolding BoundsAnswer-grow
  faces-finite h = rw (tested, h, g)

  pub faces-infinite : t ≡ false → Refused 5 ≡ BoundsAnswer-grow (record { interval = pad; refusal = 0 }) (Bounds b)
  unfolding BoundsAnswer-grow
  faces-infinite h = rw (tested, h)

pub pad-refused : (r : Refusal) (b : Bounds3f) → Refused (Refusal-number r) ≡ BoundsAnswer-grow (Judged-from (Err (Refusal-number r))) (Bounds b)
unfolding BoundsAnswer-grow
pad-refused r b = rw (ne_eqb (Refusal-number r) 0 (number-nonzero r))
