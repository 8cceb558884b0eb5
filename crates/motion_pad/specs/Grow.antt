-- A point less and plus a pad, and a box grown by a pad: document 02, "A box grows on every face as soon as it is worked out". Definitions only.
use Rattle.std.specs.Prelude.{cond, eqb, Float}
use Rattle.float32.specs.Operators.{◌⊕◌, ◌⊖◌}
use Rattle.interval.specs.Judged.{Judged}
use Rattle.bounds3.specs.declared.Point3f.{Point3f}
use Rattle.bounds3.specs.declared.Bounds3f.{Bounds3f}
use Rattle.bounds3.specs.Finite.{Bounds3f-is_finite}
use Rattle.bounds3.specs.Inside.{Inside}
use Rattle.transform.specs.declared.BoundsAnswer.{BoundsAnswer}
use Rattle.transform.specs.declared.BoundsAnswer.TheVariants.{Bounds, Refused}

-- each rounded
abbrev pub Point3f-less : Point3f → Float → Point3f
Point3f-less q pad = record { x = q.x ⊖ pad; y = q.y ⊖ pad; z = q.z ⊖ pad }

abbrev pub Point3f-plus : Point3f → Float → Point3f
Point3f-plus q pad = record { x = q.x ⊕ pad; y = q.y ⊕ pad; z = q.z ⊕ pad }

unfoldable pub Bounds3f-grow : Float → Bounds3f → Bounds3f
Bounds3f-grow pad b = record { p_min = Point3f-less b.p_min pad; p_max = Point3f-plus b.p_max pad }

-- By the high end of a pad interval: the box's own number, then the pad's, then 5 where a grown face isn't finite.
unfoldable pub BoundsAnswer-grow : Judged → BoundsAnswer → BoundsAnswer
BoundsAnswer-grow pad (Bounds b) =
    let grown = Bounds3f-grow pad.interval.high b in
    cond (eqb pad.refusal 0) (cond (Bounds3f-is_finite grown) (Bounds grown) (Refused 5)) (Refused pad.refusal)
BoundsAnswer-grow pad (Refused n) = Refused n

-- "a moved point, less or plus the pad at that time, each rounded, is inside", and the point itself
pub record PaddedInside (box : Bounds3f) (pad : Float) (q : Point3f) : Type 0 where
  pub point : Inside box q
  pub less : Inside box (Point3f-less q pad)
  pub plus : Inside box (Point3f-plus q pad)
