-- A box whose zeros are +0, `Bounds3f-positive_zeros`. Document 01 leaves their sign open: "in what is worked out, a box's zero may have either sign". +0 is added to
-- each coordinate: rounded to nearest, -0 + +0 is +0, and every other value stays. Definitions only.
use Rattle.bounds3.specs.float32.Operators.{◌⊕◌, positive_zero}
use Rattle.bounds3.specs.declared.Point3f.{Point3f}
use Rattle.bounds3.specs.declared.Bounds3f.{Bounds3f}
use Rattle.transform.specs.declared.BoundsAnswer.{BoundsAnswer}
use Rattle.transform.specs.declared.BoundsAnswer.TheVariants.{Bounds, Refused}

abbrev pub Point3f-positive_zeros : Point3f → Point3f
Point3f-positive_zeros p = record { x = p.x ⊕ positive_zero; y = p.y ⊕ positive_zero; z = p.z ⊕ positive_zero }

unfoldable pub Bounds3f-positive_zeros : Bounds3f → Bounds3f
Bounds3f-positive_zeros b = record { p_min = Point3f-positive_zeros b.p_min; p_max = Point3f-positive_zeros b.p_max }

-- A refusal stands.
unfoldable pub BoundsAnswer-positive_zeros : BoundsAnswer → BoundsAnswer
BoundsAnswer-positive_zeros (Bounds b) = Bounds (Bounds3f-positive_zeros b)
BoundsAnswer-positive_zeros (Refused n) = Refused n
