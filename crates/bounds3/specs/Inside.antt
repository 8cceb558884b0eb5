-- A point inside a box, `Inside`, and a box inside a box, `Subset`, by IEEE 754's order on each axis. Definitions only.
-- A NaN is inside nothing and a box with a NaN corner holds nothing; the two zeros are equal.
use Rattle.float32.specs.rounding.Order.{◌≼◌}
use Rattle.bounds3.specs.declared.Point3f.{Point3f}
use Rattle.bounds3.specs.declared.Bounds3f.{Bounds3f}

-- document 01, Cover: "Inside means low ≤ value ≤ high; a point of a box is inside it on all three axes."
pub record Inside (b : Bounds3f) (p : Point3f) : Type 0 where
  pub x : (b.p_min.x ≼ p.x) × (p.x ≼ b.p_max.x)
  pub y : (b.p_min.y ≼ p.y) × (p.y ≼ b.p_max.y)
  pub z : (b.p_min.z ≼ p.z) × (p.z ≼ b.p_max.z)

-- On each axis the ends of b are at those of a or beyond them, so that b holds whatever a holds.
pub record Subset (a b : Bounds3f) : Type 0 where
  pub x : (b.p_min.x ≼ a.p_min.x) × (a.p_max.x ≼ b.p_max.x)
  pub y : (b.p_min.y ≼ a.p_min.y) × (a.p_max.y ≼ b.p_max.y)
  pub z : (b.p_min.z ≼ a.p_min.z) × (a.p_max.z ≼ b.p_max.z)
