-- May a boom that is driven to an answered transform be asked for its points? Yes: `MovesPoints`, the statement of `interpolate-points`. Definitions only.
--
-- Where a transform of kept moves is answered, it takes every finite point, by pbrt's transform_point, to where the point query of the same moves takes it at
-- the same time, bit for bit; where the moved point isn't finite, both are refused with 5. It holds for any rows.
use Rattle.std.specs.Prelude.{◌≡◌, List, Float}
use Rattle.transform.specs.matrix4x4.Rows.{Rows}
use Rattle.transform.specs.bounds3.declared.Point3f.{Point3f}
use Rattle.transform.specs.bounds3.Finite.{Finite}
use Rattle.transform.specs.declared.Transform.{Transform}
use Rattle.transform.specs.TransformPoint.{Transform-transform_point}
use Rattle.chain_rows.specs.Kept.{Moves-transform_point}

abbrev pub MovesPoints : List Rows → Float → Transform → Type 0
MovesPoints rows time t = (p : Point3f) → Finite p → Transform-transform_point t p ≡ Moves-transform_point rows time p
