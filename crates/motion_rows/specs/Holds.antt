-- A built move that its caller keeps: `Rows-Holds`. Definitions only.
use Rattle.std.specs.Prelude.{◌≡◌}
use Rattle.matrix4x4.specs.Rows.{Rows}
use Rattle.animated_transform.specs.declared.AnimatedTransform.{AnimatedTransform}
use Rattle.animated_transform.specs.Built.{Built}
use Rattle.motion_rows.specs.Rows.{AnimatedTransform-to_rows}

-- The rows are those of a built move.
pub record Rows-Holds (rows : Rows) (m : AnimatedTransform) : Type 0 where
  pub built : Built m
  pub same : rows ≡ AnimatedTransform-to_rows m
