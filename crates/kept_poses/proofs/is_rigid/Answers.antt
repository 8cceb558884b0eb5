-- `is_rigid` meets its contract: the rows hold the move's kind.
use mathlib.Core.Path.{refl}
use borrow.Author.Rules.{rules}
use Rattle.motion_rows.specs.Rows.{AnimatedTransform-from_rows}
use Rattle.kept_poses.proofs.is_rigid.Goals as goal

pub returns : goal.returns
unfolding AnimatedTransform-from_rows
returns c = record { value = refl }
