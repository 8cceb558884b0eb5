-- `coarse_depth` meets its contract: cos_theta chooses the case.
use Rattle.cover_slices.specs.means.Lean.{coarse_depth}
use Rattle.cover_slices.proofs.coarse_depth.Goals as goal

pub returns-then-a : goal.returns-then-a
unfolding coarse_depth
returns-then-a c = record { value = rw c.if-a.true }

pub returns-else-a : goal.returns-else-a
unfolding coarse_depth
returns-else-a c = record { value = rw c.if-a.false }
