-- `place_zeros` meets its contract: six sums, by computing.
use mathlib.Core.Path.{refl}
use borrow.Author.Rules.{rules}
use Rattle.motion_pad.specs.bounds_query.Zeros.{Bounds3f-positive_zeros}
use Rattle.motion_fronts.proofs.place_zeros.Goals as goal

pub returns : goal.returns
unfolding Bounds3f-positive_zeros
returns c = record { left = refl }
