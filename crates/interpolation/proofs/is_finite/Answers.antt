-- `is_finite` meets its contract: the tests of both halves.
use Rattle.interpolation.specs.Interpolate.{Transform-is_finite}
use borrow.Author.Rules.{rules}
use Rattle.interpolation.proofs.is_finite.Goals as goal

pub returns : goal.returns
unfolding Transform-is_finite
returns c = record { value = rw (c.is_finite-2.ensures.value, c.to_rows-2.ensures.value, c.is_finite.ensures.value, c.to_rows.ensures.value) }
