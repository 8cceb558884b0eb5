-- `is_finite_front` meets its contract: a call for each entry.
use borrow.Author.Rules.{rules}
use Rattle.cover_lean.specs.means.Test.{is_finite_front}
use Rattle.cover_test.proofs.is_finite_front.Goals as goal

pub returns : goal.returns
unfolding is_finite_front
returns c = record { value = rw (c.is_finite.ensures.value, c.is_finite-2.ensures.value, c.is_finite-3.ensures.value); numbers = (c.is_finite.ensures.number, (c.is_finite-2.ensures.number, (c.is_finite-3.ensures.number, tt))) }
