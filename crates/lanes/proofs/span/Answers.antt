-- `span` meets its contract: end by end.
use Rattle.lanes.specs.means.Lanes.{Interval-span, Lanes-of, Lanes-span}
use Rattle.lanes.proofs.span.Goals as goal

pub returns : goal.returns
unfolding Lanes-span Lanes-of Interval-span
returns c = record { value = rw (c.greater4-high.ensures.value, c.lesser4-low.ensures.value) }
