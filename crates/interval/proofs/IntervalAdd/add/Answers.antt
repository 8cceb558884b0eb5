-- `add` meets its contract: `Interval::new` of the two ends that the definition names.
use Rattle.interval.specs.Interval.{Interval-add}
use Rattle.interval.proofs.IntervalAdd.add.Goals as goal

pub returns : goal.returns
unfolding Interval-add
returns c = c.new.ensures.value
