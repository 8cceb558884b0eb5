-- `sub` meets its contract: `Interval::new` of the two ends that the definition names.
use Rattle.interval.specs.Interval.{Interval-sub}
use Rattle.interval.proofs.IntervalSub.sub.Goals as goal

pub returns : goal.returns
unfolding Interval-sub
returns c = c.new.ensures.value
