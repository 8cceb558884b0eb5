-- `mul` meets its contract: `Interval::new` of the two ends that the definition names.
use Rattle.interval.specs.Interval.{Interval-mul}
use Rattle.interval.proofs.IntervalMul.mul.Goals as goal

pub returns : goal.returns
unfolding Interval-mul
returns c = rw (← c.of_four-four.ensures.value) c.new.ensures.value
