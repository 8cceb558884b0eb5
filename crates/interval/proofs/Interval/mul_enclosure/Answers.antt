-- `Interval::mul_enclosure` meets its contract: the four values are the definition's, judged.
use Rattle.interval.specs.Enclosure.{Interval-mul_enclosure, Judged-mul_enclosure}
use Rattle.interval.proofs.Interval.mul_enclosure.Goals as goal

pub returns : goal.returns
unfolding Interval-mul_enclosure Judged-mul_enclosure
returns c = record { value = rw (c.judge.ensures.value, c.of_four-four.ensures.value) }
