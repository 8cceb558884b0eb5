-- `Interval::add_enclosure` meets its contract: the two ends are the definition's, judged.
use Rattle.interval.specs.Enclosure.{Interval-add_enclosure, Judged-add_enclosure}
use Rattle.interval.proofs.Interval.add_enclosure.Goals as goal

pub returns : goal.returns
unfolding Interval-add_enclosure Judged-add_enclosure
returns c = record { value = c.judge.ensures.value }
