-- `Interval::sub_enclosure` meets its contract: the two ends are the definition's, judged.
use Rattle.interval.specs.Enclosure.{Interval-sub_enclosure, Judged-sub_enclosure}
use Rattle.interval.proofs.Interval.sub_enclosure.Goals as goal

pub returns : goal.returns
unfolding Interval-sub_enclosure Judged-sub_enclosure
returns c = record { value = c.judge.ensures.value }
