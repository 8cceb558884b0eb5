-- `sub_enclosure` meets its contract: its ends are the definition's.
use mathlib.Core.Path.{refl}
use Rattle.interval.specs.Enclosure.{Interval-sub_enclosure}
use Rattle.interval_unjudged.proofs.sub_enclosure.Goals as goal

pub returns : goal.returns
unfolding Interval-sub_enclosure
returns c = record { value = refl }
