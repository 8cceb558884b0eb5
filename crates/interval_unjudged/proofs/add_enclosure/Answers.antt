-- `add_enclosure` meets its contract: its ends are the definition's.
use mathlib.Core.Path.{refl}
use Rattle.interval.specs.Enclosure.{Interval-add_enclosure}
use Rattle.interval_unjudged.proofs.add_enclosure.Goals as goal

pub returns : goal.returns
unfolding Interval-add_enclosure
returns c = record { value = refl }
