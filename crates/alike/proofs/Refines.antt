-- Alike intervals in order are those that lie in each other: `alike-refines`, `refines-alike`. So every law of isotonicity, used both ways, is one of
-- alikeness.
use Rattle.own_rounding.specs.rounding.Order.{◌≼◌}
use Rattle.interval_unjudged.specs.interval.declared.Interval.{Interval}
use Rattle.interval_unjudged.specs.interval.Contains.{Finite, Refines}
use Rattle.alike.specs.means.Alike.{Interval-Alike}
use Rattle.alike.proofs.Equivalence.{alike-≼}
use Rattle.alike.proofs.Intervals.{interval-sym}

pub alike-refines : {X Y : Interval} → Finite Y → X.low ≼ X.high → Interval-Alike X Y → Refines X Y
alike-refines f o a = record { finite = f; subset = record { low = a.low.from; proper = o; high = a.high.to } }

pub alike-widens : {X Y : Interval} → Finite X → X.low ≼ X.high → Interval-Alike X Y → Refines Y X
alike-widens f o a = alike-refines f (alike-≼ a.low a.high o) (interval-sym a)

pub refines-alike : {X Y : Interval} → Refines X Y → Refines Y X → Interval-Alike X Y
refines-alike r s = record {
  low = record { to = s.subset.low; from = r.subset.low };
  high = record { to = r.subset.high; from = s.subset.high };
}
