-- `div` meets its contract: end by end.
use Rattle.lanes.specs.means.Lanes.{Lanes-lane, Lanes-of, Lanes-zip}
use Rattle.interval_unjudged.specs.means.Ordered.{Interval-of_four_ordered, Interval-div_ordered}
use Rattle.lanes.proofs.div.Goals as goal

pub returns : goal.returns
unfolding Lanes-zip Lanes-of Lanes-lane Interval-div_ordered Interval-of_four_ordered
returns c = record {
  value = rw (
    c.greater4-high.ensures.value,
    c.greater4-2.ensures.value,
    c.greater4.ensures.value,
    c.lesser4-low.ensures.value,
    c.lesser4-2.ensures.value,
    c.lesser4.ensures.value,
    c.div4-t.ensures.value,
    c.div4-s.ensures.value,
    c.div4-q.ensures.value,
    c.div4-p.ensures.value,
  );
}
