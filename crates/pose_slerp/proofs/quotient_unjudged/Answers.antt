-- `quotient_unjudged` meets its contract: its calls in turn, from the last to the first.
use Rattle.pose_slerp.specs.means.Unjudged.{IntervalQuaternion-quotient}
use Rattle.pose_slerp.proofs.quotient_unjudged.Goals as goal

pub returns : goal.returns
unfolding IntervalQuaternion-quotient
returns c = record {
  value = rw (
    c.div_ordered-w.ensures.value,
    c.div_ordered-z.ensures.value,
    c.div_ordered-y.ensures.value,
    c.div_ordered-x.ensures.value,
  );
}
