-- `axis_search` meets its contract: the five terms, then the search.
use Rattle.motion_bounds.specs.MotionBounds.{axis_search}
use Rattle.motion_bounds.proofs.axis_search.Goals as goal

pub returns : goal.returns
unfolding axis_search
returns c = record {
  value = rw (
    c.interval_find_zeros.ensures.value,
    c.eval-5.ensures.value,
    c.eval-4.ensures.value,
    c.eval-3.ensures.value,
    c.eval-2.ensures.value,
    c.eval.ensures.value,
  );
}
