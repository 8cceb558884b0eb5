-- `Interval::sin_cos` meets its contract: the sines and the cosines of the ends are `sin_cos_pair`'s.
use Rattle.interval.specs.Interval.{Interval-sin, Interval-cos}
use Rattle.interval.proofs.Interval.sin_cos.Goals as goal

pub returns : goal.returns
unfolding Interval-sin Interval-cos
returns c = record {
  value = let ends = c.sin_cos_pair-ends.ensures.value in (
    rw (c.sin_between-sin.ensures.value, ends.0, ends.2),
    rw (c.cos_between-cos.ensures.value, ends.1, ends.3),
  );
}
