-- `stretch_of` meets its contract: its calls in turn.
use Rattle.stretch_points.specs.means.Stretch.{Stretch-of}
use Rattle.stretch_points.proofs.stretch_of.Goals as goal

pub returns : goal.returns
unfolding Stretch-of
returns c = record { value = rw (c.end_scale-s1.ensures.value, c.start_scale-s0.ensures.value, c.perpendicular_to-perpendicular.ensures.value, c.constants_from_rows-a.ensures.value) }
