-- What has to unfold for a slice or a dt to compute, as one group: a case says `unfolding computing`.
use Rattle.std.specs.Float.Ieee.{add, sub, div, neg, round, of_bits}
use Rattle.unit_interval.specs.Unit.{slice_end, slice, dt}

unfoldable pub computing : Unit {0}
unfolding add sub div neg round of_bits slice_end slice dt
computing = tt
