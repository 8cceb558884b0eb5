-- `join_halves` ends: the depth falls.
use Rattle.window_groups.proofs.+join_halves.Given as goal

abbrev pub decreases-join_halves : goal.decreases-join_halves
decreases-join_halves l = l.depth
