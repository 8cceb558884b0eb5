-- `union_halves` ends: the depth falls.
use Rattle.dt_pieces.proofs.+union_halves.Given as goal

abbrev pub decreases-union_halves : goal.decreases-union_halves
decreases-union_halves l = l.depth
