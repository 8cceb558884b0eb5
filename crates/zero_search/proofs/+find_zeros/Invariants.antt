-- `find_zeros` ends: the depth falls.
use Rattle.zero_search.proofs.+find_zeros.Given as goal

abbrev pub decreases-find_zeros : goal.decreases-find_zeros
decreases-find_zeros l = l.depth
