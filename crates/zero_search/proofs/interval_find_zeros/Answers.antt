-- `interval_find_zeros` meets its contract: the search from 0 to 1, judged.
use Rattle.zero_search.specs.Search.{interval_find_zeros}
use Rattle.zero_search.proofs.interval_find_zeros.Goals as goal

pub returns : goal.returns
unfolding interval_find_zeros
returns c = record { value = rw (c.judged.ensures.value, c.unit_search.ensures.value) }
