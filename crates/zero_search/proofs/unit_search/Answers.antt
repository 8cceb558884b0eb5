-- `unit_search` meets its contract: the search from 0 to 1 with nothing found yet.
use native.Mathlib.Omega.{arith}
use Rattle.zero_search.proofs.unit_search.Goals as goal

pub find_zeros-requires : goal.find_zeros-requires
find_zeros-requires c =
    ((c.end_at-low.ensures.value, c.end_at-high.ensures.value), omega arith)

pub returns : goal.returns
returns c = record { value = rw (c.find_zeros.ensures.value, c.empty.ensures.value, c.new-i.ensures.value) }
