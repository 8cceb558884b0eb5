-- `from_u64` meets its contract: n / 2 ^ 0 is n.
use lib.Ieee.{of_int}
use Rattle.float_bits.proofs.from_u64.Goals as goal

pub returns : goal.returns
unfolding of_int
returns c = record { value = c.from_fixed.ensures.value }
