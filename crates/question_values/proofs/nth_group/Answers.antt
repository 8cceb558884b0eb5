-- `nth_group` is +0 where the place is beyond every list.
use Prim.Native.Nat.{◌*◌}
use native.Mathlib.Omega.{arith}
use lib.Ieee.{binary32, of_bits}
use lib.ListN.{replicate}
use Rattle.question_values.specs.Places.{values_at}
use Rattle.question_values.proofs.Places.{left-few}
use Rattle.question_values.proofs.nth_group.Goals as goal

pub returns-in-None : goal.returns-in-None
unfolding values_at
returns-in-None g c =
    left-few c.args.values.now (g.row.N * c.args.i) (replicate g.row.N (of_bits binary32 0)) (omega (arith, c.in-None.ensures))
