-- `nxt` meets its contract: an index below 3 that is neither 0 nor 1 is 2.
use mathlib.Core.Path.{◌≡◌}
use native.Mathlib.Omega.{arith}
use borrow.Author.Rules.{rules}
use Rattle.matrix_quaternion.proofs.nxt.Goals as goal

pub returns-else-i-eq1 : goal.returns-else-i-eq1
returns-else-i-eq1 c = let two : c.args.i ≡ 2 = omega arith in record { value = rw two; axis = search rules }
