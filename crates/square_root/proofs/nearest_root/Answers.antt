-- An estimate that passes the test is the nearest whole number (`nearest-checked`), wherever it came from.
use native.Mathlib.Omega.{arith}
use Rattle.square_root.proofs.FloorSqrt.{square-fits, nearest-checked}
use Rattle.square_root.proofs.nearest_root.Goals as goal

pub overflow_mul-square : goal.overflow_mul-square
overflow_mul-square c = omega (arith, square-fits c.corrected-r.result c.corrected-r.ensures)

pub overflow_add-square : goal.overflow_add-square
overflow_add-square c = omega (arith, square-fits c.corrected-r.result c.corrected-r.ensures)

pub returns-then-square-n : goal.returns-then-square-n
returns-then-square-n c = nearest-checked c.args.n c.corrected-r.result c.if-square-n.true
