-- What follows the first n named values of a program with i inputs: `Program-after n i`. Definitions only.
use Rattle.std.specs.Prelude.{ℕ, zero, suc}
use Rattle.formula.specs.Program.{var, Program, ◌>>=◌, give}

abbrev pub Program-after : ℕ → ℕ → Program → Program
Program-after zero i p = p
Program-after (suc n) i (give es) = give es
Program-after (suc n) i (e >>= k) = Program-after n (suc i) (k (var i))
