-- A formula read in floats, each operation correctly rounded: `Program-eval`. Definitions only.
-- A variable that is not bound is NaN; no program of ours has one (`Program-valid`).
use Rattle.std.specs.Prelude.{List, [], ◌∷◌, ◌++◌, length, get_or, Float}
use Rattle.std.specs.Float.{nan, binary32}
use Rattle.std.specs.Float.Ieee.{add, sub, mul, div}
use Rattle.interval.specs.square_root.SquareRoot
use Rattle.interval.specs.trig.SinCos
use Rattle.formula.specs.Program.{Binary, sum, difference, product, quotient, Unary, root, sine}
use Rattle.formula.specs.Program.{cosine, Expr, var, con, binary, unary, Program, ◌>>=◌, give}

abbrev pub Binary-eval : Binary → Float → Float → Float
Binary-eval sum x y = add binary32 x y
Binary-eval difference x y = sub binary32 x y
Binary-eval product x y = mul binary32 x y
Binary-eval quotient x y = div binary32 x y

abbrev pub Unary-eval : Unary → Float → Float
Unary-eval root x = SquareRoot.sqrt binary32 x
Unary-eval sine x = SinCos.sin x
Unary-eval cosine x = SinCos.cos x

abbrev pub Expr-eval : List Float → Expr → Float
Expr-eval ρ (var i) = get_or ρ i nan
Expr-eval ρ (con x) = x
Expr-eval ρ (binary o a b) = Binary-eval o (Expr-eval ρ a) (Expr-eval ρ b)
Expr-eval ρ (unary o a) = Unary-eval o (Expr-eval ρ a)

abbrev pub Expr-eval_all : List Float → List Expr → List Float
Expr-eval_all ρ [] = []
Expr-eval_all ρ (e ∷ es) = Expr-eval ρ e ∷ Expr-eval_all ρ es

-- The values of a program at the inputs ρ.
abbrev pub Program-eval : List Float → Program → List Float
Program-eval ρ (give es) = Expr-eval_all ρ es
Program-eval ρ (e >>= k) = Program-eval (ρ ++ Expr-eval ρ e ∷ []) (k (var (length ρ)))
