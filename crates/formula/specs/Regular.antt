-- What the float reading of a formula meets on the way: `Program-regular` says that every value worked out is finite,
-- every argument of a root and every divisor positive. Definitions only.
use Rattle.std.specs.Prelude.{Bool, true, ◌&&◌, List, [], ◌∷◌, ◌++◌, length, Float}
use Rattle.std.specs.Float.Ieee.Scale.{finite}
use Rattle.std.specs.Float.Ieee.Positive.{positive}
use Rattle.formula.specs.Program.{Binary, sum, difference, product, quotient, Unary, root, sine}
use Rattle.formula.specs.Program.{cosine, Expr, var, con, binary, unary, Program, ◌>>=◌, give}
use Rattle.formula.specs.Eval.{Expr-eval}

abbrev pub Binary-regular : Binary → Float → Float → Bool
Binary-regular sum x y = true
Binary-regular difference x y = true
Binary-regular product x y = true
Binary-regular quotient x y = positive y

abbrev pub Unary-regular : Unary → Float → Bool
Unary-regular root x = positive x
Unary-regular sine x = true
Unary-regular cosine x = true

abbrev pub Expr-regular : List Float → Expr → Bool
Expr-regular ρ (var i) = finite (Expr-eval ρ (var i))
Expr-regular ρ (con x) = finite x
Expr-regular ρ (binary o a b) =
    Expr-regular ρ a && (Expr-regular ρ b && (Binary-regular o (Expr-eval ρ a) (Expr-eval ρ b) && finite (Expr-eval ρ (binary o a b))))
Expr-regular ρ (unary o a) = Expr-regular ρ a && (Unary-regular o (Expr-eval ρ a) && finite (Expr-eval ρ (unary o a)))

abbrev pub Expr-regular_all : List Float → List Expr → Bool
Expr-regular_all ρ [] = true
Expr-regular_all ρ (e ∷ es) = Expr-regular ρ e && Expr-regular_all ρ es

abbrev pub Program-regular : List Float → Program → Bool
Program-regular ρ (give es) = Expr-regular_all ρ es
Program-regular ρ (e >>= k) = Expr-regular ρ e && Program-regular (ρ ++ Expr-eval ρ e ∷ []) (k (var (length ρ)))
