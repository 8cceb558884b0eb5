-- What the lean reading of a formula asks beside that the judged one is accepted: variables bound and constants of binary32, `Program-bound`; and of
-- what sine and cosine are asked, `Program-turned`. Definitions only.
use Rattle.std.specs.Prelude.{Bool, true, ◌&&◌, List, [], ◌∷◌, ◌++◌, length, ltb}
use Rattle.std.specs.Float.{binary32}
use Rattle.std.specs.Float.Ieee.{fits}
use Rattle.std.specs.Float.Ieee.Scale.{finite}
use Rattle.alike.specs.formula.Program.{Unary, root, sine, cosine, Expr, var, con, binary, unary, Program, ◌>>=◌, give}
use Rattle.alike.specs.formula.Enclose.{Enclosure, extend, Expr-enclose}
use Rattle.alike.specs.interval.declared.Interval.{Interval}
use Rattle.formula_lean.specs.means.Lean.{Lean, Expr-lean}

abbrev pub Expr-bound : List Interval → Expr → Bool
Expr-bound σ (var i) = ltb i (length σ)
Expr-bound σ (con x) = finite x && fits binary32 x
Expr-bound σ (binary o a b) = Expr-bound σ a && Expr-bound σ b
Expr-bound σ (unary o a) = Expr-bound σ a

abbrev pub Expr-bound_all : List Interval → List Expr → Bool
Expr-bound_all σ [] = true
Expr-bound_all σ (e ∷ es) = Expr-bound σ e && Expr-bound_all σ es

-- Of the lists in c only their lengths count.
abbrev pub Program-bound : Enclosure → Program → Bool
Program-bound c (give es) = Expr-bound_all c.intervals es
Program-bound c (e >>= k) =
    Expr-bound c.intervals e && Program-bound (extend c.intervals (Expr-enclose c.refusal c.intervals e)) (k (var (length c.intervals)))

-- ---- the lean values of which sine or cosine is asked
abbrev pub Unary-turned : Unary → Lean → List Lean
Unary-turned root v = []
Unary-turned sine v = v ∷ []
Unary-turned cosine v = v ∷ []

abbrev pub Expr-turned : List Lean → Expr → List Lean
Expr-turned τ (var i) = []
Expr-turned τ (con x) = []
Expr-turned τ (binary o a b) = Expr-turned τ a ++ Expr-turned τ b
Expr-turned τ (unary o a) = Unary-turned o (Expr-lean τ a) ++ Expr-turned τ a

abbrev pub Expr-turned_all : List Lean → List Expr → List Lean
Expr-turned_all τ [] = []
Expr-turned_all τ (e ∷ es) = Expr-turned τ e ++ Expr-turned_all τ es

abbrev pub Program-turned : List Lean → Program → List Lean
Program-turned τ (give es) = Expr-turned_all τ es
Program-turned τ (e >>= k) = Expr-turned τ e ++ Program-turned (τ ++ Expr-lean τ e ∷ []) (k (var (length τ)))
