-- A formula read in intervals of which none is judged: `Program-unjudged`. Definitions only.
-- `Program-tested` and `Program-divisors` list the intervals that have to be finite, and those that have to be positive,
-- for the judged reading to give the same (`program-unjudged`). Of a sum or a difference its result alone is asked for,
-- since its operands are finite where it is; of other operations the operands too.
use Rattle.std.specs.Prelude.{ℕ, Bool, true, ◌&&◌, List, [], ◌∷◌, ◌++◌, length, get_or, T, ltb}
use Rattle.std.specs.Float.Ieee.Scale.{finite}
use Rattle.std.specs.Float.Ieee.Positive.{positive}
use Rattle.interval.specs.declared.Interval.{Interval}
use Rattle.interval.specs.Contains.{Finite}
use Rattle.interval.specs.Interval.{Interval-point}
use Rattle.interval.specs.Enclosure.{Interval-add_enclosure, Interval-sub_enclosure, Interval-sqrt_enclosure, Interval-sin_enclosure, Interval-cos_enclosure}
use Rattle.formula.specs.Program.{Binary, sum, difference, product, quotient, Unary, root, sine, cosine, Expr, var, con, binary, unary, Program, ◌>>=◌, give}
use Rattle.formula.specs.Enclose.{unbound}
use Rattle.interval_unjudged.specs.means.Ordered.{Interval-mul_ordered, Interval-div_ordered}

-- ---- the reading
abbrev pub Binary-unjudged : Binary → Interval → Interval → Interval
Binary-unjudged sum X Y = Interval-add_enclosure X Y
Binary-unjudged difference X Y = Interval-sub_enclosure X Y
Binary-unjudged product X Y = Interval-mul_ordered X Y
Binary-unjudged quotient X Y = Interval-div_ordered X Y

abbrev pub Unary-unjudged : Unary → Interval → Interval
Unary-unjudged root X = Interval-sqrt_enclosure X
Unary-unjudged sine X = Interval-sin_enclosure X
Unary-unjudged cosine X = Interval-cos_enclosure X

unfoldable pub Expr-unjudged : List Interval → Expr → Interval
Expr-unjudged σ (var i) = get_or σ i unbound
Expr-unjudged σ (con x) = Interval-point x
Expr-unjudged σ (binary o a b) = Binary-unjudged o (Expr-unjudged σ a) (Expr-unjudged σ b)
Expr-unjudged σ (unary o a) = Unary-unjudged o (Expr-unjudged σ a)

unfoldable pub Expr-unjudged_all : List Interval → List Expr → List Interval
Expr-unjudged_all σ [] = []
Expr-unjudged_all σ (e ∷ es) = Expr-unjudged σ e ∷ Expr-unjudged_all σ es

unfoldable pub Program-unjudged : List Interval → Program → List Interval
Program-unjudged σ (give es) = Expr-unjudged_all σ es
Program-unjudged σ (e >>= k) = Program-unjudged (σ ++ Expr-unjudged σ e ∷ []) (k (var (length σ)))

-- ---- every variable is bound, and every constant is finite
abbrev pub Expr-closed : List Interval → Expr → Bool
Expr-closed σ (var i) = ltb i (length σ)
Expr-closed σ (con x) = finite x
Expr-closed σ (binary o a b) = Expr-closed σ a && Expr-closed σ b
Expr-closed σ (unary o a) = Expr-closed σ a

abbrev pub Expr-closed_all : List Interval → List Expr → Bool
Expr-closed_all σ [] = true
Expr-closed_all σ (e ∷ es) = Expr-closed σ e && Expr-closed_all σ es

abbrev pub Program-closed : List Interval → Program → Bool
Program-closed σ (give es) = Expr-closed_all σ es
Program-closed σ (e >>= k) = Expr-closed σ e && Program-closed (σ ++ Expr-unjudged σ e ∷ []) (k (var (length σ)))

-- ---- what has to be finite
-- A variable or a constant is finite already.
abbrev pub Expr-result : List Interval → Expr → List Interval
Expr-result σ (var i) = []
Expr-result σ (con x) = []
Expr-result σ (binary o a b) = Expr-unjudged σ (binary o a b) ∷ []
Expr-result σ (unary o a) = Expr-unjudged σ (unary o a) ∷ []

abbrev pub Binary-operands : Binary → List Interval → List Interval
Binary-operands sum l = []
Binary-operands difference l = []
Binary-operands product l = l
Binary-operands quotient l = l

-- What is formed below e, where e itself is finite.
abbrev pub Expr-tested : List Interval → Expr → List Interval
Expr-tested σ (var i) = []
Expr-tested σ (con x) = []
Expr-tested σ (binary o a b) = Binary-operands o (Expr-result σ a ++ Expr-result σ b) ++ (Expr-tested σ a ++ Expr-tested σ b)
Expr-tested σ (unary o a) = Expr-result σ a ++ Expr-tested σ a

abbrev pub Expr-tested_all : List Interval → List Expr → List Interval
Expr-tested_all σ [] = []
Expr-tested_all σ (e ∷ es) = Expr-result σ e ++ (Expr-tested σ e ++ Expr-tested_all σ es)

abbrev pub Program-tested : List Interval → Program → List Interval
Program-tested σ (give es) = Expr-tested_all σ es
Program-tested σ (e >>= k) = Expr-result σ e ++ (Expr-tested σ e ++ Program-tested (σ ++ Expr-unjudged σ e ∷ []) (k (var (length σ))))

-- ---- what has to be positive: divisors and what is rooted
abbrev pub Binary-divisor : Binary → Interval → List Interval
Binary-divisor sum Y = []
Binary-divisor difference Y = []
Binary-divisor product Y = []
Binary-divisor quotient Y = Y ∷ []

abbrev pub Unary-rooted : Unary → Interval → List Interval
Unary-rooted root X = X ∷ []
Unary-rooted sine X = []
Unary-rooted cosine X = []

abbrev pub Expr-divisors : List Interval → Expr → List Interval
Expr-divisors σ (var i) = []
Expr-divisors σ (con x) = []
Expr-divisors σ (binary o a b) = Binary-divisor o (Expr-unjudged σ b) ++ (Expr-divisors σ a ++ Expr-divisors σ b)
Expr-divisors σ (unary o a) = Unary-rooted o (Expr-unjudged σ a) ++ Expr-divisors σ a

abbrev pub Expr-divisors_all : List Interval → List Expr → List Interval
Expr-divisors_all σ [] = []
Expr-divisors_all σ (e ∷ es) = Expr-divisors σ e ++ Expr-divisors_all σ es

abbrev pub Program-divisors : List Interval → Program → List Interval
Program-divisors σ (give es) = Expr-divisors_all σ es
Program-divisors σ (e >>= k) = Expr-divisors σ e ++ Program-divisors (σ ++ Expr-unjudged σ e ∷ []) (k (var (length σ)))

-- ---- of all
abbrev pub All : {A : Type 0} → (A → Type 0) → List A → Type 0
All P [] = Unit {0}
All P (x ∷ l) = P x × All P l

-- Both ends are finite and above zero.
pub record Positive (X : Interval) : Type 0 where
  pub low : T (positive X.low)
  pub high : T (positive X.high)
