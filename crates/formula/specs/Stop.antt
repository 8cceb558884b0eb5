-- The interval reading that stops at the first refusal, as document 01 words it: "whichever is met first in working order". Definitions only.
-- `Program-enclose`, which goes on as straight-line code does, gives the same (`program-stops`).
use Rattle.std.specs.Prelude.{ℕ, Result, Ok, List, [], ◌∷◌, ◌++◌, length, get_or}
use Rattle.interval.specs.refusal.Outcome.{and_then}
use Rattle.interval.specs.declared.Interval.{Interval}
use Rattle.interval.specs.Judged.{Judged-outcome}
use Rattle.interval.specs.Interval.{Interval-point}
use Rattle.formula.specs.Program.{Expr, var, con, binary, unary, Program, ◌>>=◌, give}
use Rattle.formula.specs.Enclose.{Binary-enclose, Unary-enclose, unbound}

abbrev pub Expr-enclose_or_stop : List Interval → Expr → Result Interval ℕ
Expr-enclose_or_stop σ (var i) = Ok (get_or σ i unbound)
Expr-enclose_or_stop σ (con x) = Ok (Interval-point x)
Expr-enclose_or_stop σ (binary o a b) =
    and_then (Expr-enclose_or_stop σ a) (λ (X : Interval). and_then (Expr-enclose_or_stop σ b) (λ (Y : Interval). Judged-outcome (Binary-enclose o 0 X Y)))
Expr-enclose_or_stop σ (unary o a) = and_then (Expr-enclose_or_stop σ a) (λ (X : Interval). Judged-outcome (Unary-enclose o 0 X))

abbrev pub Expr-enclose_all_or_stop : List Interval → List Expr → Result (List Interval) ℕ
Expr-enclose_all_or_stop σ [] = Ok []
Expr-enclose_all_or_stop σ (e ∷ es) =
    and_then (Expr-enclose_or_stop σ e) (λ (X : Interval). and_then (Expr-enclose_all_or_stop σ es) (λ (Xs : List Interval). Ok (X ∷ Xs)))

abbrev pub Program-enclose_or_stop : List Interval → Program → Result (List Interval) ℕ
Program-enclose_or_stop σ (give es) = Expr-enclose_all_or_stop σ es
Program-enclose_or_stop σ (e >>= k) = and_then (Expr-enclose_or_stop σ e) (λ (X : Interval). Program-enclose_or_stop (σ ++ X ∷ []) (k (var (length σ))))
