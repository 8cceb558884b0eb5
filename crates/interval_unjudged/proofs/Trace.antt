-- A function that calls one unjudged operation for each step works out what the formula's unjudged reading says: `traced-unjudged`, which
-- takes the calls' contracts in working order. tools/trace.py writes its arguments from the code.
use mathlib.Core.Path.{◌≡◌, refl, sym, subst}
use mathlib.Core.List.{List, [], ◌∷◌, ◌++◌}
use lib.ListN.{length, get_or}
use Rattle.interval.specs.declared.Interval.{Interval}
use Rattle.interval.specs.Interval.{Interval-point}
use Rattle.formula.specs.Program.{Expr, var, con, binary, unary, Program, ◌>>=◌, give}
use Rattle.formula.specs.Enclose.{unbound}
use Rattle.interval_unjudged.specs.means.Unjudged.{Binary-unjudged, Unary-unjudged, Expr-unjudged, Expr-unjudged_all, Program-unjudged}

-- For each operation in working order, a result and the equation that its call gives; then K of the last.
abbrev pub Calls : List Interval → Expr → (Interval → Type 0) → Type 0
Calls σ (var i) K = K (get_or σ i unbound)
Calls σ (con x) K = K (Interval-point x)
Calls σ (binary o a b) K = Calls σ a (λ (X : Interval). Calls σ b (λ (Y : Interval). (r : Interval) → r ≡ Binary-unjudged o X Y → K r))
Calls σ (unary o a) K = Calls σ a (λ (X : Interval). (r : Interval) → r ≡ Unary-unjudged o X → K r)

abbrev pub CallsAll : List Interval → List Expr → (List Interval → Type 0) → Type 0
CallsAll σ [] K = K []
CallsAll σ (e ∷ es) K = Calls σ e (λ (X : Interval). CallsAll σ es (λ (l : List Interval). K (X ∷ l)))

abbrev pub CallsProgram : List Interval → Program → (List Interval → Type 0) → Type 0
CallsProgram σ (give es) K = CallsAll σ es K
CallsProgram σ (e >>= k) K = Calls σ e (λ (X : Interval). CallsProgram (σ ++ X ∷ []) (k (var (length σ))) K)

-- What holds of the reading holds after the calls.
after : (σ : List Interval) (e : Expr) (K : Interval → Type 0) → K (Expr-unjudged σ e) → Calls σ e K
unfolding Expr-unjudged
after σ (var i) K h = h
after σ (con x) K h = h
after σ (binary o a b) K h =
    after σ a (λ (X : Interval). Calls σ b (λ (Y : Interval). (r : Interval) → r ≡ Binary-unjudged o X Y → K r))
    (after σ b (λ (Y : Interval). (r : Interval) → r ≡ Binary-unjudged o (Expr-unjudged σ a) Y → K r) (λ r e. subst K (sym e) h))
after σ (unary o a) K h = after σ a (λ (X : Interval). (r : Interval) → r ≡ Unary-unjudged o X → K r) (λ r e. subst K (sym e) h)

after-all : (σ : List Interval) (es : List Expr) (K : List Interval → Type 0) → K (Expr-unjudged_all σ es) → CallsAll σ es K
unfolding Expr-unjudged_all
after-all σ [] K h = h
after-all σ (e ∷ es) K h =
    after σ e (λ (X : Interval). CallsAll σ es (λ (l : List Interval). K (X ∷ l))) (after-all σ es (λ (l : List Interval). K (Expr-unjudged σ e ∷ l)) h)

after-program : (σ : List Interval) (p : Program) (K : List Interval → Type 0) → K (Program-unjudged σ p) → CallsProgram σ p K
unfolding Program-unjudged
after-program σ (give es) K h = after-all σ es K h
after-program σ (e >>= k) K h =
    after σ e (λ (X : Interval). CallsProgram (σ ++ X ∷ []) (k (var (length σ))) K) (after-program (σ ++ Expr-unjudged σ e ∷ []) (k (var (length σ))) K h)

pub traced-unjudged : (σ : List Interval) (p : Program) → CallsProgram σ p (λ (l : List Interval). l ≡ Program-unjudged σ p)
traced-unjudged σ p = after-program σ p (λ (l : List Interval). l ≡ Program-unjudged σ p) refl
