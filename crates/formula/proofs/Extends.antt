-- The interval reading of every formula is an interval extension of its float reading: `program-extends`. One induction over the language;
-- what an operation promises is `interval`'s.
use mathlib.Core.Path.{◌≡◌, subst}
use Prim.Native.Nat.{ℕ}
use mathlib.Core.List.{List, [], ◌∷◌, ◌++◌}
use lib.ListN.{length}
use lib.Dec.{T, ltb→lt}
use lib.Ieee.{Float, nan}
use lib.Ieee.Fits.{and_l, and_r}
use Rattle.interval.specs.declared.Interval.{Interval}
use Rattle.interval.specs.Contains.{Encloses}
use Rattle.interval.specs.Extension.{Extends₁, Extends₂}
use Rattle.interval.proofs.Contains.{point-encloses}
use Rattle.interval.proofs.Extends.{add-extends, sub-extends, mul-extends, div-extends, sqrt-extends}
use Rattle.interval.proofs.Angles.{sin-extends, cos-extends}
use Rattle.formula.specs.Program.{Binary, sum, difference, product, quotient, Unary, root, sine}
use Rattle.formula.specs.Program.{cosine, Expr, var, con, binary, unary, Program, ◌>>=◌, give}
use Rattle.formula.specs.Eval.{Binary-eval, Unary-eval, Expr-eval, Expr-eval_all, Program-eval}
use Rattle.formula.specs.Enclose.{Binary-enclose, Unary-enclose, unbound, Expr-enclose, Enclosure, Expr-enclose_all}
use Rattle.formula.specs.Enclose.{extend, Program-enclose, Unary-valid, Expr-valid, Expr-valid_all, Program-valid}
use Rattle.formula.specs.Promise.{Pairwise, EnclosesAll}
use Rattle.formula.proofs.Pairwise.{pairwise-length, pairwise-get_d, pairwise_append}
use Rattle.formula.proofs.Carries.{binary-zero, unary-zero, expr-zero, all-zero, program-zero}

-- ---- one operation
binary-extends : (o : Binary) → Extends₂ (Binary-eval o) (Binary-enclose o)
binary-extends sum = add-extends
binary-extends difference = sub-extends
binary-extends product = mul-extends
binary-extends quotient = div-extends

unary-extends : (o : Unary) → Extends₁ (λ (X : Interval). T (Unary-valid o X)) (Unary-eval o) (Unary-enclose o)
unary-extends root = sqrt-extends
unary-extends sine = sin-extends
unary-extends cosine = cos-extends

-- ---- the induction
pub expr-extends : (m : ℕ) (σ : List Interval) (ρ : List Float) (e : Expr) → T (Expr-valid m σ e) → Pairwise Encloses σ ρ → (Expr-enclose m σ e).refusal ≡ 0
    → Encloses (Expr-enclose m σ e).interval (Expr-eval ρ e)
unfolding Expr-enclose
expr-extends m σ ρ (var i) v a h = pairwise-get_d Encloses σ ρ unbound nan i (ltb→lt i (length σ) v) a
expr-extends m σ ρ (con x) v a h = point-encloses x v
expr-extends m σ ρ (binary o l r) v a h =
    let p = Expr-enclose m σ l in
    let q = Expr-enclose p.refusal σ r in
    let L = Expr-valid m σ l in
    let R = Expr-valid p.refusal σ r in
    let zq = binary-zero o q.refusal p.interval q.interval h in
    let zp = expr-zero p.refusal σ r zq in
    (binary-extends o).extends q.refusal (expr-extends m σ ρ l (and_l L R v) a zp) (expr-extends p.refusal σ ρ r (and_r L R v) a zq) h
expr-extends m σ ρ (unary o l) v a h =
    let p = Expr-enclose m σ l in
    let L = Expr-valid m σ l in
    let R = Unary-valid o p.interval in
    (unary-extends o).extends p.refusal (and_r L R v) (expr-extends m σ ρ l (and_l L R v) a (unary-zero o p.refusal p.interval h)) h

all-extend : (m : ℕ) (σ : List Interval) (ρ : List Float) (es : List Expr) → T (Expr-valid_all m σ es) → Pairwise Encloses σ ρ
    → (Expr-enclose_all m σ es).refusal ≡ 0 → Pairwise Encloses (Expr-enclose_all m σ es).intervals (Expr-eval_all ρ es)
unfolding Expr-enclose_all
all-extend m σ ρ [] v a h = tt
all-extend m σ ρ (e ∷ es) v a h =
    let n = (Expr-enclose m σ e).refusal in
    let L = Expr-valid m σ e in
    let R = Expr-valid_all n σ es in
    (expr-extends m σ ρ e (and_l L R v) a (all-zero n σ es h), all-extend n σ ρ es (and_r L R v) a h)

-- Where nothing is refused, each output encloses its value, whatever the inputs contain.
pub program-extends : (p : Program) (c : Enclosure) (ρ : List Float) → T (Program-valid c p)
    → EnclosesAll c ρ → EnclosesAll (Program-enclose c p) (Program-eval ρ p)
unfolding Program-enclose
program-extends (give es) c ρ v a h = all-extend c.refusal c.intervals ρ es v (a (all-zero c.refusal c.intervals es h)) h
program-extends (e >>= k) c ρ v a h =
    let m = c.refusal in
    let σ = c.intervals in
    let j = Expr-enclose m σ e in
    let rest = k (var (length σ)) in
    let L = Expr-valid m σ e in
    let R = Program-valid (extend σ j) rest in
    let zj = program-zero (extend σ j) rest h in
    let i = a (expr-zero m σ e zj) in
    subst (λ (n : ℕ). Pairwise Encloses (Program-enclose (extend σ j) rest).intervals (Program-eval (ρ ++ Expr-eval ρ e ∷ []) (k (var n))))
    (pairwise-length Encloses σ ρ i)
    (program-extends (k (var (length σ))) (extend σ j) (ρ ++ Expr-eval ρ e ∷ []) (and_r L R v)
    (λ z. pairwise_append Encloses σ (j.interval ∷ []) ρ (Expr-eval ρ e ∷ []) i (expr-extends m σ ρ e (and_l L R v) i zj, tt)) h)
