-- The interval reading of every formula is inclusion isotone: `program-isotone`. Narrower inputs are not newly refused, and give narrower outputs.
-- One induction over the language; what an operation promises is `interval`'s.
use mathlib.Core.Path.{◌≡◌, sym, subst}
use Prim.Native.Nat.{ℕ, ◌<◌}
use mathlib.Core.List.{List, [], ◌∷◌}
use lib.ListN.{length}
use lib.Dec.{T, ltb→lt}
use lib.Ieee.Fits.{and_l, and_r}
use Rattle.interval.specs.declared.Interval.{Interval}
use Rattle.interval.specs.Contains.{Refines}
use Rattle.interval.specs.Extension.{Narrower, Isotone₁, Isotone₂}
use Rattle.interval.proofs.Contains.{point-refines}
use Rattle.interval.proofs.Isotone.{add-isotone, sub-isotone, mul-isotone, div-isotone, sqrt-isotone}
use Rattle.interval.proofs.Angles.{sin-isotone, cos-isotone}
use Rattle.formula.specs.Program.{Binary, sum, difference, product, quotient, Unary, root, sine}
use Rattle.formula.specs.Program.{cosine, Expr, var, con, binary, unary, Program, ◌>>=◌, give}
use Rattle.formula.specs.Enclose.{Binary-enclose, Unary-enclose, unbound, Expr-enclose, Enclosure, Expr-enclose_all}
use Rattle.formula.specs.Enclose.{extend, Program-enclose, Unary-valid, Expr-valid, Expr-valid_all, Program-valid}
use Rattle.formula.specs.Promise.{Pairwise, NarrowerAll}
use Rattle.formula.proofs.Pairwise.{pairwise-length, pairwise-get_d, pairwise_append}
use Rattle.formula.proofs.Carries.{binary-zero, unary-zero, expr-zero, all-zero, program-zero}

-- ---- one operation
binary-isotone : (o : Binary) → Isotone₂ (Binary-enclose o)
binary-isotone sum = add-isotone
binary-isotone difference = sub-isotone
binary-isotone product = mul-isotone
binary-isotone quotient = div-isotone

unary-isotone : (o : Unary) → Isotone₁ (λ (X : Interval). T (Unary-valid o X)) (Unary-enclose o)
unary-isotone root = sqrt-isotone
unary-isotone sine = sin-isotone
unary-isotone cosine = cos-isotone

-- ---- the induction
pub expr-isotone : (m m' : ℕ) (σ σ' : List Interval) (e : Expr) → T (Expr-valid m' σ' e) → Pairwise Refines σ σ' → m ≡ 0 → (Expr-enclose m' σ' e).refusal ≡ 0
    → Narrower (Expr-enclose m σ e) (Expr-enclose m' σ' e)
unfolding Expr-enclose
expr-isotone m m' σ σ' (var i) v a z h =
    let l : i < length σ = subst (λ (n : ℕ). i < n) (sym (pairwise-length Refines σ σ' a)) (ltb→lt i (length σ') v) in
    record { accepted = z; refines = pairwise-get_d Refines σ σ' unbound unbound i l a }
expr-isotone m m' σ σ' (con x) v a z h = record { accepted = z; refines = point-refines x v }
expr-isotone m m' σ σ' (binary o l r) v a z h =
    let p = Expr-enclose m σ l in
    let p' = Expr-enclose m' σ' l in
    let q = Expr-enclose p.refusal σ r in
    let q' = Expr-enclose p'.refusal σ' r in
    let L = Expr-valid m' σ' l in
    let R = Expr-valid p'.refusal σ' r in
    let zq = binary-zero o q'.refusal p'.interval q'.interval h in
    let i = expr-isotone m m' σ σ' l (and_l L R v) a z (expr-zero p'.refusal σ' r zq) in
    let j = expr-isotone p.refusal p'.refusal σ σ' r (and_r L R v) a i.accepted zq in
    (binary-isotone o).isotone q.refusal q'.refusal i.refines j.refines j.accepted h
expr-isotone m m' σ σ' (unary o l) v a z h =
    let p = Expr-enclose m σ l in
    let p' = Expr-enclose m' σ' l in
    let L = Expr-valid m' σ' l in
    let R = Unary-valid o p'.interval in
    let i = expr-isotone m m' σ σ' l (and_l L R v) a z (unary-zero o p'.refusal p'.interval h) in
    (unary-isotone o).isotone p.refusal p'.refusal (and_r L R v) i.refines i.accepted h

all-isotone : (m m' : ℕ) (σ σ' : List Interval) (es : List Expr) → T (Expr-valid_all m' σ' es) → Pairwise Refines σ σ' → m ≡ 0
    → (Expr-enclose_all m' σ' es).refusal ≡ 0
    → ((Expr-enclose_all m σ es).refusal ≡ 0) × Pairwise Refines (Expr-enclose_all m σ es).intervals (Expr-enclose_all m' σ' es).intervals
unfolding Expr-enclose_all
all-isotone m m' σ σ' [] v a z h = (z, tt)
all-isotone m m' σ σ' (e ∷ es) v a z h =
    let n = (Expr-enclose m σ e).refusal in
    let n' = (Expr-enclose m' σ' e).refusal in
    let L = Expr-valid m' σ' e in
    let R = Expr-valid_all n' σ' es in
    let i = expr-isotone m m' σ σ' e (and_l L R v) a z (all-zero n' σ' es h) in
    let r = all-isotone n n' σ σ' es (and_r L R v) a i.accepted h in
    (r.0, (i.refines, r.1))

pub program-isotone : (p : Program) (c c' : Enclosure) → T (Program-valid c' p) → NarrowerAll c c' → NarrowerAll (Program-enclose c p) (Program-enclose c' p)
unfolding Program-enclose
program-isotone (give es) c c' v a h =
    let (z, i) = a (all-zero c'.refusal c'.intervals es h) in
    all-isotone c.refusal c'.refusal c.intervals c'.intervals es v i z h
program-isotone (e >>= k) c c' v a h =
    let m = c.refusal in
    let m' = c'.refusal in
    let σ = c.intervals in
    let σ' = c'.intervals in
    let j = Expr-enclose m σ e in
    let j' = Expr-enclose m' σ' e in
    let rest = k (var (length σ')) in
    let L = Expr-valid m' σ' e in
    let R = Program-valid (extend σ' j') rest in
    let zj = program-zero (extend σ' j') rest h in
    let (z, i) = a (expr-zero m' σ' e zj) in
    let n = expr-isotone m m' σ σ' e (and_l L R v) i z zj in
    let o' = Program-enclose (extend σ' j') rest in
    subst (λ (n : ℕ). let o = Program-enclose (extend σ j) (k (var n)) in
    (o.refusal ≡ 0) × Pairwise Refines o.intervals o'.intervals) (sym (pairwise-length Refines σ σ' i))
    (program-isotone (k (var (length σ'))) (extend σ j) (extend σ' j') (and_r L R v)
    (λ zj. (n.accepted, pairwise_append Refines σ (j.interval ∷ []) σ' (j'.interval ∷ []) i (n.refines, tt))) h)
