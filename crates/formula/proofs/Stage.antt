-- For stages that hand structs on: what a struct lists is what it was filled from (`stage_is`),
-- so that `stage-extends` and `stage-isotone` are the promises from struct to struct.
use mathlib.Core.Path.{◌≡◌, refl, sym, ap, ap₂, ◌∙◌, subst, subst₂}
use Prim.Native.Nat.{ℕ, suc}
use mathlib.Core.List.{List, [], ◌∷◌, ◌++◌, append_assoc}
use lib.ListN.{length}
use lib.Seq.{get_or-append_seam}
use lib.Dec.{T}
use lib.Ieee.{Float}
use Rattle.interval.specs.declared.Interval.{Interval}
use Rattle.formula.specs.Program.{Expr, var, Program, ◌>>=◌, give}
use Rattle.formula.specs.Eval.{Program-eval}
use Rattle.formula.specs.Enclose.{unbound, Expr-enclose, Enclosure, enclosure, Expr-enclose_all, extend, Program-enclose, Program-valid}
use Rattle.formula.specs.Promise.{EnclosesAll, NarrowerAll}
use Rattle.formula.specs.Stage.{outputs, fields, Program-stage}
use Rattle.formula.proofs.Extends.{program-extends}
use Rattle.formula.proofs.Isotone.{program-isotone}

-- ---- over structs
append-one : (σ : List Interval) (X : Interval) → length (σ ++ X ∷ []) ≡ suc (length σ)
append-one [] X = refl
append-one (Y ∷ σ) X = ap suc (append-one σ X)

fields-append : (σ τ : List Interval) → fields (length σ) (length τ) (σ ++ τ) ≡ τ
fields-append σ [] = refl
fields-append σ (X ∷ τ) =
    let e : fields (suc (length σ)) (length τ) (σ ++ X ∷ τ) ≡ τ =
    subst (λ (l : List Interval). fields (suc (length σ)) (length τ) l ≡ τ) (append_assoc σ (X ∷ []) τ)
    (subst (λ (n : ℕ). fields n (length τ) ((σ ++ X ∷ []) ++ τ) ≡ τ) (append-one σ X) (fields-append (σ ++ X ∷ []) τ)) in
    ap₂ ◌∷◌ (get_or-append_seam σ X τ unbound) e

-- ---- how many values come back
all-length : (m : ℕ) (σ : List Interval) (es : List Expr) → length (Expr-enclose_all m σ es).intervals ≡ length es
unfolding Expr-enclose_all
all-length m σ [] = refl
all-length m σ (e ∷ es) = ap suc (all-length (Expr-enclose m σ e).refusal σ es)

program-length : (p : Program) (c : Enclosure) → length (Program-enclose c p).intervals ≡ outputs (length c.intervals) p
unfolding Program-enclose
program-length (give es) c = all-length c.refusal c.intervals es
program-length (e >>= k) c =
    let σ = c.intervals in
    let j = Expr-enclose c.refusal σ e in
    program-length (k (var (length σ))) (extend σ j) ∙ ap (λ (n : ℕ). outputs n (k (var (length σ)))) (append-one σ j.interval)

pub stage_is : (c : Enclosure) (p : Program) → Program-stage c p ≡ Program-enclose c p
stage_is c p =
    let τ = (Program-enclose c p).intervals in
    ap (enclosure (Program-enclose c p).refusal) (subst (λ (n : ℕ). fields 0 n τ ≡ τ) (program-length p c) (fields-append [] τ))

pub stage-extends : (p : Program) (c : Enclosure) (ρ : List Float) → T (Program-valid c p)
    → EnclosesAll c ρ → EnclosesAll (Program-stage c p) (Program-eval ρ p)
stage-extends p c ρ v a = subst (λ (o : Enclosure). EnclosesAll o (Program-eval ρ p)) (sym (stage_is c p)) (program-extends p c ρ v a)

pub stage-isotone : (p : Program) (c c' : Enclosure) → T (Program-valid c' p) → NarrowerAll c c' → NarrowerAll (Program-stage c p) (Program-stage c' p)
stage-isotone p c c' v a = subst₂ NarrowerAll (sym (stage_is c p)) (sym (stage_is c' p)) (program-isotone p c c' v a)
