-- Where the interval reading is not refused, the float reading at any point of its inputs is regular: `program-regular`. No value on the way overflows, no root
-- and no divisor meets the case that a cover refuses with 10.
use mathlib.Core.Path.{◌≡◌, subst}
use Prim.Native.Nat.{ℕ}
use mathlib.Core.Bool.{◌&&◌}
use mathlib.Core.List.{List, [], ◌∷◌, ◌++◌}
use lib.ListN.{length}
use lib.Dec.{T}
use lib.Ieee.{Float}
use lib.Ieee.Fits.{and_i, and_l, and_r}
use lib.Ieee.Scale.{finite}
use Rattle.interval.specs.declared.Interval.{Interval}
use Rattle.interval.specs.Contains.{Encloses}
use Rattle.interval.proofs.Contains.{contains-finite}
use Rattle.interval.proofs.Extends.{divisor-positive, rooted-positive}
use Rattle.formula.specs.Program.{Binary, sum, difference, product, quotient, Unary, root, sine}
use Rattle.formula.specs.Program.{cosine, Expr, var, con, binary, unary, Program, ◌>>=◌, give}
use Rattle.formula.specs.Eval.{Expr-eval}
use Rattle.formula.specs.Enclose.{Binary-enclose, Unary-enclose, Expr-enclose, Enclosure, Expr-enclose_all}
use Rattle.formula.specs.Enclose.{extend, Program-enclose, Unary-valid, Expr-valid, Expr-valid_all, Program-valid}
use Rattle.formula.specs.Promise.{Pairwise, EnclosesAll}
use Rattle.formula.specs.Regular.{Binary-regular, Unary-regular, Expr-regular, Expr-regular_all, Program-regular}
use Rattle.formula.proofs.Pairwise.{pairwise-length, pairwise_append}
use Rattle.formula.proofs.Carries.{binary-zero, unary-zero, expr-zero, all-zero, program-zero}
use Rattle.formula.proofs.Extends.{expr-extends}

binary-regular : (o : Binary) (m : ℕ) {X Y : Interval} {x y : Float} → Encloses X x
    → Encloses Y y → (Binary-enclose o m X Y).refusal ≡ 0 → T (Binary-regular o x y)
binary-regular sum m i j h = tt
binary-regular difference m i j h = tt
binary-regular product m i j h = tt
binary-regular quotient m i j h = divisor-positive m i j h

unary-regular : (o : Unary) (m : ℕ) {X : Interval} {x : Float} → Encloses X x → (Unary-enclose o m X).refusal ≡ 0 → T (Unary-regular o x)
unary-regular root m i h = rooted-positive m i h
unary-regular sine m i h = tt
unary-regular cosine m i h = tt

module _ (σ : List Interval) (ρ : List Float) (a : Pairwise Encloses σ ρ) where
  value-finite : (m : ℕ) (e : Expr) → T (Expr-valid m σ e) → (Expr-enclose m σ e).refusal ≡ 0 → T (finite (Expr-eval ρ e))
  value-finite m e v h = let i = expr-extends m σ ρ e v a h in contains-finite i.finite i.contains

  expr-regular : (m : ℕ) (e : Expr) → T (Expr-valid m σ e) → (Expr-enclose m σ e).refusal ≡ 0 → T (Expr-regular ρ e)
  unfolding Expr-enclose
  expr-regular m (var i) v h = value-finite m (var i) v h
  expr-regular m (con x) v h = v
  expr-regular m (binary o l r) v h =
      let p = Expr-enclose m σ l in
      let q = Expr-enclose p.refusal σ r in
      let L = Expr-valid m σ l in
      let R = Expr-valid p.refusal σ r in
      let zq = binary-zero o q.refusal p.interval q.interval h in
      let zp = expr-zero p.refusal σ r zq in
      let B = Binary-regular o (Expr-eval ρ l) (Expr-eval ρ r) in
      let F = finite (Expr-eval ρ (binary o l r)) in
      let i = expr-extends m σ ρ l (and_l L R v) a zp in
      let j = expr-extends p.refusal σ ρ r (and_r L R v) a zq in
      and_i (Expr-regular ρ l) (Expr-regular ρ r && (B && F)) (expr-regular m l (and_l L R v) zp)
      (and_i (Expr-regular ρ r) (B && F) (expr-regular p.refusal r (and_r L R v) zq)
      (and_i B F (binary-regular o q.refusal i j h) (value-finite m (binary o l r) v h)))
  expr-regular m (unary o l) v h =
      let p = Expr-enclose m σ l in
      let L = Expr-valid m σ l in
      let R = Unary-valid o p.interval in
      let z = unary-zero o p.refusal p.interval h in
      let B = Unary-regular o (Expr-eval ρ l) in
      let F = finite (Expr-eval ρ (unary o l)) in
      and_i (Expr-regular ρ l) (B && F) (expr-regular m l (and_l L R v) z)
      (and_i B F (unary-regular o p.refusal (expr-extends m σ ρ l (and_l L R v) a z) h) (value-finite m (unary o l) v h))

  all-regular : (m : ℕ) (es : List Expr) → T (Expr-valid_all m σ es) → (Expr-enclose_all m σ es).refusal ≡ 0 → T (Expr-regular_all ρ es)
  unfolding Expr-enclose_all
  all-regular m [] v h = tt
  all-regular m (e ∷ es) v h =
      let n = (Expr-enclose m σ e).refusal in
      let L = Expr-valid m σ e in
      let R = Expr-valid_all n σ es in
      and_i (Expr-regular ρ e) (Expr-regular_all ρ es) (expr-regular m e (and_l L R v) (all-zero n σ es h)) (all-regular n es (and_r L R v) h)

pub program-regular : (p : Program) (c : Enclosure) (ρ : List Float) → T (Program-valid c p) → EnclosesAll c ρ
    → (Program-enclose c p).refusal ≡ 0 → T (Program-regular ρ p)
unfolding Program-enclose
program-regular (give es) c ρ v a h = all-regular c.intervals ρ (a (all-zero c.refusal c.intervals es h)) c.refusal es v h
program-regular (e >>= k) c ρ v a h =
    let m = c.refusal in
    let σ = c.intervals in
    let j = Expr-enclose m σ e in
    let x = Expr-eval ρ e in
    let rest = k (var (length σ)) in
    let L = Expr-valid m σ e in
    let R = Program-valid (extend σ j) rest in
    let zj = program-zero (extend σ j) rest h in
    let i = a (expr-zero m σ e zj) in
    and_i (Expr-regular ρ e) (Program-regular (ρ ++ x ∷ []) (k (var (length ρ)))) (expr-regular σ ρ i m e (and_l L R v) zj)
    (subst (λ (n : ℕ). T (Program-regular (ρ ++ x ∷ []) (k (var n)))) (pairwise-length Encloses σ ρ i)
    (program-regular (k (var (length σ))) (extend σ j) (ρ ++ x ∷ []) (and_r L R v)
    (λ z. pairwise_append Encloses σ (j.interval ∷ []) ρ (x ∷ []) i (expr-extends m σ ρ e (and_l L R v) i zj, tt)) h))
