-- Where the judged reading of a formula is accepted, the lean one stands for it: each of its values is finite, and alike to the judged interval,
-- `program-lean`. One induction over the language. So it needs no test of its own.
use mathlib.Core.Path.{◌≡◌, sym, subst}
use Prim.Native.Nat.{ℕ}
use mathlib.Core.Bool.{Bool, true, false, cond, ◌&&◌}
use mathlib.Core.List.{List, [], ◌∷◌, ◌++◌}
use lib.ListN.{length}
use lib.Dec.{T, ltb, ltb→lt}
use lib.Ieee.{Float, nan, binary32, le, fits}
use lib.Ieee.Fits.{and_l, and_r}
use lib.Ieee.Scale.{finite}
use Rattle.alike.specs.refusal.First.{first_refusal}
use Rattle.alike.proofs.refusal.First.{first-zero}
use Rattle.alike.proofs.rounding.Order.{above-positive}
use Rattle.alike.specs.float32.Operators.{positive_zero, one}
use Rattle.alike.specs.interval.declared.Interval.{Interval}
use Rattle.alike.specs.interval.Contains.{Finite}
use Rattle.alike.specs.interval.Interval.{Interval-point}
use Rattle.alike.specs.interval.Enclosure.{Interval-add_enclosure, Interval-sub_enclosure, Interval-mul_enclosure, Interval-div_enclosure, Interval-sqrt_enclosure}
use Rattle.alike.specs.interval.Enclosure.{not_finite, not_positive, Judged-judge, Judged-add_enclosure, Judged-sub_enclosure, Judged-mul_enclosure}
use Rattle.alike.specs.interval.Enclosure.{Judged-div_enclosure, Judged-sqrt_enclosure, Judged-sin_enclosure, Judged-cos_enclosure}
use Rattle.alike.proofs.interval.Refusal.{accepted-finite, judged-positive}
use Rattle.alike.specs.formula.Program.{Binary, sum, difference, product, quotient, Unary, root, sine, cosine, Expr, var, con, binary, unary, Program, ◌>>=◌, give}
use Rattle.alike.specs.formula.Enclose.{Binary-enclose, Unary-enclose, unbound, Expr-enclose, enclosure, Expr-enclose_all, extend, Program-enclose}
use Rattle.alike.specs.formula.Promise.{Pairwise}
use Rattle.alike.proofs.formula.Pairwise.{pairwise-length, pairwise-get_d, pairwise_append}
use Rattle.alike.proofs.formula.Carries.{binary-zero, unary-zero, expr-zero, all-zero, program-zero}
use Rattle.alike.specs.interval_unjudged.means.Unjudged.{All, Positive}
use Rattle.alike.proofs.interval_unjudged.Unjudged.{all_left, all_right}
use Rattle.alike.specs.means.Alike.{Interval-Alike, Interval-Proper}
use Rattle.alike.proofs.Intervals.{interval-self, point-alike}
use Rattle.alike.proofs.Proper.{point-proper}
use Rattle.formula_lean.specs.means.Lean.{Lean, nought, unit, number, factor, Lean-Angles, Lean-of}
use Rattle.formula_lean.specs.means.Lean.{Binary-lean, Unary-lean, Expr-lean, Expr-lean_all, Program-lean}
use Rattle.formula_lean.specs.means.Asked.{Expr-bound, Expr-bound_all, Program-bound, Unary-turned, Expr-turned, Expr-turned_all, Program-turned}
use Rattle.formula_lean.proofs.Operations.{Stands, plus-stands, minus-stands, times-stands, over-stands, root_stands}
use Rattle.formula_lean.proofs.Turns.{sine-stands, cosine-stands}

-- ---- one operation that is accepted
came : (m : ℕ) (X : Interval) → (Judged-judge m X).refusal ≡ 0 → Finite X
unfolding Judged-judge
came m X h = accepted-finite X (first-zero m (not_finite X) h).1

-- A low end above zero, of an interval in order.
positive-ends : {X : Interval} → Interval-Proper X → (m : ℕ) (Z : Interval) → (Judged-judge (first_refusal m (not_positive X)) Z).refusal ≡ 0 → Positive X
positive-ends p m Z h =
    let l = judged-positive m Z p.finite h in
    record { low = l; high = above-positive l p.finite.high p.rises }

binary-lean : (o : Binary) (m : ℕ) (v w : Lean) {X Y : Interval} → Stands v X → Stands w Y → (Binary-enclose o m X Y).refusal ≡ 0
    → Stands (Binary-lean o v w) (Binary-enclose o m X Y).interval
unfolding Judged-add_enclosure Judged-sub_enclosure Judged-mul_enclosure Judged-div_enclosure Judged-judge
binary-lean sum m v w {X} {Y} p q h = plus-stands (came m (Interval-add_enclosure X Y) h) v w p q
binary-lean difference m v w {X} {Y} p q h = minus-stands (came m (Interval-sub_enclosure X Y) h) v w p q
binary-lean product m v w {X} {Y} p q h = times-stands (came m (Interval-mul_enclosure X Y) h) v w p q
binary-lean quotient m v w {X} {Y} p q h =
    over-stands (positive-ends q.proper m (Interval-div_enclosure X Y) h) (came (first_refusal m (not_positive Y)) (Interval-div_enclosure X Y) h) v w p q

unary-lean : (o : Unary) (m : ℕ) (v : Lean) {X : Interval} → Stands v X → All Lean-Angles (Unary-turned o v) → (Unary-enclose o m X).refusal ≡ 0
    → Stands (Unary-lean o v) (Unary-enclose o m X).interval
unfolding Judged-sqrt_enclosure Judged-sin_enclosure Judged-cos_enclosure Judged-judge
unary-lean root m v {X} p t h =
    root_stands (positive-ends p.proper m (Interval-sqrt_enclosure X) h) (came (first_refusal m (not_positive X)) (Interval-sqrt_enclosure X) h) v p
unary-lean sine m v p t h = sine-stands v p t.0
unary-lean cosine m v p t h = cosine-stands v p t.0

-- ---- a constant
constant : (x : Float) → T (finite x) → T (fits binary32 x) → Stands (Lean-of x) (Interval-point x)
unfolding Lean-of
constant x f v = go (le x one && le one x) (le x positive_zero && le positive_zero x) (λ t. (and_l (le x one) (le one x) t, and_r (le x one) (le one x) t))
    (le positive_zero x) (λ t. (and_l (le x positive_zero) (le positive_zero x) t, and_r (le x positive_zero) (le positive_zero x) t)) (λ t. t)
  where
    itself : Interval-Alike (Interval-point x) (Interval-point x)
    itself = interval-self (Interval-point x) (record { low = f; high = f })

    go : (b c : Bool) → (T b → T (le x one) × T (le one x)) → (d : Bool) → (T c → T (le x positive_zero) × T (le positive_zero x)) → (T d → T (le positive_zero x))
        → Stands (cond b unit (cond c nought (cond d (factor x) (number x)))) (Interval-point x)
    go true c h d k z = let e = h tt in
        record { good = tt; proper = point-proper x f v; alike = point-alike (record { to = record { holds = e.0 }; from = record { holds = e.1 } }) }
    go false true h d k z = let e = k tt in
        record { good = tt; proper = point-proper x f v; alike = point-alike (record { to = record { holds = e.0 }; from = record { holds = e.1 } }) }
    go false false h true k z = record { good = (f, z tt); proper = point-proper x f v; alike = itself }
    go false false h false k z = record { good = f; proper = point-proper x f v; alike = itself }

-- ---- the induction
module _ (σ : List Interval) (τ : List Lean) (s : Pairwise Stands τ σ) where
  expr-lean : (m : ℕ) (e : Expr) → T (Expr-bound σ e) → All Lean-Angles (Expr-turned τ e) → (Expr-enclose m σ e).refusal ≡ 0
      → Stands (Expr-lean τ e) (Expr-enclose m σ e).interval
  unfolding Expr-lean Expr-enclose
  expr-lean m (var i) b t h =
      pairwise-get_d Stands τ σ (number nan) unbound i (ltb→lt i (length τ) (subst (λ (n : ℕ). T (ltb i n)) (sym (pairwise-length Stands τ σ s)) b)) s
  expr-lean m (con x) b t h = constant x (and_l (finite x) (fits binary32 x) b) (and_r (finite x) (fits binary32 x) b)
  expr-lean m (binary o x y) b t h =
      let j = Expr-enclose m σ x in
      let i = Expr-enclose j.refusal σ y in
      let zi = binary-zero o i.refusal j.interval i.interval h in
      let zj = expr-zero j.refusal σ y zi in
      let p = expr-lean m x (and_l (Expr-bound σ x) (Expr-bound σ y) b) (all_left Lean-Angles (Expr-turned τ x) (Expr-turned τ y) t) zj in
      let q = expr-lean j.refusal y (and_r (Expr-bound σ x) (Expr-bound σ y) b) (all_right Lean-Angles (Expr-turned τ x) (Expr-turned τ y) t) zi in
      binary-lean o i.refusal (Expr-lean τ x) (Expr-lean τ y) p q h
  expr-lean m (unary o x) b t h =
      let j = Expr-enclose m σ x in
      let u = Unary-turned o (Expr-lean τ x) in
      let p = expr-lean m x b (all_right Lean-Angles u (Expr-turned τ x) t) (unary-zero o j.refusal j.interval h) in
      unary-lean o j.refusal (Expr-lean τ x) p (all_left Lean-Angles u (Expr-turned τ x) t) h

  all-lean : (m : ℕ) (es : List Expr) → T (Expr-bound_all σ es) → All Lean-Angles (Expr-turned_all τ es) → (Expr-enclose_all m σ es).refusal ≡ 0
      → Pairwise Stands (Expr-lean_all τ es) (Expr-enclose_all m σ es).intervals
  unfolding Expr-lean_all Expr-enclose_all
  all-lean m [] b t h = tt
  all-lean m (e ∷ es) b t h =
      let j = Expr-enclose m σ e in (
        expr-lean m e (and_l (Expr-bound σ e) (Expr-bound_all σ es) b) (all_left Lean-Angles (Expr-turned τ e) (Expr-turned_all τ es) t)
            (all-zero j.refusal σ es h),
        all-lean j.refusal es (and_r (Expr-bound σ e) (Expr-bound_all σ es) b) (all_right Lean-Angles (Expr-turned τ e) (Expr-turned_all τ es) t) h,
      )

pub program-lean : (p : Program) (m : ℕ) (σ : List Interval) (τ : List Lean) → Pairwise Stands τ σ → T (Program-bound (enclosure m σ) p)
    → All Lean-Angles (Program-turned τ p) → (Program-enclose (enclosure m σ) p).refusal ≡ 0
    → Pairwise Stands (Program-lean τ p) (Program-enclose (enclosure m σ) p).intervals
unfolding Program-lean Program-enclose
program-lean (give es) m σ τ s b t h = all-lean σ τ s m es b t h
program-lean (e >>= k) m σ τ s b t h =
    let j = Expr-enclose m σ e in
    let v = Expr-lean τ e in
    let l = pairwise-length Stands τ σ s in
    let rest = k (var (length τ)) in
    let rest' = k (var (length σ)) in
    let h' : (Program-enclose (extend σ j) rest).refusal ≡ 0 = subst (λ (n : ℕ). (Program-enclose (extend σ j) (k (var n))).refusal ≡ 0) (sym l) h in
    let b' : T (Program-bound (extend σ j) rest) =
    subst (λ (n : ℕ). T (Program-bound (extend σ j) (k (var n)))) (sym l) (and_r (Expr-bound σ e) (Program-bound (extend σ j) rest') b) in
    let i = expr-lean σ τ s m e (and_l (Expr-bound σ e) (Program-bound (extend σ j) rest') b)
    (all_left Lean-Angles (Expr-turned τ e) (Program-turned (τ ++ v ∷ []) rest) t) (program-zero (extend σ j) rest h') in
    let r = program-lean (k (var (length τ))) j.refusal (σ ++ j.interval ∷ []) (τ ++ v ∷ [])
    (pairwise_append Stands τ (v ∷ []) σ (j.interval ∷ []) s (i, tt)) b'
    (all_right Lean-Angles (Expr-turned τ e) (Program-turned (τ ++ v ∷ []) rest) t) h' in
    subst (λ (n : ℕ). Pairwise Stands (Program-lean (τ ++ v ∷ []) (k (var (length τ)))) (Program-enclose (extend σ j) (k (var n))).intervals) l r
