-- Going on with the first number carried along gives what stopping at the first refusal gives: `program-stops`. Rests on `program-carries` and its like.
use mathlib.Core.Path.{◌≡◌, refl, ◌∙◌}
use Prim.Native.Nat.{ℕ, zero, suc}
use Rattle.std.specs.Prelude.{Result, Ok}
use mathlib.Core.List.{List, [], ◌∷◌, ◌++◌}
use lib.ListN.{length}
use Rattle.interval.specs.declared.Interval.{Interval}
use Rattle.interval.specs.refusal.Outcome.{outcome, and_then}
use Rattle.interval.proofs.refusal.Outcome.{chain}
use Rattle.interval.specs.Judged.{Judged, Judged-outcome}
use Rattle.formula.specs.Program.{Expr, var, con, binary, unary, Program, ◌>>=◌, give}
use Rattle.formula.specs.Enclose.{Binary-enclose, Unary-enclose, Expr-enclose, Enclosure, enclosure, Expr-enclose_all, extend, Program-enclose}
use Rattle.formula.specs.Stop.{Expr-enclose_or_stop, Expr-enclose_all_or_stop, Program-enclose_or_stop}
use Rattle.formula.proofs.Carries.{binary-stands, unary-stands, expr-stands, all-stands, program-stands}

expr-stops : (σ : List Interval) (e : Expr) → Judged-outcome (Expr-enclose 0 σ e) ≡ Expr-enclose_or_stop σ e
unfolding Expr-enclose
expr-stops σ (var i) = refl
expr-stops σ (con x) = refl
expr-stops σ (binary o a b) = first (Expr-enclose 0 σ a) (expr-stops σ a) (expr-stops σ b)
  where
    second : (X : Interval) (q : Judged) → Judged-outcome q ≡ Expr-enclose_or_stop σ b
        → Judged-outcome (Binary-enclose o q.refusal X q.interval)
        ≡ and_then (Expr-enclose_or_stop σ b) (λ (Y : Interval). Judged-outcome (Binary-enclose o 0 X Y))
    second X q h =
        let r = Binary-enclose o q.refusal X q.interval in
        chain q.interval q.refusal (Expr-enclose_or_stop σ b) (λ (Y : Interval). Judged-outcome (Binary-enclose o 0 X Y)) r.interval r.refusal h
        (λ z. rw z) (binary-stands o q.refusal X q.interval)

    first : (p : Judged) → Judged-outcome p ≡ Expr-enclose_or_stop σ a → Judged-outcome (Expr-enclose 0 σ b) ≡ Expr-enclose_or_stop σ b
        → Judged-outcome (Binary-enclose o (Expr-enclose p.refusal σ b).refusal p.interval (Expr-enclose p.refusal σ b).interval)
        ≡ Expr-enclose_or_stop σ (binary o a b)
    first p h g =
        let q = Expr-enclose p.refusal σ b in
        let r = Binary-enclose o q.refusal p.interval q.interval in
        chain p.interval p.refusal (Expr-enclose_or_stop σ a)
        (λ (X : Interval). and_then (Expr-enclose_or_stop σ b) (λ (Y : Interval). Judged-outcome (Binary-enclose o 0 X Y))) r.interval r.refusal h
        (λ z. second p.interval q (rw z g))
        (λ n. let e : q.refusal ≡ p.refusal = expr-stands p.refusal σ b n in binary-stands o q.refusal p.interval q.interval (rw e n) ∙ e)
expr-stops σ (unary o a) = first (Expr-enclose 0 σ a) (expr-stops σ a)
  where
    first : (p : Judged) → Judged-outcome p ≡ Expr-enclose_or_stop σ a
        → Judged-outcome (Unary-enclose o p.refusal p.interval) ≡ Expr-enclose_or_stop σ (unary o a)
    first p h =
        let r = Unary-enclose o p.refusal p.interval in
        chain p.interval p.refusal (Expr-enclose_or_stop σ a) (λ (X : Interval). Judged-outcome (Unary-enclose o 0 X)) r.interval r.refusal h
        (λ z. rw z) (unary-stands o p.refusal p.interval)

abbrev Enclosure-outcome : Enclosure → Result (List Interval) ℕ
Enclosure-outcome c = outcome c.intervals c.refusal

all-stop : (σ : List Interval) (es : List Expr) → Enclosure-outcome (Expr-enclose_all 0 σ es) ≡ Expr-enclose_all_or_stop σ es
unfolding Expr-enclose_all
all-stop σ [] = refl
all-stop σ (e ∷ es) = first (Expr-enclose 0 σ e) (expr-stops σ e) (all-stop σ es)
  where
    second : (X : Interval) (Xs : List Interval) (n : ℕ) (s : Result (List Interval) ℕ) → outcome Xs n ≡ s
        → outcome (X ∷ Xs) n ≡ and_then s (λ (Xs : List Interval). Ok (X ∷ Xs))
    second X Xs zero s h = rw (← h)
    second X Xs (suc n) s h = rw (← h)

    first : (p : Judged) → Judged-outcome p ≡ Expr-enclose_or_stop σ e → Enclosure-outcome (Expr-enclose_all 0 σ es) ≡ Expr-enclose_all_or_stop σ es
        → outcome (p.interval ∷ (Expr-enclose_all p.refusal σ es).intervals) (Expr-enclose_all p.refusal σ es).refusal ≡ Expr-enclose_all_or_stop σ (e ∷ es)
    first p h g =
        let q = Expr-enclose_all p.refusal σ es in
        chain p.interval p.refusal (Expr-enclose_or_stop σ e)
        (λ (X : Interval). and_then (Expr-enclose_all_or_stop σ es) (λ (Xs : List Interval). Ok (X ∷ Xs))) (p.interval ∷ q.intervals) q.refusal h
        (λ z. second p.interval q.intervals q.refusal (Expr-enclose_all_or_stop σ es) (rw z g)) (all-stands p.refusal σ es)

pub program-stops : (p : Program) (σ : List Interval) → Enclosure-outcome (Program-enclose (enclosure 0 σ) p) ≡ Program-enclose_or_stop σ p
unfolding Program-enclose
program-stops (give es) σ = all-stop σ es
program-stops (e >>= k) σ = first (Expr-enclose 0 σ e) (expr-stops σ e) (λ (X : Interval). program-stops (k (var (length σ))) (σ ++ X ∷ []))
  where
    first : (j : Judged) → Judged-outcome j ≡ Expr-enclose_or_stop σ e
        → ((X : Interval)
        → Enclosure-outcome (Program-enclose (enclosure 0 (σ ++ X ∷ [])) (k (var (length σ)))) ≡ Program-enclose_or_stop (σ ++ X ∷ []) (k (var (length σ))))
        → Enclosure-outcome (Program-enclose (extend σ j) (k (var (length σ)))) ≡ Program-enclose_or_stop σ (e >>= k)
    first j h g =
        let o = Program-enclose (extend σ j) (k (var (length σ))) in
        chain j.interval j.refusal (Expr-enclose_or_stop σ e)
        (λ (X : Interval). Program-enclose_or_stop (σ ++ X ∷ []) (k (var (length σ)))) o.intervals o.refusal h
        (λ z. rw z (g j.interval)) (program-stands (extend σ j) (k (var (length σ))))
