-- A value that was met with the number m, and what is done with it: k where m is 0, and where it is not, something that keeps it (`chain`).
-- What is done with the value alone (`outcome-value`), what an accepted value says (`outcome-accepted`), one step after another (`and_then-assoc`,
-- `and_then-same`, `and_then-step`), what a `?` hands on (`handed-on`), and a refusal beside any value (`refused`).
use Rattle.std.proofs.Common.{◌≡◌, ℕ, zero, suc, refl, arith, Result, Ok, Err}
use Rattle.std.specs.Result.{IsErr, IsErrAnd}
use Rattle.std.proofs.lemmas.Result.{err_from_is_err_and}
use Rattle.refusal.specs.declared.Refusal.{Refusal}
use Rattle.refusal.specs.Number.{Refusal-number, numbered}
use Rattle.refusal.specs.Outcome.{outcome, and_then}
use Rattle.refusal.proofs.Number.{number-nonzero}

pub chain : {A B : Type 0} (a : A) (m : ℕ) (s : Result A ℕ) (k : A → Result B ℕ) (b : B) (n : ℕ)
    → outcome a m ≡ s → (m ≡ 0 → outcome b n ≡ k a) → ((m ≡ 0 → ⊥) → n ≡ m) → outcome b n ≡ and_then s k
chain a zero s k b n h g st = rw (← h) (g refl)
chain a (suc m) s k b n h g st = rw (← h, st (λ z. omega arith))

pub outcome-value : {A B : Type 0} (f : A → B) (a : A) (n : ℕ) → outcome (f a) n ≡ and_then (outcome a n) (λ (x : A). Ok (f x))
outcome-value f a zero = refl
outcome-value f a (suc n) = refl

pub outcome-accepted : {A : Type 0} (a v : A) (n : ℕ) → Ok v ≡ outcome a n → (a ≡ v) × (n ≡ 0)
outcome-accepted a v zero e = (let h : a ≡ v = cc in h, refl)
outcome-accepted a v (suc n) e = absurd (let h : ⊥ = cc in h)

pub and_then-assoc : {A B C : Type 0} (r : Result A ℕ) (k : A → Result B ℕ) (h : B → Result C ℕ)
    → and_then (and_then r k) h ≡ and_then r (λ (a : A). and_then (k a) h)
and_then-assoc (Ok a) k h = refl
and_then-assoc (Err n) k h = refl

pub and_then-same : {A B : Type 0} (r : Result A ℕ) (k h : A → Result B ℕ) → ((a : A) → k a ≡ h a) → and_then r k ≡ and_then r h
and_then-same (Ok a) k h e = e a
and_then-same (Err n) k h e = refl

pub and_then-step : {A B C : Type 0} (r : Result A ℕ) (k : A → Result B ℕ) (f : B → Result C ℕ) (h : A → Result C ℕ)
    → ((a : A) → and_then (k a) f ≡ h a) → and_then (and_then r k) f ≡ and_then r h
and_then-step (Ok a) k f h e = e a
and_then-step (Err n) k f h e = refl

-- What a `?` returns of a refusal.
pub handed-on : {A : Type 0} (r : Result A Refusal) (e : Refusal) → IsErr r × IsErrAnd r (λ (f : Refusal). f ≡ e) → numbered r ≡ Err (Refusal-number e)
handed-on r e h = let (f, p, q) = err_from_is_err_and r h.1 in rw (p, q)

pub refused : {A : Type 0} (a : A) (r : Refusal) → Err (Refusal-number r) ≡ outcome a (Refusal-number r)
refused a r = go (Refusal-number r) (number-nonzero r)
  where
    go : (n : ℕ) → (n ≡ 0 → ⊥) → Err n ≡ outcome a n
    go zero h = absurd (h refl)
    go (suc n) h = refl
