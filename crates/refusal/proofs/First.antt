-- Laws of the first of two refusals: it is 0 where both are, and only there (`zero-first`, `first-zero`); a number that was met stands
-- (`first-stands`), and 0 adds none (`first-left`, `first-right`); of three it is the same whichever two are asked first (`first-assoc`).
-- What holds of both holds of it (`first-keeps`).
use mathlib.Core.Path.{◌≡◌, refl}
use mathlib.Core.Bool.{Bool, true, false, cond}
use Prim.Native.Nat.{ℕ}
use borrow.Author.Tests.{eqb-true, eqb-false, eq-eqb, ne_eqb}
use lib.Dec.{eqb}
use Rattle.refusal.specs.First.{first_refusal}

pub first-zero : (m n : ℕ) → first_refusal m n ≡ 0 → (m ≡ 0) × (n ≡ 0)
first-zero m n = go (eqb m 0) (eqb-true m 0) (eqb-false m 0)
  where
    go : (b : Bool) → (b ≡ true → m ≡ 0) → (b ≡ false → m ≡ 0 → ⊥) → cond b n m ≡ 0 → (m ≡ 0) × (n ≡ 0)
    go true t f e = (t refl, e)
    go false t f e = absurd (f refl e)

pub zero-first : (m n : ℕ) → m ≡ 0 → n ≡ 0 → first_refusal m n ≡ 0
zero-first m n z k = rw (z, k)

pub first-stands : (m n : ℕ) → (m ≡ 0 → ⊥) → m ≡ first_refusal m n
first-stands m n h = rw (ne_eqb m 0 h)

pub first-left : (m n : ℕ) → m ≡ 0 → n ≡ first_refusal m n
first-left m n z = rw (eq-eqb m 0 z)

pub first-right : (m : ℕ) → m ≡ first_refusal m 0
first-right m = go (eqb m 0) (eqb-true m 0)
  where
    go : (b : Bool) → (b ≡ true → m ≡ 0) → m ≡ cond b 0 m
    go true t = t refl
    go false t = refl

pub first-assoc : (m n k : ℕ) → first_refusal (first_refusal m n) k ≡ first_refusal m (first_refusal n k)
first-assoc m n k = go (eqb m 0) refl
  where
    go : (b : Bool) → eqb m 0 ≡ b → cond (eqb (cond b n m) 0) k (cond b n m) ≡ cond b (first_refusal n k) m
    go true e = refl
    go false e = rw e

pub first-keeps : (P : ℕ → Type 0) (m n : ℕ) → P m → P n → P (first_refusal m n)
first-keeps P m n p q = go (eqb m 0)
  where
    go : (b : Bool) → P (cond b n m)
    go true = q
    go false = p
