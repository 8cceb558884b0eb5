-- Pieces that follow each other in a buffer: `all_none`, `all_cons`, `all_append`; `digits-last` and
-- `digits-turn`, the digits of a number from the last one on.
use Prim.Native.Nat.{ℕ, zero, suc, ◌+◌, ◌-◌, ◌/◌, ◌%◌, ◌^◌, ◌≤◌, ◌<◌}
use native.Mathlib.Nat.{pow-succ', mod-eq_of_lt}
use native.Mathlib.Omega.{arith}
use mathlib.Core.Path.{◌≡◌, refl}
use mathlib.Core.Bool.{Bool, true, false, cond}
use mathlib.Core.List.{List, [], ◌∷◌, ◌++◌}
use Rattle.std.proofs.Common.{append_assoc}
use lib.Dec.{eqb, ltb}
use borrow.Author.Tests.{eq-eqb, ne_eqb, ltb-true, ltb-false}
use Rattle.answer_lines.specs.Pieces.{put_all, behind_all, decimal_up_to}
use Rattle.answer_lines.proofs.Put.{Puts}

-- what a function that puts several pieces gives
abbrev pub PutsAll : List (List ℕ) → List ℕ → ℕ → List ℕ → ℕ → Type 0
PutsAll ts buffer at after r = (r ≡ behind_all ts buffer at) × (after ≡ put_all ts buffer at)

pub all_none : (buffer : List ℕ) (at : ℕ) → PutsAll [] buffer at buffer at
unfolding put_all behind_all
all_none buffer at = (refl, refl)

pub all_cons : (t : List ℕ) (ts : List (List ℕ)) (b o after : List ℕ) (at s r : ℕ) → Puts t b at o s → PutsAll ts o s after r → PutsAll (t ∷ ts) b at after r
unfolding put_all behind_all
all_cons t ts b o after at s r p q = rw (← p.0, ← p.1) q

pub all_append : (ts us : List (List ℕ)) (b o after : List ℕ) (at s r : ℕ) → PutsAll ts b at o s → PutsAll us o s after r → PutsAll (ts ++ us) b at after r
unfolding put_all behind_all
all_append [] us b o after at s r p q = rw (← p.0, ← p.1) q
all_append (t ∷ ts) us b o after at s r p q = all_append ts us _ o after _ s r p q

-- the decimal digits of what stands in front of k digits, none for 0
unfoldable pub digits_before : ℕ → ℕ → List ℕ
digits_before k n = cond (eqb n 0) [] (decimal_up_to (k - 1) n)

pub before_none : (k n : ℕ) → n ≤ 0 → digits_before k n ≡ []
unfolding digits_before
before_none k n h = rw (eq-eqb n 0 (omega arith))

few-none : (n : ℕ) → 0 < n → n < 10 ^ 0 → ⊥
few-none n p h =
    let none : n < 1 = h in
    omega arith

-- the digits of a number are its last one and those before it
pub digits-last : (k n : ℕ) → n < 10 ^ suc k → decimal_up_to k n ≡ digits_before k (n / 10) ++ ((48 + n % 10) ∷ [])
unfolding digits_before decimal_up_to
digits-last zero n h =
    let small : n < 10 = h in
    rw (eq-eqb (n / 10) 0 (omega arith), mod-eq_of_lt small)
digits-last (suc k) n h =
    let one : suc k - 1 ≡ k = omega arith in
    rw one (go (ltb n 10) refl)
  where
    go : (t : Bool) → ltb n 10 ≡ t
        → cond t ((48 + n) ∷ []) (decimal_up_to k (n / 10) ++ ((48 + n % 10) ∷ [])) ≡ cond (eqb (n / 10) 0) [] (decimal_up_to k (n / 10)) ++ ((48 + n % 10) ∷ [])
    go true e =
        let small : n < 10 = ltb-true n 10 e in
        rw (eq-eqb (n / 10) 0 (omega arith), mod-eq_of_lt small)
    go false e =
        let large : 10 ≤ n = ltb-false n 10 e in
        rw (ne_eqb (n / 10) 0 (λ z. omega (arith, z)))

before-some : (k n : ℕ) → 0 < n → digits_before (suc k) n ≡ decimal_up_to k n
unfolding digits_before
before-some k n p =
    let one : suc k - 1 ≡ k = omega arith in
    rw (ne_eqb n 0 (λ z. omega (arith, z)), one)

-- one digit more in front of those that are written; what is left has a digit fewer
pub digits-turn : (k n : ℕ) (ds : List ℕ) → 0 < n → n < 10 ^ k → digits_before k n ++ ds ≡ digits_before (k - 1) (n / 10) ++ ((48 + n % 10) ∷ ds)
digits-turn zero n ds p h = absurd (few-none n p h)
digits-turn (suc k) n ds p h =
    let one : suc k - 1 ≡ k = omega arith in
    rw (one, before-some k n p, digits-last k n h) (append_assoc (digits_before k (n / 10)) ((48 + n % 10) ∷ []) ds)

pub few-turn : (k n : ℕ) → 0 < n → n < 10 ^ k → (0 < k) × (n / 10 < 10 ^ (k - 1))
few-turn zero n p h = absurd (few-none n p h)
few-turn (suc k) n p h =
    let one : suc k - 1 ≡ k = omega arith in
    rw one (omega arith, omega (arith, pow-succ' 10 k))
