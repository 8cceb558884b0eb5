-- One test of a whole list, `table_test`: its size, its ends, its strict rise and the Taylor rule at every entry. A list that passes is T, `tested-entries`, and
-- is what document 01 says of it, `tested-right`. The code's table is tested so (proofs/table), and T itself, `sine_table-right`.
-- From it that `sine_entry` rises.
use mathlib.Core.Path.{◌≡◌, refl, sym, ap, subst, subst₂, ◌∙◌}
use mathlib.Core.Bool.{Bool, true, ◌&&◌}
use mathlib.Core.List.{List, [], ◌∷◌}
use Prim.Native.Nat.{ℕ, zero, suc, ◌+◌, ◌^◌, ◌≤◌, ◌<◌}
use native.Mathlib.Nat.{add-zero, zero-add, le_of_suc-le-suc, not-suc-le-zero, le_refl}
use native.Mathlib.Decide.{le_ind}
use native.Mathlib.Omega.{arith}
use lib.Dec.{T, eqb, ltb, eqb→eq, ltb→lt}
use lib.ListN.{length, get_or}
use lib.Ieee.Fits.{and_l, and_r}
use Rattle.sine_table.specs.Table.{taylor_sum, sine_entry, entries, sine_table, SineTable}

-- ---- the test

-- x is below the entry after it, if there is one.
abbrev below : ℕ → List ℕ → Bool
below x [] = true
below x (y ∷ ys) = ltb x y

-- The entries from place i on follow the rule and rise.
abbrev passes : ℕ → List ℕ → Bool
passes i [] = true
passes i (x ∷ xs) = eqb x (sine_entry i) && below x xs && passes (suc i) xs

next : (x : ℕ) (xs : List ℕ) → T (below x xs) → 0 < length xs → x < get_or xs 0 0
next x [] t h = absurd (not-suc-le-zero h)
next x (y ∷ ys) t h = ltb→lt x y t

passes_at : (i : ℕ) (xs : List ℕ) → T (passes i xs) → (k : ℕ) → k < length xs
    → (get_or xs k 0 ≡ sine_entry (i + k)) × (suc k < length xs → get_or xs k 0 < get_or xs (suc k) 0)
passes_at i [] t k h = absurd (not-suc-le-zero h)
passes_at i (x ∷ xs) t zero h =
    let a = and_l (eqb x (sine_entry i) && below x xs) (passes (suc i) xs) t in (
      eqb→eq x (sine_entry i) (and_l (eqb x (sine_entry i)) (below x xs) a) ∙ ap sine_entry (sym (add-zero i)),
      λ l. next x xs (and_r (eqb x (sine_entry i)) (below x xs) a) (le_of_suc-le-suc l),
    )
passes_at i (x ∷ xs) t (suc k) h =
    let r = passes_at (suc i) xs (and_r (eqb x (sine_entry i) && below x xs) (passes (suc i) xs) t) k (le_of_suc-le-suc h) in
    (r.0 ∙ ap sine_entry (let e : suc i + k ≡ i + suc k = omega arith in e), λ l. r.1 (le_of_suc-le-suc l))

passes-entries : (i : ℕ) (xs : List ℕ) → T (passes i xs) → xs ≡ entries (length xs) i
unfolding entries
passes-entries i [] t = refl
passes-entries i (x ∷ xs) t =
    ap (λ (y : ℕ). y ∷ xs) (eqb→eq x (sine_entry i) (and_l (eqb x (sine_entry i)) (below x xs) (and_l (eqb x (sine_entry i) && below x xs) (passes (suc i) xs) t)))
    ∙ ap (λ (ys : List ℕ). sine_entry i ∷ ys) (passes-entries (suc i) xs (and_r (eqb x (sine_entry i) && below x xs) (passes (suc i) xs) t))

-- ---- the table

-- The whole of it at one go: size, ends, rule and rise.
abbrev pub table_test : List ℕ → Bool
table_test t = eqb (length t) 2049 && eqb (get_or t 0 0) 0 && eqb (get_or t 2048 0) (2 ^ 30) && passes 0 t

module _ (t : List ℕ) (test : T (table_test t)) where
  follows : T (passes 0 t)
  follows = and_r (eqb (length t) 2049 && eqb (get_or t 0 0) 0 && eqb (get_or t 2048 0) (2 ^ 30)) (passes 0 t) test

  ends : T (eqb (length t) 2049 && eqb (get_or t 0 0) 0 && eqb (get_or t 2048 0) (2 ^ 30))
  ends = and_l (eqb (length t) 2049 && eqb (get_or t 0 0) 0 && eqb (get_or t 2048 0) (2 ^ 30)) (passes 0 t) test

  start : T (eqb (length t) 2049 && eqb (get_or t 0 0) 0)
  start = and_l (eqb (length t) 2049 && eqb (get_or t 0 0) 0) (eqb (get_or t 2048 0) (2 ^ 30)) ends

  pub tested-right : SineTable t
  tested-right =
      let size : length t ≡ 2049 = eqb→eq (length t) 2049 (and_l (eqb (length t) 2049) (eqb (get_or t 0 0) 0) start) in
      record {
        size = size;
        first = eqb→eq (get_or t 0 0) 0 (and_r (eqb (length t) 2049) (eqb (get_or t 0 0) 0) start);
        last = eqb→eq (get_or t 2048 0) (2 ^ 30) (and_r (eqb (length t) 2049 && eqb (get_or t 0 0) 0) (eqb (get_or t 2048 0) (2 ^ 30)) ends);
        rises = λ i h. (passes_at 0 t follows i (rw size (omega arith))).1 (rw size (omega arith));
        rule = λ i h. (passes_at 0 t follows i (rw size (omega arith))).0 ∙ ap sine_entry (zero-add i);
      }

  pub tested-entries : t ≡ sine_table
  unfolding sine_table
  tested-entries = passes-entries 0 t follows ∙ ap (λ (n : ℕ). entries n 0) tested-right.size

pub tested : {t : List ℕ} → T (table_test t) → (t ≡ sine_table) × SineTable t
tested {t} test = (tested-entries t test, tested-right t test)

pub sine_table-right : SineTable sine_table
unfolding sine_table entries sine_entry taylor_sum
sine_table-right = tested-right sine_table tt

-- ---- the rule

pub entry-rises : (i : ℕ) → i < 2048 → sine_entry i < sine_entry (suc i)
entry-rises i h = subst₂ (λ (a b : ℕ). a < b) (sine_table-right.rule i (omega arith)) (sine_table-right.rule (suc i) (omega arith)) (sine_table-right.rises i h)

pub entry-mono : (i j : ℕ) → i ≤ j → j ≤ 2048 → sine_entry i ≤ sine_entry j
entry-mono i j h k =
    le_ind (λ (n : ℕ). n ≤ 2048 → sine_entry i ≤ sine_entry n) (λ l. le_refl (sine_entry i))
    (λ n g r l. let a : sine_entry i ≤ sine_entry n = r (omega arith) in let b = entry-rises n l in omega (arith, a, b)) j h k
