-- Blocks put over others: one new move among the kept ones, `put_one`, or two, `put_two`. New moves put over the copied
-- ones are the changed moves put from the first block on: `changed-left`; of 31 blocks the first are the changed moves: `changed-front`.
-- What a test tells of a place: `between`, `test-passed`.
use Prim.Native.Nat.{ℕ, zero, suc, ◌+◌, ◌-◌, ◌≤◌, ◌<◌}
use mathlib.Core.Path.{◌≡◌, refl, sym, ap, ◌∙◌}
use mathlib.Core.Bool.{Bool, true, false, ◌&&◌, ◌||◌, cond, false≢true}
use mathlib.Core.List.{List, [], ◌∷◌}
use native.Mathlib.Omega.{arith}
use borrow.Author.Tests.{ltb-true, ltb-false, eqb-false, ne_eqb, le-ltb}
use lib.Dec.{eqb, ltb}
use lib.ListN.{length, get_or, take, drop, set, length-set}
use lib.Seq.{sets, sets-eq, length-sets, set-set, set_comm, take_at}
use Rattle.trial_blocks.specs.Blocks.{Block, beside_blocks, changed_moves, changed_left}

-- ---- a place with a move before it and one behind it
pub between : (place n : ℕ) → (ltb 0 place && ltb place n) ≡ true → (0 < place) × (place < n)
between place n = go (ltb 0 place) (ltb-true 0 place) (ltb place n) (ltb-true place n)
  where
    go : (s : Bool) → (s ≡ true → 0 < place) → (t : Bool) → (t ≡ true → place < n) → (s && t) ≡ true → (0 < place) × (place < n)
    go true f true g e = (f refl, g refl)
    go true f false g e = absurd (false≢true e)
    go false f t g e = absurd (false≢true e)

-- ---- what one test tells of moves and a place
pub record Inside (n place : ℕ) : Type 0 where
  pub some : 0 < n
  pub few : n ≤ 31
  pub inside : place ≤ n

pub test-passed : (n place : ℕ) → (eqb n 0 || ltb 31 n || ltb n place) ≡ false → Inside n place
test-passed n place = go (eqb n 0) (eqb-false n 0) (ltb 31 n) (ltb-false 31 n) (ltb n place) (ltb-false n place)
  where
    go : (s : Bool) → (s ≡ false → n ≡ 0 → ⊥) → (t : Bool) → (t ≡ false → n ≤ 31) → (u : Bool) → (u ≡ false → place ≤ n)
        → (s || t || u) ≡ false → Inside n place
    go true f t g u h e = absurd (false≢true (sym e))
    go false f true g u h e = absurd (false≢true (sym e))
    go false f false g true h e = absurd (false≢true (sym e))
    go false f false g false h e = let z = f refl in record { some = omega (arith, z); few = g refl; inside = h refl }

-- ---- putting
module _ (blocks beside : List Block) (n place : ℕ) where
  pub put_two : (ltb 0 place && ltb place n) ≡ true → 0 < place
      → set (set blocks (place - 1) (get_or beside 0 [])) place (get_or beside 1 []) ≡ sets blocks (place - 1) (beside_blocks n place beside)
  put_two t l = let e : suc (place - 1) ≡ place = omega (arith, l) in rw (t, e)

  pub put_one : (ltb 0 place && ltb place n) ≡ false → set blocks (place - 1) (get_or beside 0 []) ≡ sets blocks (place - 1) (beside_blocks n place beside)
  put_one t = rw t

-- ---- blocks put over blocks that were put
sets-before : (xs l : List Block) (k j : ℕ) (y : Block) → j < k → set (sets l k xs) j y ≡ sets (set l j y) k xs
sets-before [] l k j y h = refl
sets-before (x ∷ xs) l k j y h =
    sets-before xs (set l k x) (suc k) j y (omega (arith, h))
    ∙ ap (λ (r : List Block). sets r (suc k) xs) (set_comm l k j x y (λ e. absurd (omega (arith, h, e))))

sets-set : (xs l : List Block) (k i : ℕ) (y : Block) → i < length xs → set (sets l k xs) (k + i) y ≡ sets l k (set xs i y)
sets-set [] l k i y h = absurd (omega (arith, h))
sets-set (x ∷ xs) l k zero y h =
    let e : k + 0 ≡ k = omega arith in
    rw e (sets-before xs (set l k x) (suc k) k y (omega arith) ∙ ap (λ (r : List Block). sets r (suc k) xs) (set-set l k x y))
sets-set (x ∷ xs) l k (suc i) y h = let e : k + suc i ≡ suc k + i = omega arith in rw e (sets-set xs (set l k x) (suc k) i y (omega (arith, h)))

sets-sets : (ys xs l : List Block) (i : ℕ) → i + length ys ≤ length xs → sets (sets l 0 xs) i ys ≡ sets l 0 (sets xs i ys)
sets-sets [] xs l i h = refl
sets-sets (y ∷ ys) xs l i h =
    let n = length-set xs i y in
    let e : 0 + i ≡ i = omega arith in
    ap (λ (r : List Block). sets r (suc i) ys) (rw e at (sets-set xs l 0 i y (omega (arith, h)))) ∙ sets-sets ys (set xs i y) l (suc i) (omega (arith, h, n))

-- the new moves end no later than the old ones
beside-fits : (n place : ℕ) (new : List Block) → 0 < n → place ≤ n → (place - 1) + length (beside_blocks n place new) ≤ n
beside-fits n place new some h = go (ltb 0 place && ltb place n) (between place n)
  where
    go : (s : Bool) → (s ≡ true → (0 < place) × (place < n))
        → (place - 1) + length (cond {A = List Block} s (get_or new 0 [] ∷ get_or new 1 [] ∷ []) (get_or new 0 [] ∷ [])) ≤ n
    go true f = let (l, k) = f refl in omega (arith, l, k)
    go false f = omega (arith, some, h)

module _ (moves : List Block) (place : ℕ) (new old : List Block) where
  abbrev outside : Bool
  outside = eqb (length moves) 0 || ltb 31 (length moves) || ltb (length moves) place

  pub changed-none : outside ≡ true → old ≡ changed_left moves place new old
  unfolding changed_left
  changed-none t = rw t

  pub changed-left : outside ≡ false
      → sets (sets old 0 moves) (place - 1) (beside_blocks (length moves) place new) ≡ changed_left moves place new old
  unfolding changed_left
  changed-left t =
      let passed = test-passed (length moves) place t in
      let room = beside-fits (length moves) place new passed.some passed.inside in
      rw t (sets-sets (beside_blocks (length moves) place new) moves old (place - 1) room)

  pub changed-front : {left : List Block} → 0 < length moves → length moves ≤ 31 → place ≤ length moves → length old ≡ 31
      → left ≡ changed_left moves place new old
      → (take (length moves) left ≡ changed_moves moves place new) × (length left ≡ 31)
  unfolding changed_left
  changed-front {left} some few inside k e =
      let n = length moves in
      let changed = changed_moves moves place new in
      let none : outside ≡ false = rw (ne_eqb n 0 (λ z. absurd (omega (arith, some, z))), le-ltb 31 n few, le-ltb n place inside) in
      let size = length-sets moves (place - 1) (beside_blocks n place new) in
      let same : left ≡ sets old 0 changed = rw none at e in (
        ap (take n) (same ∙ sets-eq changed old 0 (omega (arith, few, k, size))) ∙ take_at changed (drop (0 + length changed) old) n size,
        ap length same ∙ (length-sets old 0 changed ∙ k),
      )
