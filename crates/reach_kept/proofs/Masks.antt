-- Masks with one more digit: `added-rows`, `mask-more`, and row by row as code adds it, `adding-first`, `adding-next`, `adding-last`. Masks of k windows are below
-- 2^k: `masks-below`. Masks copied into lent places: `copied-front`.
use Prim.Native.Nat.{ℕ, zero, suc, ◌+◌, ◌*◌, ◌%◌, ◌^◌, ◌≤◌, ◌<◌}
use mathlib.Core.Path.{◌≡◌, refl, sym, ap, subst, ◌∙◌}
use mathlib.Core.Bool.{Bool, true, false, cond}
use mathlib.Core.List.{List, [], ◌∷◌, ◌++◌, map}
use native.Mathlib.Nat.{pow-suc}
use native.Mathlib.Omega.{arith}
use native.Mathlib.Numerals.{add-one}
use lib.ListN.{length, get_or, take, drop, set, replicate}
use lib.Seq.{take_all}
use lib.Pow.{pow_pos, pow-lt, shl_exact}
use Rattle.bounds_query.specs.bounds3.declared.Bounds3f.{Bounds3f}
use Rattle.reached_rows.specs.bounds_answers.UnionAll.{Each}
use Rattle.window_times.specs.declared.Window.{Window}
use Rattle.lent_laws.specs.Front.{in_front}
use Rattle.reach_window.specs.reach_laws.Reach.{mask_of}
use Rattle.reach_window.proofs.reach_laws.Masks.{mask_lt}
use Rattle.reach_kept.specs.means.Masks.{added_mask, added_masks, Below}

-- ---- one more window
pub mask-more : (test : Window → Bool) (ws : List Window) (w : Window) → mask_of test (ws ++ (w ∷ [])) ≡ added_mask (length ws) (mask_of test ws) (test w)
unfolding mask_of added_mask
mask-more test [] w = go (test w)
  where
    go : (t : Bool) → 0 * 2 + cond t 1 0 ≡ cond t (0 + 2 ^ 0) 0
    go true = refl
    go false = refl
mask-more test (x ∷ ws) w = rw (mask-more test ws w) (go (test w) (test x) (mask_of test ws))
  where
    go : (t s : Bool) (m : ℕ) → cond t (m + 2 ^ length ws) m * 2 + cond s 1 0 ≡ cond t (m * 2 + cond s 1 0 + 2 ^ suc (length ws)) (m * 2 + cond s 1 0)
    go true true m = let e = pow-suc 2 (length ws) in omega (arith, e)
    go true false m = let e = pow-suc 2 (length ws) in omega (arith, e)
    go false s m = refl

-- ---- over rows
pub added-rows : (k : ℕ) (f : Bounds3f → ℕ) (g : Bounds3f → Bool) (rows : List Bounds3f) (z : ℕ)
    → added_masks k (map f rows ++ replicate z 0) (map g rows ++ replicate z false) ≡ map (λ r. added_mask k (f r) (g r)) rows ++ replicate z 0
unfolding added_masks added_mask
added-rows k f g [] zero = refl
added-rows k f g [] (suc z) = ap (λ (l : List ℕ). 0 ∷ l) (added-rows k f g [] z)
added-rows k f g (row ∷ rows) z = ap (λ (l : List ℕ). added_mask k (f row) (g row) ∷ l) (added-rows k f g rows z)

zeros-below : (k z : ℕ) → Each (λ m. m < 2 ^ k) (replicate z 0)
zeros-below k zero = tt
zeros-below k (suc z) = (pow_pos k, zeros-below k z)

rows-below : (k : ℕ) (f : Bounds3f → ℕ) → ((r : Bounds3f) → f r < 2 ^ k) → (rows : List Bounds3f) (z : ℕ) → Each (λ m. m < 2 ^ k) (map f rows ++ replicate z 0)
rows-below k f h [] z = zeros-below k z
rows-below k f h (row ∷ rows) z = (h row, rows-below k f h rows z)

pub masks-below : (k : ℕ) (test : Bounds3f → Window → Bool) (ws : List Window) → length ws ≡ k → (rows : List Bounds3f) (z : ℕ)
    → Below k (map (λ r. mask_of (test r) ws) rows ++ replicate z 0)
masks-below k test ws e rows z =
    record { each = rows-below k (λ r. mask_of (test r) ws) (λ r. subst (λ (n : ℕ). mask_of (test r) ws < 2 ^ n) e (mask_lt (test r) ws)) rows z }

-- ---- mask by mask
pub each_at : (k i : ℕ) (masks : List ℕ) → Each (λ m. m < 2 ^ k) masks → i < length masks → get_or masks i 0 < 2 ^ k
each_at k i [] e h = absurd (omega (arith, h))
each_at k zero (m ∷ masks) (e, es) h = e
each_at k (suc i) (m ∷ masks) (e, es) h = each_at k i masks es (omega (arith, h))

-- The first i are added; the others are as they were.
abbrev up_to : ℕ → ℕ → List ℕ → List Bool → List ℕ
up_to k i masks names = added_masks k masks (take i names)

next-added : (k i : ℕ) (masks : List ℕ) (names : List Bool) → i < length masks → i < length names
    → set (up_to k i masks names) i (added_mask k (get_or (up_to k i masks names) i 0) (get_or names i false)) ≡ up_to k (suc i) masks names
unfolding added_masks
next-added k i [] names h l = absurd (omega (arith, h))
next-added k i (m ∷ masks) [] h l = absurd (omega (arith, l))
next-added k zero (m ∷ masks) (n ∷ names) h l = ap (λ (r : List ℕ). added_mask k m n ∷ r) (sym (none masks))
  where
    none : (ms : List ℕ) → added_masks k ms [] ≡ ms
    none [] = unfold added_masks in refl
    none (x ∷ ms) = unfold added_masks in refl
next-added k (suc i) (m ∷ masks) (n ∷ names) h l = ap (λ (r : List ℕ). added_mask k m n ∷ r) (next-added k i masks names (omega (arith, h)) (omega (arith, l)))

own_at : (k i : ℕ) (masks : List ℕ) (names : List Bool) → i < length masks → i < length names → get_or (up_to k i masks names) i 0 ≡ get_or masks i 0
unfolding added_masks
own_at k i [] names h l = absurd (omega (arith, h))
own_at k i (m ∷ masks) [] h l = absurd (omega (arith, l))
own_at k zero (m ∷ masks) (n ∷ names) h l = refl
own_at k (suc i) (m ∷ masks) (n ∷ names) h l = own_at k i masks names (omega (arith, h)) (omega (arith, l))

module _ (k : ℕ) (masks : List ℕ) (names : List Bool) where
  pub record Adding (new : List ℕ) (i : ℕ) : Type 0 where
    pub added : new ≡ up_to k i masks names

  pub adding-first : Adding masks 0
  adding-first = record { added = none masks }
    where
      none : (ms : List ℕ) → ms ≡ added_masks k ms []
      none [] = unfold added_masks in refl
      none (x ∷ ms) = unfold added_masks in refl

  pub adding-below : {new : List ℕ} {i : ℕ} → Adding new i → Below k masks → i < length masks → i < length names → get_or new i 0 < 2 ^ k
  adding-below {new} {i} a b h l = rw (a.added, own_at k i masks names h l) (each_at k i masks b.each h)

  pub adding-next : {new : List ℕ} {i value : ℕ} → Adding new i → i < length masks → i < length names → value ≡ added_mask k (get_or new i 0) (get_or names i false)
      → Adding (set new i value) (i + 1)
  adding-next {new} {i} {value} a h l e = record { added = rw (e, a.added, add-one) (next-added k i masks names h l) }

  pub adding-last : {new : List ℕ} {i : ℕ} → Adding new i → length names ≤ i → new ≡ added_masks k masks names
  adding-last {new} {i} a h = a.added ∙ ap (added_masks k masks) (take_all i names h)

-- ---- a digit
pub digit-exact : (k : ℕ) → k < 63 → 1 * 2 ^ k % 2 ^ 64 ≡ 2 ^ k
digit-exact k h = let e = shl_exact {a = 1} 1 k 64 (omega arith) (omega (arith, h)) in omega (arith, e)

pub digit_room : (mask k : ℕ) → k < 63 → mask < 2 ^ k → mask + (1 * 2 ^ k % 2 ^ 64) < 2 ^ 64
digit_room mask k h l =
    let e = digit-exact k h in
    let below = pow-lt {i = k} {j = 63} h in
    omega (arith, e, below, l)

-- ---- the masks in lent places
pub copied-front : (items old : List ℕ) (n : ℕ) → length items ≡ n → n ≤ length old → items ++ drop n old ≡ in_front items old
unfolding in_front
copied-front [] old zero e h = refl
copied-front [] old (suc n) e h = absurd (omega (arith, e))
copied-front (x ∷ items) old zero e h = absurd (omega (arith, e))
copied-front (x ∷ items) [] (suc n) e h = absurd (omega (arith, h))
copied-front (x ∷ items) (y ∷ old) (suc n) e h = ap (λ (l : List ℕ). x ∷ l) (copied-front items old n (omega (arith, e)) (omega (arith, h)))
