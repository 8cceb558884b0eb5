-- The names after poses are those of the rows that one of the boxes meets: `window-names`.
use Prim.Native.Nat.{ℕ, zero, suc, ◌+◌, ◌-◌, ◌≤◌, ◌<◌}
use mathlib.Core.Path.{◌≡◌, refl, sym, ap, subst, ◌∙◌}
use mathlib.Core.Bool.{Bool, true, false, ◌||◌, cond}
use mathlib.Core.List.{List, [], ◌∷◌, ◌++◌, map}
use native.Mathlib.Omega.{arith}
use borrow.Author.Tests.{le-ltb}
use lib.ListN.{length, replicate, length-map}
use lib.Ieee.{Float}
use Rattle.transform.specs.bounds3.declared.Bounds3f.{Bounds3f}
use Rattle.transform.specs.bounds3.List.{Bounds3f-of_list}
use Rattle.transform.specs.declared.BoundsAnswer.{BoundsAnswer}
use Rattle.transform.specs.declared.BoundsAnswer.TheVariants.{Bounds, Refused}
use Rattle.transform.specs.Answer.{BoundsAnswer-bounds}
use Rattle.reach_rows.specs.bounds_overlap.Meets.{Bounds3f-meets}
use Rattle.motion_piece.proofs.bounds_query.Union.{refused-bounds}
use Rattle.motion_piece.specs.means.Piece.{PaddedPose}
use Rattle.motion_piece.specs.means.Piece.{PaddedPose-enclose_bounds}
use Rattle.reach_laws.specs.motion_chain.Chain.{Chain}
use Rattle.box_front.specs.declared.Front.{Front}
use Rattle.box_front.specs.means.Front.{Boxes-answers, Bounds3f-tested, Front-of}
use Rattle.window_times.specs.declared.Window.{Window}
use Rattle.reach_laws.specs.chain_window.Cover.{window_boxes}
use Rattle.reach_rows.specs.Named.{some, met_by, next_names, max_rows, named_rows}
use Rattle.reach_laws.specs.Reach.{meets_row, named}
use Rattle.reach_window.specs.means.Poses.{window_poses}
use Rattle.reach_window.specs.means.Walk.{BoundsAnswer-then, Poses-answer, PaddedPose-moved, Poses-names}
use Rattle.reach_window.proofs.Poses.{boxes-poses}
use Rattle.reach_window.proofs.Walk.{both-then}
use Rattle.reach_window.proofs.Number.{refused-answer, walked}

-- ---- some item
or_assoc : (x y z : Bool) → ((x || y) || z) ≡ (x || (y || z))
or_assoc true y z = refl
or_assoc false y z = refl

or_swap : (x y z : Bool) → (x || (y || z)) ≡ (y || (x || z))
or_swap true true z = refl
or_swap true false z = refl
or_swap false true z = refl
or_swap false false z = refl

or-false : (x : Bool) → (x || false) ≡ x
or-false true = refl
or-false false = refl

some-map : {A B : Type 0} (test : B → Bool) (f : A → B) (xs : List A) → some test (map f xs) ≡ some (λ x. test (f x)) xs
unfolding some
some-map test f [] = refl
some-map test f (x ∷ xs) = ap (λ (t : Bool). test (f x) || t) (some-map test f xs)

some_or : {A : Type 0} (test other : A → Bool) (xs : List A) → some (λ x. test x || other x) xs ≡ (some test xs || some other xs)
unfolding some
some_or test other [] = refl
some_or test other (x ∷ xs) = rw (some_or test other xs) (join (test x) (other x) (some test xs) (some other xs))
  where
    join : (a b c d : Bool) → ((a || b) || (c || d)) ≡ ((a || c) || (b || d))
    join true b c d = refl
    join false true true d = refl
    join false true false d = refl
    join false false c d = refl

some-none : {A : Type 0} (xs : List A) → some (λ (x : A). false) xs ≡ false
unfolding some
some-none [] = refl
some-none (x ∷ xs) = some-none xs

some-swap : {A B : Type 0} (test : A → B → Bool) (xs : List A) (ys : List B) → some (λ x. some (test x) ys) xs ≡ some (λ y. some (λ x. test x y) xs) ys
unfolding some
some-swap test [] ys = sym (some-none ys)
some-swap test (x ∷ xs) ys =
    ap (λ (t : Bool). some (test x) ys || t) (some-swap test xs ys) ∙ sym (some_or (test x) (λ y. some (λ z. test z y) xs) ys)

-- ---- names
next-names : (boxes rows : List Bounds3f) (g : Bounds3f → Bool) (rest : List Bool)
    → next_names boxes rows (map g rows ++ rest) ≡ map (λ r. g r || met_by boxes r) rows ++ rest
unfolding next_names
next-names boxes [] g rest = refl
next-names boxes (row ∷ rows) g rest = ap (λ (l : List Bool). (g row || met_by boxes row) ∷ l) (next-names boxes rows g rest)

module _ (boxes rows : List (List Float)) (few : length rows ≤ max_rows) (rest : List Bool) where
  abbrev all : List Bounds3f
  all = map Bounds3f-of_list rows

  -- whether one of the poses brings a box that meets the row
  abbrev met_after : List PaddedPose → Bounds3f → Bool
  met_after poses row = some (λ p. met_by (PaddedPose-moved p boxes) row) poses

  poses-names : (poses : List PaddedPose) (g : Bounds3f → Bool)
      → Poses-names boxes rows poses (map g all ++ rest) ≡ map (λ r. g r || met_after poses r) all ++ rest
  unfolding Poses-names named_rows some
  poses-names [] g = ap (λ (h : Bounds3f → Bool). map h all ++ rest) (λ i r. sym (or-false (g r)) i)
  poses-names (p ∷ poses) g =
      let moved = PaddedPose-moved p boxes in
      let next : Bounds3f → Bool = λ r. g r || met_by moved r in
      let step : named_rows moved all (map g all ++ rest) ≡ map next all ++ rest =
      rw (length-map rows Bounds3f-of_list, le-ltb max_rows (length rows) few) (next-names moved all g rest) in
      ap (Poses-names boxes rows poses) step ∙ poses-names poses next
      ∙ ap (λ (h : Bounds3f → Bool). map h all ++ rest) (λ i r. or_assoc (g r) (met_by moved r) (met_after poses r) i)

-- ---- a row
-- The boxes that a box is moved to, none being refused, are those that the answers hold.
row-boxes : (row : Bounds3f) (f : Bounds3f → BoundsAnswer) (poses : List PaddedPose) (b x : Bounds3f) → Poses-answer f poses b ≡ Bounds x
    → some (λ p. Bounds3f-meets (BoundsAnswer-bounds (PaddedPose-enclose_bounds p b)) row) poses
    ≡ some (meets_row row) (map (λ p. PaddedPose-enclose_bounds p b) poses)
unfolding Poses-answer some
row-boxes row f [] b x e = refl
row-boxes row f (p ∷ poses) b x e = go (f b) (PaddedPose-enclose_bounds p b) refl refl (row-boxes row (both-then f (PaddedPose-enclose_bounds p)) poses b x e)
  where
    s : Bounds3f → BoundsAnswer
    s = PaddedPose-enclose_bounds p

    later : Bool
    later = some (λ p. Bounds3f-meets (BoundsAnswer-bounds (PaddedPose-enclose_bounds p b)) row) poses

    later' : Bool
    later' = some (meets_row row) (map (λ p. PaddedPose-enclose_bounds p b) poses)

    refused : (n : ℕ) → both-then f s b ≡ Refused n → ⊥
    refused n k = refused-bounds n x (sym (refused-answer (both-then f s) poses b n k) ∙ e)

    go : (y z : BoundsAnswer) → f b ≡ y → s b ≡ z → later ≡ later' → (Bounds3f-meets (BoundsAnswer-bounds (s b)) row || later) ≡ (meets_row row (s b) || later')
    go (Bounds y) (Bounds z) h k q = rw (k, q)
    go (Bounds y) (Refused n) h k q = absurd (refused n (rw (h, k)))
    go (Refused n) z h k q = absurd (refused n (rw h))

module _ (c : Chain) (d : ℕ) (w : Window) (row : Bounds3f) where
  abbrev poses : List PaddedPose
  poses = window_poses c d w

  rows-boxes : (boxes : List (List Float)) → (Front-of (Boxes-answers (walked c d w) boxes)).count ≡ length boxes
      → some (λ b. some (λ p. Bounds3f-meets (BoundsAnswer-bounds (PaddedPose-enclose_bounds p (Bounds3f-of_list b))) row) poses) boxes
      ≡ some (λ b. some (meets_row row) (window_boxes c b d w)) (map Bounds3f-of_list boxes)
  unfolding some Front-of
  rows-boxes [] e = refl
  rows-boxes (b ∷ boxes) e = go (walked c d w (Bounds3f-of_list b)) refl e (rows-boxes boxes)
    where
      box : Bounds3f
      box = Bounds3f-of_list b

      later : Bool
      later = some (λ b. some (λ p. Bounds3f-meets (BoundsAnswer-bounds (PaddedPose-enclose_bounds p (Bounds3f-of_list b))) row) poses) boxes

      later' : Bool
      later' = some (λ b. some (meets_row row) (window_boxes c b d w)) (map Bounds3f-of_list boxes)

      go : (a : BoundsAnswer) → walked c d w box ≡ a → (Front-of (a ∷ Boxes-answers (walked c d w) boxes)).count ≡ suc (length boxes)
          → ((Front-of (Boxes-answers (walked c d w) boxes)).count ≡ length boxes → later ≡ later')
          → (some (λ p. Bounds3f-meets (BoundsAnswer-bounds (PaddedPose-enclose_bounds p box)) row) poses || later)
          ≡ (some (meets_row row) (window_boxes c box d w) || later')
      go (Bounds x) k n q = unfold Front-of in
          let own = row-boxes row (Bounds3f-tested d) poses box x k ∙ ap (some (meets_row row)) (boxes-poses box c d w) in
          rw (own, q (omega (arith, n)))
      go (Refused m) k n q = unfold Front-of in absurd (omega (arith, n))

  row_named : (boxes : List (List Float)) → (Front-of (Boxes-answers (walked c d w) boxes)).count ≡ length boxes
      → some (λ p. met_by (PaddedPose-moved p boxes) row) poses ≡ named c (map Bounds3f-of_list boxes) d w row
  unfolding named
  row_named boxes e =
      let moved : PaddedPose → List Float → Bounds3f = λ p b. BoundsAnswer-bounds (PaddedPose-enclose_bounds p (Bounds3f-of_list b)) in
      ap (λ (t : PaddedPose → Bool). some t poses) (λ i p. some-map (λ b. Bounds3f-meets b row) (moved p) boxes i)
      ∙ some-swap (λ p b. Bounds3f-meets (moved p b) row) poses boxes
      ∙ rows-boxes boxes e

none_named : (rows : List Bounds3f) (n : ℕ) → length rows ≤ n → replicate n false ≡ map (λ (r : Bounds3f). false) rows ++ replicate (n - length rows) false
none_named [] n h = let e : n - 0 ≡ n = omega arith in rw e
none_named (r ∷ rows) zero h = absurd (omega (arith, h))
none_named (r ∷ rows) (suc n) h =
    let e : suc n - suc (length rows) ≡ n - length rows = omega arith in
    rw e (ap (λ (l : List Bool). false ∷ l) (none_named rows n (omega (arith, h))))

map_same : (f g : Bounds3f → Bool) (rows : List Bounds3f) → ((r : Bounds3f) → f r ≡ g r) → map f rows ≡ map g rows
map_same f g rows h = ap (λ (k : Bounds3f → Bool). map k rows) (λ i r. h r i)

pub window-names : (c : Chain) (d : ℕ) (w : Window) (boxes rows : List (List Float)) → length rows ≤ max_rows
    → (Front-of (Boxes-answers (walked c d w) boxes)).count ≡ length boxes
    → Poses-names boxes rows (window_poses c d w) (replicate max_rows false)
    ≡ map (named c (map Bounds3f-of_list boxes) d w) (map Bounds3f-of_list rows) ++ replicate (max_rows - length (map Bounds3f-of_list rows)) false
window-names c d w boxes rows few e =
    let all = map Bounds3f-of_list rows in
    let size = length-map rows Bounds3f-of_list in
    let rest = replicate (max_rows - length all) false in
    ap (Poses-names boxes rows (window_poses c d w)) (none_named all max_rows (omega (arith, few, size)))
    ∙ poses-names boxes rows few rest (window_poses c d w) (λ r. false)
    ∙ ap (λ (l : List Bool). l ++ rest) (map_same _ (named c (map Bounds3f-of_list boxes) d w) all (λ r. row_named c d w r boxes e))
