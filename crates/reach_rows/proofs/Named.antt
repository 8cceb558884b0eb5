-- Rows named one by one: `naming-first`, `naming-next`, `naming-last`. What `any` answers of the boxes: `any-met`. A union that grows is around what is joined:
-- `around-first`, `around-next`, `around-last`.
use Prim.Native.Nat.{ℕ, suc, ◌+◌, ◌≤◌, ◌<◌}
use mathlib.Core.Path.{◌≡◌, refl, sym, ap, subst, ◌∙◌}
use mathlib.Core.Bool.{Bool, true, false, ◌||◌}
use mathlib.Core.List.{List, [], ◌∷◌, ◌++◌, map, map-append}
use native.Mathlib.Omega.{arith}
use native.Mathlib.Numerals.{add-one}
use borrow.Author.Tests.{lt-ltb, le-ltb}
use lib.Dec.{T}
use lib.ListN.{length, get_or, take, drop, set, length-map, drop_of_length-le}
use lib.Seq.{take-suc, take_all, drop-cons, length-take-le}
use lib.Ieee.{Float}
use Rattle.std.specs.List.{list_any}
use Rattle.bounds3.proofs.rounding.Order.{or_left, or_right}
use Rattle.bounds3.specs.declared.Bounds3f.{Bounds3f}
use Rattle.bounds3.specs.Bounds3f.{Bounds3f-union_bounds}
use Rattle.bounds3.specs.List.{Bounds3f-of_list}
use Rattle.bounds_overlap.specs.Meets.{Bounds3f-meets}
use Rattle.bounds_overlap.proofs.Wider.{union-meets-left, union-meets-right}
use Rattle.reach_rows.specs.Named.{some, met_by, next_names, max_rows, named_rows}
use Rattle.reach_rows.specs.means.Around.{Around}

-- ---- lists
abbrev pub boxes_of : List (List Float) → List Bounds3f
boxes_of boxes = map Bounds3f-of_list boxes

-- The box at a place.
abbrev pub box_of : List (List Float) → ℕ → Bounds3f
box_of boxes i = Bounds3f-of_list (get_or boxes i [])

box-next : (boxes : List (List Float)) (i : ℕ) → i < length boxes → boxes_of (drop i boxes) ≡ box_of boxes i ∷ boxes_of (drop (suc i) boxes)
box-next boxes i h = ap boxes_of (drop-cons boxes i [] h)

-- ---- some item
pub any-met : (boxes : List (List Float)) (row : Bounds3f) → list_any (λ b. Bounds3f-meets (Bounds3f-of_list b) row) boxes ≡ met_by (boxes_of boxes) row
unfolding some
any-met [] row = refl
any-met (b ∷ boxes) row = ap (λ (t : Bool). Bounds3f-meets (Bounds3f-of_list b) row || t) (any-met boxes row)

none-met : (boxes : List (List Float)) (row : Bounds3f) (i : ℕ) → length boxes ≤ i → met_by (boxes_of (drop i boxes)) row ≡ false
unfolding some
none-met boxes row i h = rw (drop_of_length-le boxes {i = i} h)

-- ---- what is around the boxes
module _ (boxes : List (List Float)) where
  -- The union meets what it and the boxes from a place on meet.
  pub record Growing (union : Bounds3f) (i : ℕ) : Type 0 where
    pub met : (row : Bounds3f) → T (met_by (boxes_of boxes) row) → T (Bounds3f-meets union row || met_by (boxes_of (drop i boxes)) row)

  pub around-first : (union : Bounds3f) → Growing union 0
  around-first union = record { met = λ row t. or_right (Bounds3f-meets union row) (met_by (boxes_of boxes) row) t }

  pub around-next : {union next : Bounds3f} {i : ℕ} → Growing union i → i < length boxes → next ≡ Bounds3f-union_bounds union (box_of boxes i) → Growing next (i + 1)
  around-next {union} {next} {i} g h e = record { met = λ row t. rw (add-one, e) (grown row (subst T (ap (λ (bs : List Bounds3f). Bounds3f-meets union row || met_by bs row) (box-next boxes i h)) (g.met row t))) }
    where
      grown : (row : Bounds3f) → T (Bounds3f-meets union row || met_by (box_of boxes i ∷ boxes_of (drop (suc i) boxes)) row)
          → T (Bounds3f-meets (Bounds3f-union_bounds union (box_of boxes i)) row || met_by (boxes_of (drop (suc i) boxes)) row)
      grown row t = unfold some in
          go (Bounds3f-meets union row) (Bounds3f-meets (box_of boxes i) row) (union-meets-left union (box_of boxes i) row)
          (union-meets-right union (box_of boxes i) row) t
        where
          joined : Bool
          joined = Bounds3f-meets (Bounds3f-union_bounds union (box_of boxes i)) row

          rest : Bool
          rest = met_by (boxes_of (drop (suc i) boxes)) row

          go : (x y : Bool) → (T x → T joined) → (T y → T joined) → T (x || (y || rest)) → T (joined || rest)
          go true y f k s = or_left joined rest (f tt)
          go false true f k s = or_left joined rest (k tt)
          go false false f k s = or_right joined rest s

  pub around-last : {union : Bounds3f} {i : ℕ} → Growing union i → length boxes ≤ i → Around (boxes_of boxes) union
  around-last {union} {i} g h = record {
    meets = λ row t.
        none (Bounds3f-meets union row) (met_by (boxes_of (drop i boxes)) row) (none-met boxes row i h) (g.met row t);
  }
    where
      none : (x y : Bool) → y ≡ false → T (x || y) → T x
      none true y e t = tt
      none false y e t = subst T e t

  -- A row that the union doesn't meet none of the boxes meets.
  pub not-around : {union : Bounds3f} (row : Bounds3f) {m : Bool} → Around (boxes_of boxes) union → m ≡ Bounds3f-meets union row → m ≡ false → false ≡ met_by (boxes_of boxes) row
  not-around {union} row {m} a e f = go (met_by (boxes_of boxes) row) (λ t. subst T (sym e ∙ f) (a.meets row t))
    where
      go : (x : Bool) → (T x → ⊥) → false ≡ x
      go true k = absurd (k tt)
      go false k = refl

-- ---- row by row
next-at : (boxes rows : List Bounds3f) (row : Bounds3f) (names : List Bool)
    → next_names boxes (rows ++ (row ∷ [])) names ≡ set (next_names boxes rows names) (length rows) (get_or (next_names boxes rows names) (length rows) false || met_by boxes row)
unfolding next_names
next-at boxes [] row [] = refl
next-at boxes [] row (x ∷ names) = refl
next-at boxes (r ∷ rows) row [] = refl
next-at boxes (r ∷ rows) row (x ∷ names) = ap (λ (l : List Bool). (x || met_by boxes r) ∷ l) (next-at boxes rows row names)

module _ (boxes : List Bounds3f) (rows : List (List Float)) (names : List Bool) where
  -- The first i rows are asked.
  pub record Naming (new : List Bool) (i : ℕ) : Type 0 where
    pub asked : new ≡ next_names boxes (boxes_of (take i rows)) names

  pub naming-first : Naming names 0
  unfolding next_names
  naming-first = record { asked = refl }

  pub naming-next : {new : List Bool} {i : ℕ} {value : Bool} → Naming new i → i < length rows → value ≡ (get_or new i false || met_by boxes (box_of rows i))
      → Naming (set new i value) (i + 1)
  naming-next {new} {i} {value} n h e = record {
    asked = rw (add-one, e, n.asked) (sym step);
  }
    where
      before : List Bounds3f
      before = boxes_of (take i rows)

      count : length before ≡ i
      count = length-map (take i rows) Bounds3f-of_list ∙ length-take-le i rows (omega (arith, h))

      split : boxes_of (take (suc i) rows) ≡ before ++ (box_of rows i ∷ [])
      split = ap boxes_of (take-suc rows i [] h) ∙ map-append Bounds3f-of_list (take i rows) (get_or rows i [] ∷ [])

      step : next_names boxes (boxes_of (take (suc i) rows)) names ≡ set (next_names boxes before names) i (get_or (next_names boxes before names) i false || met_by boxes (box_of rows i))
      step = ap (λ (l : List Bounds3f). next_names boxes l names) split ∙ subst (λ (k : ℕ). next_names boxes (before ++ (box_of rows i ∷ [])) names ≡ set (next_names boxes before names) k (get_or (next_names boxes before names) k false || met_by boxes (box_of rows i))) count (next-at boxes before (box_of rows i) names)

  pub naming-last : {new : List Bool} {i : ℕ} → Naming new i → length rows ≤ i → length rows ≤ max_rows → new ≡ named_rows boxes (boxes_of rows) names
  unfolding named_rows
  naming-last {new} {i} n h few =
      rw (length-map rows Bounds3f-of_list, le-ltb max_rows (length rows) few) (n.asked ∙ ap (λ (l : List (List Float)). next_names boxes (boxes_of l) names) (take_all i rows h))

  pub naming-none : max_rows < length rows → names ≡ named_rows boxes (boxes_of rows) names
  unfolding named_rows
  naming-none h = rw (length-map rows Bounds3f-of_list, lt-ltb max_rows (length rows) h)
