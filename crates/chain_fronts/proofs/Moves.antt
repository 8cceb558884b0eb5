-- The loop over the moves of a kept chain: before the move at i each box is answered the union of the covers before it,
-- and with those that are left it is the chain's cover (`Reached`); `reached-first`, `reached-next`, `reached-last`.
-- Where there is nothing to join: `no-boxes`, `no-moves`.
use Prim.Native.Nat.{ℕ, suc, ◌+◌, ◌-◌, ◌≤◌, ◌<◌}
use mathlib.Core.Path.{◌≡◌, refl, sym, ap, subst, ◌∙◌}
use mathlib.Core.List.{List, [], ◌∷◌, map}
use native.Mathlib.Omega.{arith}
use borrow.Author.Tests.{eq-eqb, ne_eqb}
use lib.ListN.{length, get_or, take, drop, drop_of_length-le}
use lib.Seq.{drop-cons, take_all}
use lib.Ieee.{Float}
use Rattle.lent_arrays.specs.matrix4x4.Rows.{Rows}
use Rattle.lent_arrays.specs.bounds3.declared.Bounds3f.{Bounds3f}
use Rattle.lent_arrays.specs.transform.declared.BoundsAnswer.{BoundsAnswer}
use Rattle.box_front.specs.bounds_query.Query.{BoundsAnswer-union_bounds}
use Rattle.motion_rows.specs.animated_transform.declared.AnimatedTransform.{AnimatedTransform}
use Rattle.box_front.specs.motion_cover.Cover.{AnimatedTransform-cover}
use Rattle.motion_rows.specs.Rows.{AnimatedTransform-from_rows}
use Rattle.chain_rows.specs.motion_chain.Chain.{union_covers, Chain-cover}
use Rattle.chain_rows.specs.Kept.{Moves-chain, Moves-cover}
use Rattle.box_front.specs.declared.Front.{Front}
use Rattle.box_front.specs.means.Front.{place_count, Boxes-answers, Front-of}
use Rattle.motion_fronts.specs.means.Covered.{Places-of, Places-answered, Covered, Continues}
use Rattle.motion_fronts.proofs.Front.{covered_same}
use Rattle.motion_fronts.proofs.Places.{asked-all, answered-none, answered-covered, Left}

-- The moves behind the first, as the loop goes over them.
abbrev behind : List Rows → List Rows
behind rows = take (length rows - 1) (drop 1 rows)

all-behind : (rows : List Rows) → behind rows ≡ drop 1 rows
all-behind [] = take_all (0 - 1) [] (omega arith)
all-behind (r ∷ rows) = take_all (suc (length rows) - 1) rows (omega arith)

pub rows-behind : (rows : List Rows) (i : ℕ) → i < length (behind rows) → (get_or (behind rows) i [] ≡ get_or rows (i + 1) []) × (i + 1 < length rows)
rows-behind rows i h = rw (all-behind rows) (go rows (rw (all-behind rows) at h))
  where
    go : (rows : List Rows) → i < length (drop 1 rows) → (get_or (drop 1 rows) i [] ≡ get_or rows (i + 1) []) × (i + 1 < length rows)
    go [] l = absurd (omega (arith, l))
    go (r ∷ rows) l = let n : i + 1 ≡ suc i = omega arith in (rw n refl, omega (arith, l))

pub none-behind : (rows : List Rows) (i : ℕ) → length (behind rows) ≤ i → length rows ≤ i + 1
none-behind rows i h = go rows (rw (all-behind rows) at h)
  where
    go : (rows : List Rows) → length (drop 1 rows) ≤ i → length rows ≤ i + 1
    go [] l = omega arith
    go (r ∷ rows) l = omega (arith, l)

module _ (rows : List Rows) (boxes : List (List Float)) (depth : ℕ) where
  abbrev pub cover_at : ℕ → Bounds3f → BoundsAnswer
  cover_at i b = AnimatedTransform-cover (AnimatedTransform-from_rows (get_or rows i [])) b depth

  abbrev pub kept_cover : Bounds3f → BoundsAnswer
  kept_cover b = Moves-cover rows b depth

  abbrev chain_cover : Bounds3f → BoundsAnswer
  chain_cover b = Chain-cover (Moves-chain rows) b depth

  pub record Reached (new : List (List Float)) (front : Front) (i : ℕ) : Type 0 where
    pub answer : Bounds3f → BoundsAnswer
    pub rest : (b : Bounds3f) → union_covers b depth (answer b) (map AnimatedTransform-from_rows (drop i rows)) ≡ chain_cover b
    pub covered : Covered answer boxes (Places-of []) new front

  pub reached-first : {m : AnimatedTransform} {new : List (List Float)} {front : Front} → m ≡ AnimatedTransform-from_rows (get_or rows 0 [])
      → length boxes ≤ place_count → Left (λ b. AnimatedTransform-cover m b depth) boxes front new → Reached new front 1
  unfolding Chain-cover Moves-chain
  reached-first {m} {new} {front} e l h =
      let own = subst (λ (x : AnimatedTransform). Left (λ b. AnimatedTransform-cover x b depth) boxes front new) e h in
      record { answer = cover_at 0; rest = λ b. refl; covered = answered-covered (cover_at 0) boxes l own }

  one_more : (i : ℕ) (r : BoundsAnswer) (b : Bounds3f) → i < length rows
      → union_covers b depth (BoundsAnswer-union_bounds r (cover_at i b)) (map AnimatedTransform-from_rows (drop (i + 1) rows))
      ≡ union_covers b depth r (map AnimatedTransform-from_rows (drop i rows))
  unfolding union_covers
  one_more i r b h = let n : i + 1 ≡ suc i = omega arith in rw (n, drop-cons rows i [] h)

  pub reached-next : {new next : List (List Float)} {front then : Front} {i : ℕ} → Reached new front i → i < length rows
      → Continues (λ answer b. BoundsAnswer-union_bounds (answer b) (cover_at i b)) boxes new next front then
      → Reached next then (i + 1)
  reached-next {i = i} r h t =
      record {
        answer = λ b. BoundsAnswer-union_bounds (r.answer b) (cover_at i b);
        rest = λ b. one_more i (r.answer b) b h ∙ r.rest b;
        covered = t r.answer (Places-of []) r.covered;
      }

  pub reached-last : {new : List (List Float)} {front : Front} {i : ℕ} → Reached new front i → length rows ≤ i → (length rows ≡ 0 → ⊥)
      → Covered kept_cover boxes (Places-of []) new front
  reached-last {i = i} r h n = covered_same (λ b. sym (all i (r.answer b) b h) ∙ r.rest b ∙ some b) r.covered
    where
      all : (k : ℕ) (a : BoundsAnswer) (b : Bounds3f) → length rows ≤ k → union_covers b depth a (map AnimatedTransform-from_rows (drop k rows)) ≡ a
      all k a b l = unfold union_covers in rw (drop_of_length-le rows {i = k} l)

      some : (b : Bounds3f) → chain_cover b ≡ kept_cover b
      some b = unfold Moves-cover in rw (ne_eqb (length rows) 0 n)

-- ---- nothing to join
module _ (rows : List Rows) (depth : ℕ) where
  pub no-boxes : (boxes : List (List Float)) → length boxes ≡ 0 → Left (kept_cover rows [] depth) boxes (record { count = 0; refusal = 0 }) (Places-of [])
  unfolding Front-of Places-answered
  no-boxes [] e = rw (asked-all [] (omega arith)) (refl, refl)
  no-boxes (b ∷ boxes) e = absurd (omega (arith, e))

  pub no-moves : (boxes : List (List Float)) → (length boxes ≡ 0 → ⊥) → length boxes ≤ place_count → length rows ≡ 0
      → Left (kept_cover rows [] depth) boxes (record { count = 0; refusal = 12 }) (Places-of [])
  no-moves [] n l e = absurd (n refl)
  no-moves (b ∷ boxes) n l e =
      rw (asked-all (b ∷ boxes) l)
      (front, sym (answered-none (Boxes-answers (kept_cover rows [] depth) (b ∷ boxes)) (λ q. absurd (omega (arith, ap (λ (f : Front). f.count) front, q)))))
    where
      front : record { count = 0; refusal = 12 } ≡ Front-of (Boxes-answers (kept_cover rows [] depth) (b ∷ boxes))
      front = unfold Front-of Moves-cover in rw (eq-eqb (length rows) 0 e)
