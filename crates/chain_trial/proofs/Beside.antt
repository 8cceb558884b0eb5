-- The poses beside a place of kept moves, written out: `beside_first`, `beside-last`, `beside-inner`; of what is built from them the new moves are the first
-- blocks: `beside-taken`. What building leaves of poses that equal them: `beside-clauses`.
use Prim.Native.Nat.{ℕ, zero, suc, ◌-◌, ◌≤◌, ◌<◌}
use mathlib.Core.Path.{◌≡◌, refl, sym, subst, ◌∙◌}
use mathlib.Core.Bool.{Bool, true, false}
use mathlib.Core.List.{List, [], ◌∷◌, map}
use native.Mathlib.Omega.{arith}
use borrow.Author.Tests.{lt-ltb, ltb-true, ltb-false}
use lib.Dec.{ltb}
use lib.ListN.{length, get_or, take, drop, length-map, drop_of_length-le, get_or-map}
use lib.Seq.{take-suc, drop-cons, drop_at, length-take-le}
use Rattle.transform.specs.matrix4x4.Rows.{Rows}
use Rattle.changed_chain.specs.pose_pair.declared.Pose.{Pose}
use Rattle.changed_chain.specs.animated_transform.declared.AnimatedTransform.{AnimatedTransform}
use Rattle.kept_poses.specs.motion_rows.Rows.{AnimatedTransform-from_rows}
use Rattle.changed_chain.specs.motion_chain.Chain.{Chain-moves, ChainAnswer-refusal, Chain-new}
use Rattle.changed_chain.specs.built_poses.Poses.{AnimatedTransform-start_pose, AnimatedTransform-end_pose, Chain-is_rigid}
use Rattle.chain_build.specs.chain_rows.Kept.{Moves-chain}
use Rattle.changed_chain.specs.Beside.{Chain-beside}
use Rattle.trial_blocks.specs.Blocks.{beside_blocks}
use Rattle.chain_trial.specs.means.Blocks.{NewMoves}

last_taken : {A : Type 0} (l : List A) (i : ℕ) (d : A) → 0 < i → i ≤ length l → drop (i - 1) (take i l) ≡ get_or l (i - 1) d ∷ []
last_taken l zero d z h = absurd (omega (arith, z))
last_taken l (suc j) d z h =
    let e : suc j - 1 ≡ j = omega arith in
    rw (e, take-suc l j d h) (drop_at (take j l) (get_or l j d ∷ []) j (length-take-le j l (omega (arith, h))))

first-dropped : {A : Type 0} (l : List A) (i : ℕ) (d : A) → i < length l → take 1 (drop i l) ≡ get_or l i d ∷ []
first-dropped l i d h = rw (drop-cons l i d h)

take-one : (l : List Rows) → 1 ≤ length l → take 1 l ≡ get_or l 0 [] ∷ []
take-one [] h = absurd (omega (arith, h))
take-one (x ∷ l) h = refl

take-two : (l : List Rows) → 2 ≤ length l → take 2 l ≡ get_or l 0 [] ∷ get_or l 1 [] ∷ []
take-two [] h = absurd (omega (arith, h))
take-two (x ∷ []) h = absurd (omega (arith, h))
take-two (x ∷ y ∷ l) h = refl

chain-moves : (rows : List Rows) → 0 < length rows → Chain-moves (Moves-chain rows) ≡ map AnimatedTransform-from_rows rows
unfolding Moves-chain
chain-moves [] h = absurd (omega (arith, h))
chain-moves (r ∷ rows) h = refl

module _ (rows : List Rows) (p : Pose) (some : 0 < length rows) where
  abbrev move_at : ℕ → AnimatedTransform
  move_at i = AnimatedTransform-from_rows (get_or rows i [])

  abbrev moves : List AnimatedTransform
  moves = map AnimatedTransform-from_rows rows

  count : length moves ≡ length rows
  count = length-map rows AnimatedTransform-from_rows

  start-at : (place : ℕ) → 0 < place → place ≤ length rows
      → map AnimatedTransform-start_pose (drop (place - 1) (take place moves)) ≡ AnimatedTransform-start_pose (move_at (place - 1)) ∷ []
  start-at place l h =
      let none = AnimatedTransform-from_rows [] in
      let n = count in
      rw (last_taken moves place none l (omega (arith, n, h)), get_or-map AnimatedTransform-from_rows rows (place - 1) [])

  end-at : (place : ℕ) → place < length rows
      → map AnimatedTransform-end_pose (take 1 (drop place moves)) ≡ AnimatedTransform-end_pose (move_at place) ∷ []
  end-at place h =
      let none = AnimatedTransform-from_rows [] in
      let n = count in
      rw (first-dropped moves place none (omega (arith, n, h)), get_or-map AnimatedTransform-from_rows rows place [])

  end_none : (place : ℕ) → length rows ≤ place → map AnimatedTransform-end_pose (take 1 (drop place moves)) ≡ []
  end_none place h = let n = count in rw (drop_of_length-le moves {i = place} (omega (arith, n, h)))

  pub beside_first : Chain-beside (Moves-chain rows) 0 p ≡ p ∷ AnimatedTransform-end_pose (move_at 0) ∷ []
  unfolding Chain-beside Moves-chain
  beside_first = refl

  pub beside-last : (place : ℕ) → 0 < place → place ≡ length rows
      → Chain-beside (Moves-chain rows) place p ≡ AnimatedTransform-start_pose (move_at (place - 1)) ∷ p ∷ []
  unfolding Chain-beside
  beside-last place l e = rw (chain-moves rows some, start-at place l (omega (arith, e)), end_none place (omega (arith, e)))

  pub beside-inner : (place : ℕ) → 0 < place → place < length rows
      → Chain-beside (Moves-chain rows) place p ≡ AnimatedTransform-start_pose (move_at (place - 1)) ∷ p ∷ AnimatedTransform-end_pose (move_at place) ∷ []
  unfolding Chain-beside
  beside-inner place l h = rw (chain-moves rows some, start-at place l (omega (arith, h)), end-at place h)

  -- one new move fewer than poses beside the place: the first of the new blocks
  pub beside-taken : (place : ℕ) → place ≤ length rows → (new : List Rows) → length new ≡ 31
      → beside_blocks (length rows) place new ≡ take (length (Chain-beside (Moves-chain rows) place p) - 1) new
  beside-taken zero h new n = rw beside_first (sym (take-one new (omega (arith, n))))
  beside-taken (suc j) h new n = go (ltb (suc j) (length rows)) refl
    where
      go : (b : Bool) → ltb (suc j) (length rows) ≡ b
          → beside_blocks (length rows) (suc j) new ≡ take (length (Chain-beside (Moves-chain rows) (suc j) p) - 1) new
      go true e =
          rw (lt-ltb 0 (suc j) (omega arith), e, beside-inner (suc j) (omega arith) (ltb-true (suc j) (length rows) e))
          (sym (take-two new (omega (arith, n))))
      go false e =
          let l = ltb-false (suc j) (length rows) e in
          rw (lt-ltb 0 (suc j) (omega arith), e, beside-last (suc j) (omega arith) (omega (arith, l, h))) (sym (take-one new (omega (arith, n))))

  -- the same, of poses that equal those of the moves
  pub first-same : (place : ℕ) {e : Pose} → place ≡ 0 → e ≡ AnimatedTransform-end_pose (move_at 0) → p ∷ e ∷ [] ≡ Chain-beside (Moves-chain rows) place p
  first-same place z same = rw (z, same) (sym beside_first)

  pub last-same : (place : ℕ) {s : Pose} → (place ≡ 0 → ⊥) → place ≡ length rows → s ≡ AnimatedTransform-start_pose (move_at (place - 1))
      → s ∷ p ∷ [] ≡ Chain-beside (Moves-chain rows) place p
  last-same place f e same = rw same (sym (beside-last place (omega (arith, f)) e))

  pub inner-same : (place : ℕ) {s e : Pose} → (place ≡ 0 → ⊥) → (place ≡ length rows → ⊥) → place ≤ length rows
      → s ≡ AnimatedTransform-start_pose (move_at (place - 1)) → e ≡ AnimatedTransform-end_pose (move_at place)
      → s ∷ p ∷ e ∷ [] ≡ Chain-beside (Moves-chain rows) place p
  inner-same place f g h same next = rw (same, next) (sym (beside-inner place (omega (arith, f)) (omega (arith, g, h))))

-- ---- what building them leaves
abbrev pub BuiltFrom : Bool → List Pose → ℕ → List Rows → Type 0
BuiltFrom rigid poses r blocks = (r ≡ ChainAnswer-refusal (Chain-new rigid poses)) × ((r ≡ 0 → NewMoves rigid poses blocks) × (length blocks ≡ 31))

chain-kind : (rows : List Rows) → (AnimatedTransform-from_rows (get_or rows 0 [])).rigid ≡ Chain-is_rigid (Moves-chain rows)
unfolding Moves-chain
chain-kind rows = refl

pub beside-clauses : (rows : List Rows) (place : ℕ) (p : Pose) {rigid : Bool} {poses : List Pose} {r : ℕ} {blocks : List Rows}
    → rigid ≡ (AnimatedTransform-from_rows (get_or rows 0 [])).rigid → poses ≡ Chain-beside (Moves-chain rows) place p
    → BuiltFrom rigid poses r blocks → BuiltFrom (Chain-is_rigid (Moves-chain rows)) (Chain-beside (Moves-chain rows) place p) r blocks
beside-clauses rows place p {rigid} {poses} {r} {blocks} kind same h =
    subst (λ (k : Bool). BuiltFrom k (Chain-beside (Moves-chain rows) place p) r blocks) (kind ∙ chain-kind rows)
    (subst (λ (l : List Pose). BuiltFrom rigid l r blocks) same h)
