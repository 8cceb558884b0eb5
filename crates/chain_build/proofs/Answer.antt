-- What building gives to its caller, in the three ways that it ends: `checks-refused`, `pair-refused`, `all-built`.
use Prim.Native.Nat.{ℕ, ◌-◌}
use mathlib.Core.Path.{◌≡◌, sym, ap, ◌∙◌}
use mathlib.Core.Bool.{Bool, true}
use mathlib.Core.List.{List, [], ◌∷◌, map, map-map}
use native.Mathlib.Omega.{arith}
use borrow.Author.Tests.{eq-eqb, ne_eqb}
use lib.Dec.{T}
use lib.ListN.{length, take, drop, length-map}
use lib.Seq.{take-append_seam}
use lib.Ieee.Fits.{and_i}
use Rattle.chain_number.specs.Number.{Move-number}
use Rattle.chain_number.proofs.ChainNumber.{numbers-same}
use Rattle.lent_arrays.specs.matrix4x4.Rows.{Rows}
use Rattle.lent_arrays.specs.pose_pair.declared.Pose.{Pose}
use Rattle.lent_arrays.specs.pose_pair.Pose.{Pose-is_binary32}
use Rattle.animated_transform.specs.New.{AnimatedTransformAnswer}
use Rattle.animated_transform.specs.New.{AnimatedTransform-new}
use Rattle.animated_transform.specs.Built.{Built}
use Rattle.animated_transform.proofs.Kept.{new-kept, built-kept}
use Rattle.motion_rows.specs.Rows.{AnimatedTransform-to_rows, AnimatedTransformAnswer-left}
use Rattle.chain_poses.specs.motion_chain.Chain.{neighbours, every, stage, chain_refusal, Chain, ChainAnswer, built, refused, ChainAnswer-refusal}
use Rattle.chain_poses.specs.motion_chain.Chain.{ChainAnswer-from_moves, Chain-new}
use Rattle.chain_poses.specs.motion_chain.Built.{Each}
use Rattle.chain_poses.proofs.motion_chain.Built.{first-none, checks-passed}
use Rattle.chain_rows.specs.Kept.{Chain-to_rows}
use Rattle.chain_rows.specs.Theorem.{Moves-Holds}
use Rattle.chain_poses.proofs.Loops.{pairs-count}
use Rattle.chain_build.specs.Build.{blocks_left, ChainAnswer-left}
use Rattle.chain_build.specs.means.Pairs.{Pair-rows, Pair-Built}

-- ---- one pair
pub pair-clauses : (rigid : Bool) (p q : Pose) (a : AnimatedTransformAnswer) (old : Rows) {r : ℕ} {rows : Rows}
    → a ≡ AnimatedTransform-new rigid p q → (a.refusal ≡ 0 → Built a.value)
    → r ≡ a.refusal → rows ≡ AnimatedTransformAnswer-left a old
    → (r ≡ Move-number rigid (p, q)) × ((r ≡ 0 → rows ≡ Pair-rows rigid (p, q)) × (r ≡ 0 → Pair-Built rigid (p, q)))
unfolding AnimatedTransformAnswer-left
pair-clauses rigid p q a old same move number left = (
  number ∙ ap (λ (x : AnimatedTransformAnswer). x.refusal) same,
  (λ z. rw (← same) (rw left (rw (sym number ∙ z))), λ z. rw (← same) (move (sym number ∙ z))),
)

-- ---- what came of each pair
abbrev answers : Bool → List (Pose × Pose) → List AnimatedTransformAnswer
answers rigid = map (λ (p, q). AnimatedTransform-new rigid p q)

rows_same : (rigid : Bool) (pairs : List (Pose × Pose)) → map AnimatedTransform-to_rows (map (λ x. x.value) (answers rigid pairs)) ≡ map (Pair-rows rigid) pairs
rows_same rigid pairs =
    map-map AnimatedTransform-to_rows (λ x. x.value) (answers rigid pairs)
    ∙ map-map (λ x. AnimatedTransform-to_rows x.value) (λ (p, q). AnimatedTransform-new rigid p q) pairs

abbrev chain_of : Bool → Pose × Pose → List (Pose × Pose) → Chain
chain_of rigid (p, q) pairs = record { first = (AnimatedTransform-new rigid p q).value; rest = map (λ x. x.value) (answers rigid pairs) }

module _ (rigid : Bool) (p q : Pose) (poses : List Pose) (passed : chain_refusal rigid (p ∷ q ∷ poses) ≡ 0) where
  abbrev pairs : List (Pose × Pose)
  pairs = neighbours (q ∷ poses)

  abbrev number : ℕ
  number = stage (Move-number rigid) ((p, q) ∷ pairs)

  new-refused : (number ≡ 0 → ⊥) → Chain-new rigid (p ∷ q ∷ poses) ≡ refused number
  unfolding Chain-new ChainAnswer-from_moves neighbours
  new-refused f = rw (eq-eqb (chain_refusal rigid (p ∷ q ∷ poses)) 0 passed, numbers-same rigid pairs, ne_eqb number 0 f)

  new-built : number ≡ 0 → Chain-new rigid (p ∷ q ∷ poses) ≡ built (chain_of rigid (p, q) pairs)
  unfolding Chain-new ChainAnswer-from_moves neighbours
  new-built z = rw (eq-eqb (chain_refusal rigid (p ∷ q ∷ poses)) 0 passed, numbers-same rigid pairs, eq-eqb number 0 z)

-- ---- the times and pads of built moves are 32-bit floats
same-binary32 : (p p' : Pose) → p.time ≡ p'.time → p.pad ≡ p'.pad → T (Pose-is_binary32 p) → T (Pose-is_binary32 p')
same-binary32 p p' t u b = rw (← t, ← u) b

pair_fits : (rigid : Bool) (p q : Pose) → Pair-Built rigid (p, q) → Move-number rigid (p, q) ≡ 0 → T (Pose-is_binary32 p) × T (Pose-is_binary32 q)
pair_fits rigid p q b z =
    let own = built-kept b in
    let kept = new-kept rigid p q z in (
      same-binary32 b.start p (sym own.start-time ∙ kept.start-time) (sym own.start-pad ∙ kept.start-pad) b.start-binary32,
      same-binary32 b.end q (sym own.end-time ∙ kept.end-time) (sym own.end-pad ∙ kept.end-pad) b.end-binary32,
    )

poses-fit : (rigid : Bool) (p q : Pose) (poses : List Pose) → Each (Pair-Built rigid) (neighbours (p ∷ q ∷ poses))
    → stage (Move-number rigid) (neighbours (p ∷ q ∷ poses)) ≡ 0
    → T (every Pose-is_binary32 (p ∷ q ∷ poses))
unfolding neighbours every
poses-fit rigid p q [] (b, bs) z =
    let (n, _) = first-none (Move-number rigid (p, q)) [] z in
    let (start, end) = pair_fits rigid p q b n in
    and_i (Pose-is_binary32 p) (every Pose-is_binary32 (q ∷ [])) start (and_i (Pose-is_binary32 q) true end tt)
poses-fit rigid p q (r ∷ poses) (b, bs) z =
    let (n, ns) = first-none (Move-number rigid (p, q)) (map (Move-number rigid) (neighbours (q ∷ r ∷ poses))) z in
    and_i (Pose-is_binary32 p) (every Pose-is_binary32 (q ∷ r ∷ poses)) (pair_fits rigid p q b n).0 (poses-fit rigid q r poses bs ns)

-- ---- the clauses
-- n is the number of poses
abbrev pub Clauses : Bool → List Pose → ℕ → List Rows → ℕ → List Rows → Type 0
Clauses rigid poses n old r blocks =
    (r ≡ ChainAnswer-refusal (Chain-new rigid poses))
    × ((blocks ≡ ChainAnswer-left (Chain-new rigid poses) old)
    × ((c : Chain) → Chain-new rigid poses ≡ built c → Moves-Holds (take (n - 1) blocks) c))

refused-clauses : (rigid : Bool) (poses : List Pose) (n : ℕ) (old : List Rows) {r : ℕ}
    → Chain-new rigid poses ≡ refused r → (r ≡ 0 → ⊥) → Clauses rigid poses n old r old
refused-clauses rigid poses n old {r} e f = (
  sym (ap ChainAnswer-refusal e),
  (sym (ap (λ (a : ChainAnswer). ChainAnswer-left a old) e), λ c b. absurd (f (ap ChainAnswer-refusal (sym e ∙ b)))),
)

pub checks-refused : (rigid : Bool) (poses : List Pose) (n : ℕ) (old : List Rows) {r : ℕ}
    → r ≡ chain_refusal rigid poses → (r ≡ 0 → ⊥) → Clauses rigid poses n old r old
unfolding Chain-new
checks-refused rigid poses n old {r} e f = refused-clauses rigid poses n old (rw (← e, ne_eqb r 0 f)) f

pub pair-refused : (rigid : Bool) (poses : List Pose) (n : ℕ) (old : List Rows) {r : ℕ}
    → chain_refusal rigid poses ≡ 0 → r ≡ stage (Move-number rigid) (neighbours poses) → (r ≡ 0 → ⊥)
    → Clauses rigid poses n old r old
unfolding neighbours
pair-refused rigid [] n old z e f = let h = (checks-passed rigid [] z).least in absurd (omega (arith, h))
pair-refused rigid (p ∷ []) n old z e f = let h = (checks-passed rigid (p ∷ []) z).least in absurd (omega (arith, h))
pair-refused rigid (p ∷ q ∷ poses) n old z e f =
    refused-clauses rigid (p ∷ q ∷ poses) n old (new-refused rigid p q poses z (λ k. f (e ∙ k)) ∙ ap refused (sym e)) f

-- The rows of a chain that is built.
rows_of : ChainAnswer → List Rows
rows_of (built c) = Chain-to_rows c
rows_of (refused n) = []

pub all-built : (rigid : Bool) (poses : List Pose) (n : ℕ) (old : List Rows) {blocks : List Rows} → n ≡ length poses
    → chain_refusal rigid poses ≡ 0 → 0 ≡ stage (Move-number rigid) (neighbours poses)
    → blocks ≡ blocks_left (map (Pair-rows rigid) (neighbours poses)) old → Each (Pair-Built rigid) (neighbours poses) → Clauses rigid poses n old 0 blocks
unfolding neighbours rows_of
all-built rigid [] n old l z e w b = let h = (checks-passed rigid [] z).least in absurd (omega (arith, h))
all-built rigid (p ∷ []) n old l z e w b = let h = (checks-passed rigid (p ∷ []) z).least in absurd (omega (arith, h))
all-built rigid (p ∷ q ∷ poses) n old {blocks} l z e w b =
    let pairs = neighbours (q ∷ poses) in
    let rows = map (Pair-rows rigid) ((p, q) ∷ pairs) in
    let new = new-built rigid p q poses z (sym e) in
    let same : rows ≡ Chain-to_rows (chain_of rigid (p, q) pairs) = ap (λ (l : List Rows). Pair-rows rigid (p, q) ∷ l) (sym (rows_same rigid pairs)) in
    let count : n - 1 ≡ length rows = ap (λ (k : ℕ). k - 1) l ∙ (sym (pairs-count (p ∷ q ∷ poses)) ∙ sym (length-map ((p, q) ∷ pairs) (Pair-rows rigid))) in
    let holds : (c : Chain) → Chain-new rigid (p ∷ q ∷ poses) ≡ built c → Moves-Holds (take (n - 1) blocks) c = λ c a. record {
      built = record { rigid = rigid; poses = p ∷ q ∷ poses; poses-binary32 = poses-fit rigid p q poses b (sym e); accepted = a };
      same = rw (w, count) (take-append_seam rows (drop (length rows) old) ∙ (same ∙ ap rows_of (sym new ∙ a)));
    } in (
      sym (ap ChainAnswer-refusal new),
      (w ∙ (ap (λ (l : List Rows). blocks_left l old) same ∙ sym (ap (λ (a : ChainAnswer). ChainAnswer-left a old) new)), holds),
    )
