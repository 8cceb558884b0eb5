-- A trial of the rows of a built chain is the chain's, `kept-try`: the moves beside the place are those of the changed chain, and the others
-- are kept in it (`changed-beside`). So an accepted trial is the cover of a built chain, which holds its motion: `kept-trial-contains`.
use Prim.Native.Nat.{ℕ, ◌+◌, ◌-◌, ◌≤◌, ◌<◌}
use mathlib.Core.Path.{◌≡◌, refl, sym, ap, ◌∙◌}
use mathlib.Core.Bool.{Bool, true, false}
use mathlib.Core.List.{List, [], ◌∷◌, map}
use native.Mathlib.Omega.{arith}
use borrow.Author.Tests.{ne_eqb, ltb-true, ltb-false, lt-ltb, le-ltb, le-leb, lt-leb}
use lib.Dec.{ltb}
use lib.ListN.{length, length-map}
use lib.Seq.{sets}
use Rattle.transform.specs.matrix4x4.Rows.{Rows}
use Rattle.bounds3.specs.declared.Bounds3f.{Bounds3f}
use Rattle.transform.specs.declared.BoundsAnswer.{BoundsAnswer}
use Rattle.transform.specs.Answer.{BoundsAnswer-refusal, BoundsAnswer-bounds}
use Rattle.changed_chain.specs.pose_pair.declared.Pose.{Pose}
use Rattle.changed_chain.specs.animated_transform.declared.AnimatedTransform.{AnimatedTransform}
use Rattle.kept_poses.specs.motion_rows.Rows.{AnimatedTransform-to_rows}
use Rattle.changed_chain.specs.motion_chain.Chain.{Chain, Chain-moves, ChainAnswer, built, refused, Chain-new, Chain-cover}
use Rattle.changed_chain.proofs.motion_chain.Built.{built-moves}
use Rattle.changed_chain.proofs.motion_chain.Cover.{chain-contains}
use Rattle.changed_chain.proofs.motion_chain.Times.{chain-contains-times}
use Rattle.changed_chain.specs.built_poses.Poses.{AnimatedTransform-end_pose, Chain-poses, Chain-is_rigid}
use Rattle.chain_build.specs.chain_rows.Kept.{Chain-to_rows, Moves-chain}
use Rattle.chain_build.specs.chain_rows.Theorem.{Moves-Holds}
use Rattle.chain_build.proofs.chain_rows.Kept.{kept-chain, kept-cover}
use Rattle.changed_chain.specs.Trial.{Chain-changed, ChainAnswer-cover_at, Chain-try}
use Rattle.changed_chain.specs.Beside.{Chain-beside, Chain-new_beside, BuiltOf, ChangedBeside}
use Rattle.changed_chain.proofs.Window.{map-sets}
use Rattle.changed_chain.proofs.Changed.{changed-beside, changed-built}
use Rattle.trial_blocks.specs.Place.{place_refusal}
use Rattle.chain_trial.specs.Try.{poses_in, Moves-cover_beside, Moves-try, Moves-change_refusal}
use Rattle.chain_trial.specs.Theorem.{ChangedContainsMotion, TrialContainsMotion}
use Rattle.chain_trial.specs.means.Blocks.{NewMoves}
use Rattle.chain_trial.proofs.Try.{place-passed, change-place}

poses-count : (c : Chain) → length (Chain-poses c) ≡ length (Chain-moves c) + 1
unfolding Chain-poses
poses-count c = let n = length-map (Chain-moves c) AnimatedTransform-end_pose in omega (arith, n)

module _ (rows : List Rows) (c : Chain) (holds : Moves-Holds rows c) (place : ℕ) (p : Pose) where
  rows-count : length rows ≡ length (Chain-moves c)
  rows-count = ap length holds.same ∙ length-map (Chain-moves c) AnimatedTransform-to_rows

  own-chain : Moves-chain rows ≡ c
  own-chain = kept-chain rows c holds.same

  few : length rows < 32
  few = let n = rows-count in let k = (built-moves holds.built).count in omega (arith, n, k)

  -- ---- the place
  own-count : poses_in rows ≡ length (Chain-poses c)
  unfolding poses_in
  own-count =
      let n = rows-count in
      let k = poses-count c in
      rw (ne_eqb (length rows) 0 (λ e. absurd (omega (arith, n, e)))) (omega (arith, n, k))

  place_inside : place_refusal (poses_in rows) place ≡ 0 → place < length (Chain-poses c)
  place_inside z =
      let n = rows-count in
      let k = poses-count c in
      let h = (place-passed rows place z).inside in
      omega (arith, n, k, h)

  inside-judged : place < length (Chain-poses c) → place_refusal (poses_in rows) place ≡ 0
  inside-judged h =
      let n = rows-count in
      let k = poses-count c in
      let f = few in
      rw (own-count, lt-leb (length (Chain-poses c)) place h, le-ltb 32 (length (Chain-poses c)) (omega (arith, n, k, f)))

  beyond-judged : length (Chain-poses c) ≤ place → place_refusal (poses_in rows) place ≡ 19
  beyond-judged h = rw (own-count, le-leb (length (Chain-poses c)) place h)

  -- ---- the rows of the changed chain
  module _ (inside : place < length (Chain-poses c)) where
    changed : ChangedBeside c place p
    changed = changed-beside holds.built.rigid c holds.built.poses holds.built.accepted place p inside

    rows-changed : (d e : Chain) → Chain-moves e ≡ sets (Chain-moves c) (place - 1) (Chain-moves d) → sets rows (place - 1) (Chain-to_rows d) ≡ Chain-to_rows e
    rows-changed d e same =
        ap (λ (l : List Rows). sets l (place - 1) (Chain-to_rows d)) holds.same
        ∙ (sym (map-sets AnimatedTransform-to_rows (Chain-moves c) (place - 1) (Chain-moves d)) ∙ ap (map AnimatedTransform-to_rows) (sym same))

    beside-cover : (b : Bounds3f) (depth : ℕ) (a : ChainAnswer) → Chain-new_beside c place p ≡ a
        → Moves-cover_beside rows place b depth a ≡ ChainAnswer-cover_at (Chain-changed c place p) b depth
    beside-cover b depth (built d) s =
        let new = changed.built-beside d s in
        rw new.is-built
        (kept-cover (sets rows (place - 1) (Chain-to_rows d)) new.chain b depth (rows-changed d new.chain new.same-moves))
    beside-cover b depth (refused n) s = rw (changed.refused-beside n s)

  -- ---- the law
  try-inside : (b : Bounds3f) (depth : ℕ) → place < length (Chain-poses c) → Moves-try rows place p b depth ≡ Chain-try c place p b depth
  unfolding Moves-try Chain-try
  try-inside b depth inside =
      rw (lt-ltb place (length (Chain-poses c)) inside, inside-judged inside, own-chain) (beside-cover inside b depth (Chain-new_beside c place p) refl)

  try-beyond : (b : Bounds3f) (depth : ℕ) → length (Chain-poses c) ≤ place → Moves-try rows place p b depth ≡ Chain-try c place p b depth
  unfolding Moves-try Chain-try
  try-beyond b depth h = rw (le-ltb place (length (Chain-poses c)) h, beyond-judged h)

  pub kept-try : (b : Bounds3f) (depth : ℕ) → Moves-try rows place p b depth ≡ Chain-try c place p b depth
  kept-try b depth = go (ltb place (length (Chain-poses c))) refl
    where
      go : (s : Bool) → ltb place (length (Chain-poses c)) ≡ s → Moves-try rows place p b depth ≡ Chain-try c place p b depth
      go true e = try-inside b depth (ltb-true place (length (Chain-poses c)) e)
      go false e = try-beyond b depth (ltb-false place (length (Chain-poses c)) e)

  shown : (b : Bounds3f) (depth : ℕ) → place < length (Chain-poses c) → (e : Chain) → Chain-changed c place p ≡ built e
      → Chain-try c place p b depth ≡ Chain-cover e b depth
  unfolding Chain-try
  shown b depth inside e s = rw (lt-ltb place (length (Chain-poses c)) inside, s)

  -- ---- the guarantee
  pub kept-trial-contains : (b : Bounds3f) (depth : ℕ) {r : BoundsAnswer} {blocks : List Rows} → Moves-change_refusal rows place p ≡ 0
      → NewMoves (Chain-is_rigid (Moves-chain rows)) (Chain-beside (Moves-chain rows) place p) blocks → r ≡ Moves-try rows place p b depth
      → BoundsAnswer-refusal r ≡ 0 → ChangedContainsMotion c place p b (BoundsAnswer-bounds r)
  kept-trial-contains b depth {r} {blocks} z new same none =
      let judged = change-place rows place p z in
      let inside = place_inside judged in
      let accepted : Chain-new_beside c place p ≡ built new.chain = rw (← own-chain) new.accepted in
      let after = (changed inside).built-beside new.chain accepted in
      let e = after.chain in
      let own = changed-built holds.built.rigid c holds.built.poses holds.built.accepted place p inside new.chain e new.is-built accepted
      holds.built.poses-binary32 after.is-built in
      let cover : r ≡ Chain-cover e b depth = same ∙ (kept-try b depth ∙ shown b depth inside e after.is-built) in
      let number : BoundsAnswer-refusal (Chain-cover e b depth) ≡ 0 = ap BoundsAnswer-refusal (sym cover) ∙ none in
      record {
        chain = e;
        changed = after.is-built;
        is-built = own;
        at-time = λ time q nan i. rw cover (chain-contains e b depth time q own number nan i);
        at-times = λ times q numbers rises i. rw cover (chain-contains-times e b depth times q own number numbers rises i);
      }

-- The clauses of a trial, from its value.
pub trial-clauses : (rows : List Rows) (place : ℕ) (p : Pose) (b : Bounds3f) (depth : ℕ) {r : BoundsAnswer} → r ≡ Moves-try rows place p b depth
    → (BoundsAnswer-refusal r ≡ 0 → TrialContainsMotion rows place p b (BoundsAnswer-bounds r))
    → (r ≡ Moves-try rows place p b depth) × (((c : Chain) → Moves-Holds rows c → r ≡ Chain-try c place p b depth)
    × (BoundsAnswer-refusal r ≡ 0 → TrialContainsMotion rows place p b (BoundsAnswer-bounds r)))
trial-clauses rows place p b depth value contains = (value, (λ c holds. value ∙ kept-try rows c holds place p b depth, contains))
