-- A trial in the ways that the code comes by it: refused, `refused-try`, or a cover, `cover-try`. What passing the first numbers tells of the place:
-- `place-passed`. A trial whose number is 0 is a box: `try-answered`.
use Prim.Native.Nat.{ℕ, ◌+◌, ◌-◌, ◌≤◌, ◌<◌}
use mathlib.Core.Path.{◌≡◌, refl, sym, ap, ◌∙◌}
use mathlib.Core.Bool.{Bool, true, false, cond}
use mathlib.Core.List.{List, [], ◌∷◌, map}
use native.Mathlib.Omega.{arith}
use borrow.Author.Tests.{eq-eqb, ne_eqb, eqb-true, eqb-false, ltb-false, leb-false}
use lib.Dec.{eqb, ltb, leb}
use lib.ListN.{length}
use lib.Seq.{sets, length-sets}
use Rattle.transform.specs.matrix4x4.Rows.{Rows}
use Rattle.bounds3.specs.declared.Bounds3f.{Bounds3f}
use Rattle.transform.specs.declared.BoundsAnswer.{BoundsAnswer}
use Rattle.transform.specs.declared.BoundsAnswer.TheVariants.{Bounds, Refused}
use Rattle.transform.specs.Answer.{BoundsAnswer-refusal, BoundsAnswer-bounds}
use Rattle.changed_chain.specs.pose_pair.declared.Pose.{Pose}
use Rattle.changed_chain.specs.animated_transform.declared.AnimatedTransform.{AnimatedTransform}
use Rattle.bounds_query.specs.Query.{cover_refusal}
use Rattle.changed_chain.specs.motion_cover.Cover.{AnimatedTransform-cover}
use Rattle.changed_chain.proofs.bounds_answers.UnionAll.{union-all-refused}
use Rattle.changed_chain.specs.motion_chain.Chain.{Chain, ChainAnswer, built, refused, ChainAnswer-refusal, Chain-new, union_covers, Chain-cover}
use Rattle.changed_chain.specs.built_poses.Poses.{Chain-is_rigid}
use Rattle.chain_build.specs.chain_rows.Kept.{Chain-to_rows, Moves-chain, Moves-cover}
use Rattle.chain_build.proofs.chain_rows.Contains.{cover-answered}
use Rattle.changed_chain.specs.Beside.{Chain-beside}
use Rattle.changed_chain.proofs.Changed.{new_none}
use Rattle.trial_blocks.specs.Place.{place_refusal}
use Rattle.trial_blocks.specs.Blocks.{beside_blocks, changed_moves}
use Rattle.chain_trial.specs.Try.{poses_in, Moves-cover_beside, Moves-try, Moves-change_refusal}
use Rattle.chain_trial.specs.means.Blocks.{NewMoves}
use Rattle.chain_trial.proofs.Beside.{beside-taken}

-- ---- the place
pub record PlacePassed (rows : List Rows) (place : ℕ) : Type 0 where
  pub some : 0 < length rows
  pub inside : place ≤ length rows
  pub few : length rows ≤ 31

pub place-passed : (rows : List Rows) (place : ℕ) → place_refusal (poses_in rows) place ≡ 0 → PlacePassed rows place
unfolding poses_in
place-passed rows place = go (eqb n 0) (eqb-false n 0)
  where
    n : ℕ
    n = length rows

    judged : (k : ℕ) → place_refusal k place ≡ 0 → (place < k) × (k ≤ 32)
    judged k = choose (leb k place) (leb-false k place) (ltb 32 k) (ltb-false 32 k)
      where
        choose : (s : Bool) → (s ≡ false → place < k) → (t : Bool) → (t ≡ false → k ≤ 32) → ◌≡◌ {A = ℕ} (cond s 19 (cond t 12 0)) 0 → (place < k) × (k ≤ 32)
        choose true f t g e = absurd (omega (arith, e))
        choose false f true g e = absurd (omega (arith, e))
        choose false f false g e = (f refl, g refl)

    go : (s : Bool) → (s ≡ false → n ≡ 0 → ⊥) → place_refusal (cond s 0 (n + 1)) place ≡ 0 → PlacePassed rows place
    go true f e = let (h, _) = judged 0 e in absurd (omega (arith, h))
    go false f e =
        let (h, k) = judged (n + 1) e in
        let z = f refl in
        record { some = omega (arith, z); inside = omega (arith, h); few = omega (arith, k) }

-- ---- a cover that the query refuses
move-refused : (m : AnimatedTransform) (b : Bounds3f) (depth : ℕ) → (cover_refusal b depth ≡ 0 → ⊥)
    → AnimatedTransform-cover m b depth ≡ Refused (cover_refusal b depth)
unfolding AnimatedTransform-cover
move-refused m b depth f = rw (ne_eqb (cover_refusal b depth) 0 f)

rows-refused : (rows : List Rows) (b : Bounds3f) (depth : ℕ) → 0 < length rows
    → (cover_refusal b depth ≡ 0 → ⊥) → Moves-cover rows b depth ≡ Refused (cover_refusal b depth)
unfolding Moves-cover Chain-cover union_covers
rows-refused rows b depth some f =
    let c = Moves-chain rows in
    rw (ne_eqb (length rows) 0 (λ e. absurd (omega (arith, some, e))), move-refused c.first b depth f)
    (union-all-refused (cover_refusal b depth) (map (λ m. AnimatedTransform-cover m b depth) c.rest))

-- ---- the numbers
module _ (rows : List Rows) (place : ℕ) (p : Pose) where
  abbrev judged : ℕ
  judged = place_refusal (poses_in rows) place

  abbrev rigid : Bool
  rigid = Chain-is_rigid (Moves-chain rows)

  abbrev poses : List Pose
  poses = Chain-beside (Moves-chain rows) place p

  pub place-refused : {r : ℕ} → r ≡ judged → (r ≡ 0 → ⊥) → r ≡ Moves-change_refusal rows place p
  unfolding Moves-change_refusal
  place-refused {r} e f = rw (← e, ne_eqb r 0 f)

  pub place-accepted : judged ≡ 0 → Moves-change_refusal rows place p ≡ ChainAnswer-refusal (Chain-new rigid poses)
  unfolding Moves-change_refusal
  place-accepted z = rw (eq-eqb judged 0 z)

  -- a change that isn't refused has a place
  pub change-place : Moves-change_refusal rows place p ≡ 0 → judged ≡ 0
  change-place z = go (eqb judged 0) refl
    where
      go : (s : Bool) → eqb judged 0 ≡ s → judged ≡ 0
      go true e = eqb-true judged 0 e
      go false e = place-refused refl (eqb-false judged 0 e) ∙ z

  module _ (b : Bounds3f) (depth : ℕ) where
    place-number : (judged ≡ 0 → ⊥) → Moves-try rows place p b depth ≡ Refused judged
    unfolding Moves-try
    place-number f = rw (ne_eqb judged 0 f)

    place-cover : judged ≡ 0 → Moves-try rows place p b depth ≡ Moves-cover_beside rows place b depth (Chain-new rigid poses)
    unfolding Moves-try
    place-cover z = rw (eq-eqb judged 0 z)

    beside-refused : (a : ChainAnswer) → (ChainAnswer-refusal a ≡ 0 → ⊥) → Moves-cover_beside rows place b depth a ≡ Refused (ChainAnswer-refusal a)
    beside-refused (built d) f = absurd (f refl)
    beside-refused (refused n) f = refl

    change-refused : (Moves-change_refusal rows place p ≡ 0 → ⊥) → Moves-try rows place p b depth ≡ Refused (Moves-change_refusal rows place p)
    change-refused f = go (eqb judged 0) refl
      where
        go : (s : Bool) → eqb judged 0 ≡ s → Moves-try rows place p b depth ≡ Refused (Moves-change_refusal rows place p)
        go true e =
            let same = place-accepted (eqb-true judged 0 e) in
            place-cover (eqb-true judged 0 e) ∙ (beside-refused (Chain-new rigid poses) (λ z. f (same ∙ z)) ∙ ap Refused (sym same))
        go false e = let g = eqb-false judged 0 e in place-number g ∙ ap Refused (place-refused refl g)

    query-refused : Moves-change_refusal rows place p ≡ 0 → (cover_refusal b depth ≡ 0 → ⊥) → Moves-try rows place p b depth ≡ Refused (cover_refusal b depth)
    query-refused z f =
        let none = change-place z in
        let new = new_none rigid poses (sym (place-accepted none) ∙ z) in
        let blocks = sets rows (place - 1) (Chain-to_rows new.chain) in
        let some = (place-passed rows place none).some in
        let n = length-sets rows (place - 1) (Chain-to_rows new.chain) in
        place-cover none ∙ (ap (Moves-cover_beside rows place b depth) new.is-built ∙ rows-refused blocks b depth (omega (arith, n, some)) f)

    pub refused-try : (changed asked : ℕ) {r : ℕ} → changed ≡ Moves-change_refusal rows place p
        → asked ≡ cover_refusal b depth → r ≡ cond (eqb changed 0) asked changed → (r ≡ 0 → ⊥)
        → Refused r ≡ Moves-try rows place p b depth
    refused-try changed asked {r} ec ea er f = go (eqb changed 0) (eqb-true changed 0) (eqb-false changed 0) er
      where
        go : (s : Bool) → (s ≡ true → changed ≡ 0) → (s ≡ false → changed ≡ 0 → ⊥) → r ≡ cond s asked changed → Refused r ≡ Moves-try rows place p b depth
        go true t u e = ap Refused (e ∙ ea) ∙ sym (query-refused (sym ec ∙ t refl) (λ z. f (e ∙ (ea ∙ z))))
        go false t u e = ap Refused (e ∙ ec) ∙ sym (change-refused (λ z. u refl (ec ∙ z)))

    -- both numbers of a trial that is not refused are 0
    pub none-refused : (changed asked : ℕ) {r : ℕ} → r ≡ cond (eqb changed 0) asked changed → r ≡ 0 → changed ≡ 0
    none-refused changed asked {r} er z = go (eqb changed 0) (eqb-true changed 0) er
      where
        go : (s : Bool) → (s ≡ true → changed ≡ 0) → r ≡ cond s asked changed → changed ≡ 0
        go true t e = t refl
        go false t e = sym e ∙ z

    pub cover-try : {cover : BoundsAnswer} {blocks : List Rows} → Moves-change_refusal rows place p ≡ 0 → NewMoves rigid poses blocks
        → length blocks ≡ 31 → cover ≡ Moves-cover (changed_moves rows place blocks) b depth → cover ≡ Moves-try rows place p b depth
    cover-try {cover} {blocks} z new size e =
        let none = change-place z in
        let passed = place-passed rows place none in
        let same : beside_blocks (length rows) place blocks ≡ Chain-to_rows new.chain =
        beside-taken rows p passed.some place passed.inside blocks size ∙ new.rows in
        e ∙ (ap (λ (l : List Rows). Moves-cover (sets rows (place - 1) l) b depth) same
        ∙ (sym (ap (Moves-cover_beside rows place b depth) new.accepted) ∙ sym (place-cover none)))

    -- a trial whose number is 0 is a box
    pub try-answered : BoundsAnswer-refusal (Moves-try rows place p b depth) ≡ 0
        → Moves-try rows place p b depth ≡ Bounds (BoundsAnswer-bounds (Moves-try rows place p b depth))
    try-answered e = go (eqb (Moves-change_refusal rows place p) 0) refl
      where
        go : (s : Bool) → eqb (Moves-change_refusal rows place p) 0 ≡ s
            → Moves-try rows place p b depth ≡ Bounds (BoundsAnswer-bounds (Moves-try rows place p b depth))
        go false s =
            let f = eqb-false (Moves-change_refusal rows place p) 0 s in
            absurd (f (sym (ap BoundsAnswer-refusal (change-refused f)) ∙ e))
        go true s =
            let z = eqb-true (Moves-change_refusal rows place p) 0 s in
            let none = change-place z in
            let new = new_none rigid poses (sym (place-accepted none) ∙ z) in
            let same = place-cover none ∙ ap (Moves-cover_beside rows place b depth) new.is-built in
            rw same (cover-answered (sets rows (place - 1) (Chain-to_rows new.chain)) b depth (ap BoundsAnswer-refusal (sym same) ∙ e))
