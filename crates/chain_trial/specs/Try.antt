-- A trial of a kept chain, whatever the rows: `Moves-try`. The moves beside the place are built anew, the others are asked as they are kept;
-- of the rows of a built chain this is `Chain-try` (`kept-try`). Definitions only.
use Rattle.std.specs.Prelude.{ℕ, ◌+◌, ◌-◌, cond, List, eqb, length}
use Rattle.std.proofs.lemmas.List.Edits.{sets}
use Rattle.transform.specs.matrix4x4.Rows.{Rows}
use Rattle.bounds3.specs.declared.Bounds3f.{Bounds3f}
use Rattle.transform.specs.declared.BoundsAnswer.{BoundsAnswer}
use Rattle.transform.specs.declared.BoundsAnswer.TheVariants.{Refused}
use Rattle.changed_chain.specs.pose_pair.declared.Pose.{Pose}
use Rattle.changed_chain.specs.motion_chain.Chain.{ChainAnswer, built, refused, ChainAnswer-refusal}
use Rattle.chain_build.specs.chain_rows.Kept.{Chain-to_rows, Moves-chain, Moves-cover}
use Rattle.changed_chain.specs.Beside.{Chain-new_beside}
use Rattle.trial_blocks.specs.Place.{place_refusal}

-- n moves have n + 1 poses, and no moves have none
unfoldable pub poses_in : List Rows → ℕ
poses_in rows = cond (eqb (length rows) 0) 0 (length rows + 1)

-- the new moves in place of those beside the place, asked with the others; or the number that building them is refused with
abbrev pub Moves-cover_beside : List Rows → ℕ → Bounds3f → ℕ → ChainAnswer → BoundsAnswer
Moves-cover_beside rows place b depth (built d) = Moves-cover (sets rows (place - 1) (Chain-to_rows d)) b depth
Moves-cover_beside rows place b depth (refused n) = Refused n

unfoldable pub Moves-try : List Rows → ℕ → Pose → Bounds3f → ℕ → BoundsAnswer
Moves-try rows place p b depth =
    let n = place_refusal (poses_in rows) place in
    cond (eqb n 0) (Moves-cover_beside rows place b depth (Chain-new_beside (Moves-chain rows) place p)) (Refused n)

-- what the change alone is refused with
unfoldable pub Moves-change_refusal : List Rows → ℕ → Pose → ℕ
Moves-change_refusal rows place p =
    let n = place_refusal (poses_in rows) place in
    cond (eqb n 0) (ChainAnswer-refusal (Chain-new_beside (Moves-chain rows) place p)) n
