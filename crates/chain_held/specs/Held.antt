-- What a kept chain holds, whatever the rows: `Moves-held`; the pose at a place, as 18 floats, in an array that had `old`: `Moves-pose_left`. Definitions only.
use Rattle.std.specs.Prelude.{ℕ, false, cond, List, [], eqb, ltb, length, get_or, Float}
use Rattle.chain_rows.specs.matrix4x4.Rows.{Rows, positive_zero}
use Rattle.chain_rows.specs.motion_chain.Chain.{Chain}
use Rattle.chain_rows.specs.motion_chain.MoveAt.{Chain-last}
use Rattle.kept_poses.specs.built_poses.Poses.{Chain-poses, Chain-is_rigid, Poses-lists}
use Rattle.chain_rows.specs.Kept.{Moves-chain}
use Rattle.chain_held.specs.declared.ChainHeld.{ChainHeld}

-- the number of a chain's poses, the times of its first and its last, its kind
unfoldable pub Chain-held : Chain → ChainHeld
Chain-held c =
    record { poses = length (Chain-poses c); first = c.first.start_time; last = (Chain-last c).end_time; rigid = Chain-is_rigid c; refusal = 0 }

-- no moves are no chain: 12
unfoldable pub Moves-held : List Rows → ChainHeld
Moves-held rows =
    cond (eqb (length rows) 0)
    (record { poses = 0; first = positive_zero; last = positive_zero; rigid = false; refusal = 12 })
    (Chain-held (Moves-chain rows))

-- of so many moves, which have one pose more; document 02, "Trying a pose first": "Places count from 0; one beyond the last pose is 19"
abbrev pub pose_refusal : ℕ → ℕ → ℕ
pose_refusal count place = cond (eqb count 0) 12 (cond (ltb count place) 19 0)

abbrev pub Moves-pose_refusal : List Rows → ℕ → ℕ
Moves-pose_refusal rows place = pose_refusal (length rows) place

unfoldable pub Moves-pose_left : List Rows → ℕ → List Float → List Float
Moves-pose_left rows place old = cond (eqb (Moves-pose_refusal rows place) 0) (get_or (Poses-lists (Chain-poses (Moves-chain rows))) place []) old
