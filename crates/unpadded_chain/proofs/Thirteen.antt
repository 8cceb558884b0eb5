-- A file with the old thirteen names has pads of +0: `thirteen-unpadded`.
use Prim.Native.Nat.{ℕ, ◌+◌}
use mathlib.Core.Path.{◌≡◌, refl, ◌∙◌}
use mathlib.Core.Bool.{Bool, true, false, not}
use mathlib.Core.List.{List, [], ◌∷◌, ◌++◌}
use lib.Dec.{T}
use lib.Ieee.{Float, nan}
use lib.ListN.{get_or}
use lib.Seq.{get_or-append-add}
use Rattle.unpadded_cover.specs.float32.Operators.{positive_zero}
use Rattle.unpadded_cover.specs.matrix4x4.IsAffine.{bottom_row}
use Rattle.unpadded_cover.specs.pose_pair.declared.Pose.{Pose}
use Rattle.built_poses.specs.lent_arrays.Arrays.{Pose-of_list}
use Rattle.built_poses.specs.chain_poses.Poses.{Poses-of_lists}
use Rattle.motion_answer.specs.motion_file.Layout.{has_pads, MoveFile-poses}
use Rattle.motion_answer.proofs.motion_file.Shapes.{Shaped, AllShaped, poses-shaped}
use Rattle.unpadded_chain.specs.Unpadded.{Unpadded, ThirteenUnpadded}

shaped-unpadded : {padded : Bool} → padded ≡ false → (pose : List Float) → Shaped padded pose → (Pose-of_list pose).pad ≡ positive_zero
shaped-unpadded old pose s =
    let rest = bottom_row ++ (s.pad ∷ []) in
    let place : (k : ℕ) → get_or (s.read ++ rest) (13 + k) nan ≡ get_or rest k nan = λ k. rw (← s.thirteen) (get_or-append-add s.read rest k nan) in
    let pad : get_or (s.read ++ rest) 17 nan ≡ s.pad = place 4 in
    rw (s.whole, pad) (s.pad-unread old)

lists-unpadded : (padded : Bool) → padded ≡ false → (lists : List (List Float)) → AllShaped padded lists → Unpadded (Poses-of_lists lists)
unfolding Poses-of_lists
lists-unpadded padded old [] h = tt
lists-unpadded padded old (pose ∷ lists) (s, h) = (shaped-unpadded old pose s, lists-unpadded padded old lists h)

pub thirteen-unpadded : (bytes : List ℕ) → ThirteenUnpadded bytes
thirteen-unpadded bytes t = lists-unpadded (has_pads bytes) (is_false (has_pads bytes) t) (MoveFile-poses bytes) (poses-shaped bytes)
  where
    is_false : (b : Bool) → T (not b) → b ≡ false
    is_false true e = absurd e
    is_false false e = refl
