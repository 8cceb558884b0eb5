-- A file's poses, as far as building goes: their times and pads are binary32 (`poses-binary32`), and their bottom rows are right (`poses-affine`).
use Prim.Native.Nat.{ℕ, ◌+◌}
use mathlib.Core.Path.{◌≡◌}
use mathlib.Core.Bool.{Bool}
use mathlib.Core.List.{List, [], ◌∷◌, ◌++◌}
use native.Mathlib.Omega.{arith}
use lib.Dec.{T}
use lib.Ieee.{Float, binary32, fits, nan, eq, of_bits}
use lib.Ieee.Bits.{is_true}
use lib.Ieee.Fits.{and_i}
use lib.ListN.{length, get_or, get_or-append}
use lib.Seq.{get_or-append-add}
use Rattle.motion_text.specs.matrix4x4.IsAffine.{bottom_row, Matrix4x4-is_affine}
use Rattle.lent_arrays.specs.pose_pair.Pose.{Pose-is_binary32, Pose-is_affine}
use Rattle.chain_build.specs.motion_chain.Chain.{neighbours, every}
use Rattle.lent_arrays.specs.Arrays.{Pose-of_list}
use Rattle.chain_build.specs.chain_poses.Poses.{Poses-of_lists}
use Rattle.motion_text.specs.motion_file.Layout.{has_pads, MoveFile-poses}
use Rattle.motion_text.proofs.motion_file.Shapes.{Shaped, AllShaped, poses-shaped}

-- ---- the times and pads
shaped-binary32 : {padded : Bool} (pose : List Float) → Shaped padded pose → T (Pose-is_binary32 (Pose-of_list pose))
shaped-binary32 pose s =
    let rest = bottom_row ++ (s.pad ∷ []) in
    let time : get_or (s.read ++ rest) 0 nan ≡ get_or s.read 0 nan = get_or-append s.read rest nan 0 (omega (arith, s.thirteen)) in
    let place : (k : ℕ) → get_or (s.read ++ rest) (13 + k) nan ≡ get_or rest k nan = λ k. rw (← s.thirteen) (get_or-append-add s.read rest k nan) in
    let pad : get_or (s.read ++ rest) 17 nan ≡ s.pad = place 4 in
    rw (s.whole, time, pad) (and_i (fits binary32 (get_or s.read 0 nan)) (fits binary32 s.pad) s.time-binary32 s.pad-binary32)

lists-binary32 : (padded : Bool) (lists : List (List Float)) → AllShaped padded lists → T (every Pose-is_binary32 (Poses-of_lists lists))
unfolding every Poses-of_lists
lists-binary32 padded [] h = tt
lists-binary32 padded (pose ∷ lists) (s, h) = rw (is_true (Pose-is_binary32 (Pose-of_list pose)) (shaped-binary32 pose s)) (lists-binary32 padded lists h)

pub poses-binary32 : (bytes : List ℕ) → T (every Pose-is_binary32 (Poses-of_lists (MoveFile-poses bytes)))
poses-binary32 bytes = lists-binary32 (has_pads bytes) (MoveFile-poses bytes) (poses-shaped bytes)

-- ---- the bottom rows

-- what stands behind 13 values is the bottom row
shaped-affine : {padded : Bool} (pose : List Float) → Shaped padded pose → T (Pose-is_affine (Pose-of_list pose))
unfolding Pose-is_affine Matrix4x4-is_affine eq of_bits
shaped-affine pose s =
    let rest = bottom_row ++ (s.pad ∷ []) in
    let place : (k : ℕ) → get_or (s.read ++ rest) (13 + k) nan ≡ get_or rest k nan = λ k. rw (← s.thirteen) (get_or-append-add s.read rest k nan) in
    rw (s.whole, place 0, place 1, place 2, place 3) tt

lists-affine : (padded : Bool) (lists : List (List Float)) → AllShaped padded lists → T (every Pose-is_affine (Poses-of_lists lists))
unfolding every Poses-of_lists
lists-affine padded [] h = tt
lists-affine padded (pose ∷ lists) (s, h) = rw (is_true (Pose-is_affine (Pose-of_list pose)) (shaped-affine pose s)) (lists-affine padded lists h)

pub poses-affine : (bytes : List ℕ) → T (every Pose-is_affine (Poses-of_lists (MoveFile-poses bytes)))
poses-affine bytes = lists-affine (has_pads bytes) (MoveFile-poses bytes) (poses-shaped bytes)
