-- Lent poses as loops go over them: the poses from place i on, `poses-next`, `poses-end`; the neighbouring pairs from the one whose second pose is at
-- place i, `pairs_next`, `pairs_end`, of which there is one fewer than poses, `pairs-count`.
use Prim.Native.Nat.{ℕ, zero, suc, ◌+◌, ◌-◌, ◌≤◌, ◌<◌}
use mathlib.Core.Path.{◌≡◌, refl}
use mathlib.Core.List.{List, [], ◌∷◌}
use native.Mathlib.Omega.{arith}
use lib.ListN.{length, get_or, drop, drop_of_length-le, length-map, get_or-map}
use lib.Seq.{drop-cons}
use lib.Ieee.{Float}
use Rattle.pose_pair.specs.declared.Pose.{Pose}
use Rattle.lent_arrays.specs.Arrays.{Pose-of_list}
use Rattle.motion_chain.specs.Chain.{neighbours}
use Rattle.chain_poses.specs.Poses.{Poses-of_lists, Poses-pair_at}

-- ---- lists of poses
pub poses-length : (lists : List (List Float)) → length (Poses-of_lists lists) ≡ length lists
unfolding Poses-of_lists
poses-length lists = length-map lists Pose-of_list

poses-at : (lists : List (List Float)) (i : ℕ) → get_or (Poses-of_lists lists) i (Pose-of_list []) ≡ Pose-of_list (get_or lists i [])
unfolding Poses-of_lists
poses-at lists i = get_or-map Pose-of_list lists i []

-- ---- every pose
abbrev pub poses_from : List (List Float) → ℕ → List Pose
poses_from lists i = drop i (Poses-of_lists lists)

module _ (lists : List (List Float)) (i : ℕ) where
  pub poses-next : i < length lists → poses_from lists i ≡ Pose-of_list (get_or lists i []) ∷ poses_from lists (i + 1)
  poses-next h =
      let n = poses-length lists in
      let e : i + 1 ≡ suc i = omega arith in
      rw (e, ← poses-at lists i) (drop-cons (Poses-of_lists lists) i (Pose-of_list []) (omega (arith, h, n)))

  pub poses-end : length lists ≤ i → poses_from lists i ≡ []
  poses-end h = let n = poses-length lists in drop_of_length-le (Poses-of_lists lists) {i = i} (omega (arith, h, n))

-- ---- every neighbouring pair: the loop's i is the place of the pair's second pose
abbrev pub pairs_from : List (List Float) → ℕ → List (Pose × Pose)
pairs_from lists i = neighbours (drop (i - 1) (Poses-of_lists lists))

pairs_of : (poses : List Pose) (i : ℕ) (d : Pose) → suc i < length poses
    → neighbours (drop i poses) ≡ (get_or poses i d, get_or poses (suc i) d) ∷ neighbours (drop (suc i) poses)
unfolding neighbours
pairs_of [] i d h = absurd (omega (arith, h))
pairs_of (p ∷ []) i d h = absurd (omega (arith, h))
pairs_of (p ∷ q ∷ poses) zero d h = refl
pairs_of (p ∷ q ∷ poses) (suc i) d h = pairs_of (q ∷ poses) i d (omega (arith, h))

few-pairs : (poses : List Pose) (i : ℕ) → length poses ≤ suc i → neighbours (drop i poses) ≡ []
unfolding neighbours
few-pairs [] zero h = refl
few-pairs [] (suc i) h = refl
few-pairs (p ∷ []) zero h = refl
few-pairs (p ∷ []) (suc zero) h = refl
few-pairs (p ∷ []) (suc (suc i)) h = refl
few-pairs (p ∷ q ∷ poses) zero h = absurd (omega (arith, h))
few-pairs (p ∷ q ∷ poses) (suc i) h = few-pairs (q ∷ poses) i (omega (arith, h))

module _ (lists : List (List Float)) (i : ℕ) where
  pub pairs_next : 1 ≤ i → i < length lists → pairs_from lists i ≡ Poses-pair_at lists (i - 1) ∷ pairs_from lists (i + 1)
  pairs_next l h =
      let n = poses-length lists in
      let e : i + 1 - 1 ≡ suc (i - 1) = omega (arith, l) in
      let f : i - 1 + 1 ≡ suc (i - 1) = omega (arith, l) in
      rw (e, f, ← poses-at lists (i - 1), ← poses-at lists (suc (i - 1))) (pairs_of (Poses-of_lists lists) (i - 1) (Pose-of_list []) (omega (arith, l, h, n)))

  pub pairs_end : 1 ≤ i → length lists ≤ i → pairs_from lists i ≡ []
  pairs_end l h = let n = poses-length lists in few-pairs (Poses-of_lists lists) (i - 1) (omega (arith, l, h, n))

pub pairs-count : (poses : List Pose) → length (neighbours poses) ≡ length poses - 1
unfolding neighbours
pairs-count [] = refl
pairs-count (p ∷ []) = refl
pairs-count (p ∷ q ∷ poses) = let h = pairs-count (q ∷ poses) in omega (arith, h)
