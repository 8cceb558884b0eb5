-- The poses in a chain: `Chain-poses`, each from the time, the matrix and the pad that a move stores; `Poses-lists`, poses as 18 floats each. A built chain's
-- are those that it was built from: `BuiltPoses` and `BuiltLists`, the statements of `built-poses` and `built-lists`; each move's are a neighbouring pair:
-- `BuiltPairs`, that of `built-pairs`; and its kind is the one that it was built in: `BuiltKind`, that of `built-kind`.
use Rattle.std.specs.Prelude.{ℕ, ◌≡◌, Bool, List, [], ◌∷◌, ◌++◌, map, length, Float}
use Rattle.chain_poses.specs.pose_pair.declared.Pose.{Pose}
use Rattle.chain_poses.specs.animated_transform.declared.AnimatedTransform.{AnimatedTransform}
use Rattle.chain_poses.specs.motion_chain.Chain.{neighbours, Chain, Chain-moves, built, Chain-new}
use Rattle.chain_poses.specs.motion_chain.Built.{Each}
use Rattle.chain_poses.specs.Poses.{Poses-of_lists}

abbrev pub AnimatedTransform-start_pose : AnimatedTransform → Pose
AnimatedTransform-start_pose a = record { time = a.start_time; m = a.start_transform.m; pad = a.pad0 }

abbrev pub AnimatedTransform-end_pose : AnimatedTransform → Pose
AnimatedTransform-end_pose a = record { time = a.end_time; m = a.end_transform.m; pad = a.pad1 }

-- the first move's start, then each move's end
unfoldable pub Chain-poses : Chain → List Pose
Chain-poses c = AnimatedTransform-start_pose c.first ∷ map AnimatedTransform-end_pose (Chain-moves c)

-- the kind that each of its moves has
abbrev pub Chain-is_rigid : Chain → Bool
Chain-is_rigid c = c.first.rigid

-- a pose as 18 floats: its time, its matrix row by row, its pad
abbrev pub places_per_pose : ℕ
places_per_pose = 18

abbrev pub Pose-list : Pose → List Float
Pose-list p = p.time ∷ (p.m.r0 ++ (p.m.r1 ++ (p.m.r2 ++ (p.m.r3 ++ (p.pad ∷ [])))))

unfoldable pub Poses-lists : List Pose → List (List Float)
Poses-lists poses = map Pose-list poses

-- ---- of a built chain: no bit of its poses is lost, nor its kind

abbrev pub BuiltPoses : Bool → List Pose → Type 0
BuiltPoses rigid poses = (c : Chain) → Chain-new rigid poses ≡ built c → Chain-poses c ≡ poses

abbrev pub BuiltPairs : Bool → List Pose → Type 0
BuiltPairs rigid poses =
    (c : Chain) → Chain-new rigid poses ≡ built c → map (λ m. (AnimatedTransform-start_pose m, AnimatedTransform-end_pose m)) (Chain-moves c) ≡ neighbours poses

abbrev pub BuiltKind : Bool → List Pose → Type 0
BuiltKind rigid poses = (c : Chain) → Chain-new rigid poses ≡ built c → Chain-is_rigid c ≡ rigid

-- the same of poses in a lent array
abbrev pub BuiltLists : Bool → List (List Float) → Type 0
BuiltLists rigid lists =
    (c : Chain) → Each (λ l. length l ≡ places_per_pose) lists → Chain-new rigid (Poses-of_lists lists) ≡ built c
    → Poses-lists (Chain-poses c) ≡ lists
