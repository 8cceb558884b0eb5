-- Poses in lists of 18 floats: `list-inverse`, that such a list is that of its pose; `built-lists`, that a chain that was built from such lists gives them
-- back; `poses-count`. Rests on `Built.antt`.
use Prim.Native.Nat.{ℕ, zero, suc, ◌+◌, ◌≤◌}
use native.Mathlib.Omega.{arith}
use mathlib.Core.Path.{◌≡◌, refl, ap, ◌∙◌}
use mathlib.Core.Bool.{Bool}
use mathlib.Core.List.{List, [], ◌∷◌}
use lib.ListN.{length, get_or, take, drop, length-map}
use lib.Seq.{drop-cons, take_all}
use lib.Ieee.{Float, nan}
use Rattle.chain_poses.specs.lent_arrays.Arrays.{Pose-of_list}
use Rattle.chain_poses.specs.motion_chain.Chain.{Chain, Chain-moves}
use Rattle.chain_poses.specs.motion_chain.Built.{Each}
use Rattle.chain_poses.specs.Poses.{Poses-of_lists}
use Rattle.built_poses.specs.Poses.{AnimatedTransform-end_pose, Chain-poses, places_per_pose, Pose-list, Poses-lists, BuiltLists}
use Rattle.built_poses.proofs.Built.{built-poses}

-- n entries of a list, from a place on
abbrev pub entries : List Float → ℕ → ℕ → List Float
entries l zero i = []
entries l (suc n) i = get_or l i nan ∷ entries l n (suc i)

pub entries-all : (l : List Float) (n i : ℕ) → i + n ≤ length l → entries l n i ≡ take n (drop i l)
entries-all l zero i h = refl
entries-all l (suc n) i h = rw (drop-cons l i nan (omega arith), entries-all l n (suc i) (omega arith))

pub list-inverse : (l : List Float) → length l ≡ places_per_pose → Pose-list (Pose-of_list l) ≡ l
list-inverse l h = entries-all l places_per_pose 0 (omega arith) ∙ take_all places_per_pose l (omega arith)

pub lists-inverse : (lists : List (List Float)) → Each (λ l. length l ≡ places_per_pose) lists → Poses-lists (Poses-of_lists lists) ≡ lists
unfolding Poses-lists Poses-of_lists
lists-inverse [] h = refl
lists-inverse (l ∷ lists) (h, hs) =
    ap (λ (x : List Float). x ∷ Poses-lists (Poses-of_lists lists)) (list-inverse l h) ∙ ap (λ (xs : List (List Float)). l ∷ xs) (lists-inverse lists hs)

pub built-lists : (rigid : Bool) (lists : List (List Float)) → BuiltLists rigid lists
built-lists rigid lists c h e = rw (built-poses rigid (Poses-of_lists lists) c e) (lists-inverse lists h)

-- a chain has one pose more than moves
pub poses-count : (c : Chain) → length (Poses-lists (Chain-poses c)) ≡ length (Chain-moves c) + 1
unfolding Poses-lists Chain-poses
poses-count c =
    length-map (Chain-poses c) Pose-list ∙ rw (length-map (Chain-moves c) AnimatedTransform-end_pose) (omega arith)
