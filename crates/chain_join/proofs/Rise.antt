-- The times in two lists of blocks, one turn after the other: where a time is not above the one before it (`rise-fails`), where it is (`rise-goes`), and at
-- the end (`rise-ends`). What is found in the first and then in the second is what is asked of the poses of both: `joined-rise`.
use Prim.Native.Nat.{ℕ, zero, suc, ◌+◌, ◌<◌}
use mathlib.Core.Path.{◌≡◌, refl, sym, ap, ◌∙◌}
use mathlib.Core.Bool.{Bool, true, false, not, cond}
use mathlib.Core.List.{List, [], ◌∷◌, ◌++◌, map}
use native.Mathlib.Omega.{arith}
use lib.ListN.{length, get_or, drop}
use lib.Ieee.{Float, lt}
use Rattle.refusal.specs.First.{first_refusal}
use Rattle.refusal.proofs.First.{first-assoc}
use Rattle.pose_bits.specs.matrix4x4.Rows.{Rows, at}
use Rattle.pose_bits.specs.pose_pair.declared.Pose.{Pose}
use Rattle.kept_poses.specs.animated_transform.declared.AnimatedTransform.{AnimatedTransform}
use Rattle.kept_poses.specs.motion_rows.Rows.{AnimatedTransform-from_rows}
use Rattle.kept_poses.specs.motion_chain.Chain.{neighbours, first_number, Pair-number, Chain, Chain-moves}
use Rattle.kept_poses.specs.built_poses.Poses.{AnimatedTransform-start_pose, AnimatedTransform-end_pose, Chain-poses}
use Rattle.chain_build.specs.chain_rows.Kept.{Moves-chain}
use Rattle.joined_chains.specs.Join.{Chain-joined_poses, rise_refusal}
use Rattle.joined_chains.proofs.Built.{map-append}
use Rattle.chain_join.specs.means.Rise.{rise_from}

-- ---- one turn

abbrev pub end_time : List Rows → ℕ → Float
end_time rows i = at (get_or rows i []) 17 3

rise-step : (last : Float) (rows : List Rows) (i : ℕ) → i < length rows
    → rise_from last (drop i rows) ≡ first_refusal (cond (lt last (end_time rows i)) 0 12) (rise_from (end_time rows i) (drop (suc i) rows))
unfolding rise_from AnimatedTransform-from_rows
rise-step last [] i h = absurd (omega (arith, h))
rise-step last (r ∷ rows) zero h = refl
rise-step last (r ∷ rows) (suc i) h = rise-step last rows i (omega (arith, h))

module _ (last : Float) (rows : List Rows) (i : ℕ) where
  pub rise-fails : i < length rows → not (lt last (end_time rows i)) ≡ true → rise_from last (drop i rows) ≡ 12
  rise-fails h e = rw (rise-step last rows i h, unrisen (lt last (end_time rows i)) e)
    where
      unrisen : (b : Bool) → not b ≡ true → b ≡ false
      unrisen true e = sym e
      unrisen false e = refl

  pub rise-goes : i < length rows → not (lt last (end_time rows i)) ≡ false → rise_from (end_time rows i) (drop (i + 1) rows) ≡ rise_from last (drop i rows)
  rise-goes h e = let n : i + 1 ≡ suc i = omega arith in rw (rise-step last rows i h, risen (lt last (end_time rows i)) e, n)
    where
      risen : (b : Bool) → not b ≡ false → b ≡ true
      risen true e = refl
      risen false e = sym e

pub rise-ends : (last : Float) (rows : List Rows) (i : ℕ) → i ≡ length rows → rise_from last (drop i rows) ≡ 0
unfolding rise_from
rise-ends last [] zero h = refl
rise-ends last [] (suc i) h = absurd (omega (arith, h))
rise-ends last (r ∷ rows) zero h = absurd (omega (arith, h))
rise-ends last (r ∷ rows) (suc i) h = rise-ends last rows i (omega (arith, h))

-- ---- both lists

rise-poses : (p : Pose) (rows : List Rows) → rise_refusal (p ∷ map AnimatedTransform-end_pose (map AnimatedTransform-from_rows rows)) ≡ rise_from p.time rows
unfolding rise_from neighbours first_number Pair-number
rise-poses p [] = refl
rise-poses p (r ∷ rows) =
    let q = AnimatedTransform-end_pose (AnimatedTransform-from_rows r) in
    ap (first_refusal (cond (lt p.time q.time) 0 12)) (rise-poses q rows)

-- The last of the end times, or the time before them.
unfoldable last_time : Float → List Rows → Float
last_time time [] = time
last_time time (r ∷ rows) = last_time (AnimatedTransform-from_rows r).end_time rows

rise-append : (time : Float) (first second : List Rows)
    → first_refusal (rise_from time first) (rise_from (last_time time first) second) ≡ rise_from time (first ++ second)
unfolding rise_from last_time
rise-append time [] second = refl
rise-append time (r ∷ first) second =
    let end = (AnimatedTransform-from_rows r).end_time in
    let n : ℕ = cond (lt time end) 0 12 in
    first-assoc n (rise_from end first) (rise_from (last_time end first) second) ∙ ap (first_refusal n) (rise-append end first second)

last-time : (time : Float) (rows : List Rows) (i : ℕ) → suc i ≡ length rows → end_time rows i ≡ last_time time rows
unfolding last_time AnimatedTransform-from_rows
last-time time [] i h = absurd (omega (arith, h))
last-time time (r ∷ []) zero h = refl
last-time time (r ∷ []) (suc i) h = absurd (omega (arith, h))
last-time time (r ∷ s ∷ rows) zero h = absurd (omega (arith, h))
last-time time (r ∷ s ∷ rows) (suc i) h = last-time (AnimatedTransform-from_rows r).end_time (s ∷ rows) i (omega (arith, h))

block-moves : (rows : List Rows) → 0 < length rows → Chain-moves (Moves-chain rows) ≡ map AnimatedTransform-from_rows rows
unfolding Moves-chain
block-moves [] h = absurd (omega (arith, h))
block-moves (r ∷ rows) h = refl

joined-moves : (c d : Chain) → rise_refusal (AnimatedTransform-start_pose c.first ∷ map AnimatedTransform-end_pose (Chain-moves c ++ Chain-moves d))
    ≡ rise_refusal (Chain-joined_poses c d)
unfolding Chain-joined_poses Chain-poses
joined-moves c d =
    ap (λ (l : List Pose). rise_refusal (AnimatedTransform-start_pose c.first ∷ l)) (map-append AnimatedTransform-end_pose (Chain-moves c) (Chain-moves d))

pub joined-rise : (first second : List Rows) (i : ℕ) → suc i ≡ length first → 0 < length second → {before after r : ℕ}
    → before ≡ rise_from (at (get_or first 0 []) 16 3) first → after ≡ rise_from (end_time first i) second → r ≡ first_refusal before after
    → r ≡ rise_refusal (Chain-joined_poses (Moves-chain first) (Moves-chain second))
unfolding Moves-chain AnimatedTransform-from_rows
joined-rise first second i h k b a r =
    let c = Moves-chain first in
    let start = AnimatedTransform-start_pose c.first in
    let moves = map-append AnimatedTransform-from_rows first second ∙ (λ j. sym (block-moves first (omega (arith, h))) j ++ sym (block-moves second k) j) in
    r ∙ (λ j. first_refusal (b j) ((a ∙ ap (λ (t : Float). rise_from t second) (last-time start.time first i h)) j))
    ∙ rise-append start.time first second
    ∙ sym (rise-poses start (first ++ second))
    ∙ ap (λ (l : List AnimatedTransform). rise_refusal (start ∷ map AnimatedTransform-end_pose l)) moves
    ∙ joined-moves c (Moves-chain second)
