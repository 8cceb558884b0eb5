-- Runs of lent poses as the code goes over them: a run's number, `one-pose` and `other-run`; a search from left to right that has found a place,
-- `found_at`, has missed one more, `missed-next`, or has missed all, `found_none`; runs of one length, then of another, `first_found` and `first-missed`.
use Prim.Native.Nat.{ℕ, zero, suc, ◌+◌, ◌-◌, ◌≤◌, ◌<◌}
use mathlib.Core.Path.{◌≡◌, refl, sym, ap, ◌∙◌}
use mathlib.Core.Bool.{Bool, true, false, not}
use mathlib.Core.List.{List, [], ◌∷◌, map}
use native.Mathlib.Omega.{arith}
use lib.Dec.{T, eqb, ltb, eqb_refl, eqb→eq, ltb→lt, lt→ltb, nltb→le, not_T}
use lib.ListN.{length, take, drop, get_or}
use lib.Ieee.{Float}
use lib.Ieee.Bits.{is_true, is_false}
use Rattle.chain_number.specs.pose_pair.declared.Pose.{Pose}
use Rattle.chain_number.specs.lent_arrays.Arrays.{Pose-of_list}
use Rattle.chain_number.specs.chain_poses.Poses.{Poses-of_lists}
use Rattle.chain_number.proofs.chain_poses.Loops.{poses-length}
use Rattle.chain_number.specs.Number.{Move-number, Chain-number}
use Rattle.refused_run.specs.Run.{run_at, run_number, run_places, leftmost_place, has_run, leftmost_run}
use Rattle.refused_run.specs.means.Tried.{first_of}
use Rattle.refused_run.proofs.Least.{least-is}

-- ---- a run's number
pub one-pose : (rigid : Bool) (lists : List (List Float)) → length lists ≡ 1
    → Move-number rigid (Pose-of_list (get_or lists 0 []), Pose-of_list (get_or lists 0 [])) ≡ run_number rigid (Poses-of_lists lists)
unfolding run_number Poses-of_lists
one-pose rigid [] e = absurd (omega (arith, e))
one-pose rigid (x ∷ []) e = refl
one-pose rigid (x ∷ y ∷ lists) e = absurd (omega (arith, e))

pub other-run : (rigid : Bool) (lists : List (List Float)) → (length lists ≡ 1 → ⊥)
    → Chain-number rigid (Poses-of_lists lists) ≡ run_number rigid (Poses-of_lists lists)
unfolding run_number Poses-of_lists
other-run rigid [] f = refl
other-run rigid (x ∷ []) f = absurd (f refl)
other-run rigid (x ∷ y ∷ lists) f = refl

-- ---- a part of the lent poses
take-poses : (count : ℕ) (lists : List (List Float)) → map Pose-of_list (take count lists) ≡ take count (map Pose-of_list lists)
take-poses zero lists = refl
take-poses (suc count) [] = refl
take-poses (suc count) (x ∷ lists) = ap (λ (l : List Pose). Pose-of_list x ∷ l) (take-poses count lists)

drop-poses : (place : ℕ) (lists : List (List Float)) → map Pose-of_list (drop place lists) ≡ drop place (map Pose-of_list lists)
drop-poses zero lists = refl
drop-poses (suc place) [] = refl
drop-poses (suc place) (x ∷ lists) = drop-poses place lists

module _ (rigid : Bool) (lists : List (List Float)) (n count : ℕ) where
  abbrev poses : List Pose
  poses = Poses-of_lists lists

  -- the part of the poses that is lent
  abbrev part : ℕ → List (List Float)
  part place = take (place + count - place) (drop place lists)

  part-number : (place : ℕ) {r : ℕ} → r ≡ run_number rigid (Poses-of_lists (part place)) → r ≡ run_number rigid (run_at poses place count)
  unfolding Poses-of_lists
  part-number place e =
      let c : place + count - place ≡ count = omega arith in
      e ∙ rw (c, take-poses count (drop place lists), drop-poses place lists)

  -- no run of so many poses before a place has the number
  abbrev pub Missed : ℕ → Type 0
  Missed place = (j : ℕ) → j < place → T (not (eqb (run_number rigid (run_at poses j count)) n))

  pub found_at : (place : ℕ) → place < run_places (length lists) count → Missed place → {r : ℕ} → r ≡ run_number rigid (Poses-of_lists (part place)) → r ≡ n
      → place ≡ leftmost_place rigid poses n count
  unfolding leftmost_place
  found_at place h missed number same =
      let l = poses-length lists in
      sym
      (least-is (λ j. eqb (run_number rigid (run_at poses j count)) n) (run_places (length poses) count) place (omega (arith, h, l)) missed
      (λ _. rw (sym (part-number place number) ∙ same) (eqb_refl n)))

  pub missed-next : (place : ℕ) → Missed place → {r : ℕ} → r ≡ run_number rigid (Poses-of_lists (part place)) → (r ≡ n → ⊥) → Missed (place + 1)
  missed-next place missed number other j h = go (ltb j place) (ltb→lt j place) (nltb→le j place)
    where
      go : (b : Bool) → (T b → j < place) → (T (not b) → place ≤ j) → T (not (eqb (run_number rigid (run_at poses j count)) n))
      go true less more = missed j (less tt)
      go false less more =
          let l = more tt in
          let e : j ≡ place = omega (arith, h, l) in
          rw e (not_T (eqb (run_number rigid (run_at poses place count)) n) (λ t. other (part-number place number ∙ eqb→eq _ n t)))

  pub found_none : Missed (run_places (length lists) count) → run_places (length lists) count ≡ leftmost_place rigid poses n count
  unfolding leftmost_place
  found_none missed =
      let l = poses-length lists in
      sym
      (rw l
      (least-is (λ j. eqb (run_number rigid (run_at poses j count)) n) (run_places (length lists) count) (run_places (length lists) count) (omega arith) missed
      (λ h. absurd (omega (arith, h)))))

-- ---- runs of one length, then of another
module _ (rigid : Bool) (lists : List (List Float)) (n short long : ℕ) {place places : ℕ}
    (first : place ≡ leftmost_place rigid (Poses-of_lists lists) n short) (all : places ≡ run_places (length lists) short) where
  pub first_found : place < places → record { place = place; length = short; refusal = 0 } ≡ first_of rigid (Poses-of_lists lists) n short long
  unfolding first_of leftmost_run
  first_found h =
      let l = poses-length lists in
      let has = lt→ltb (leftmost_place rigid (Poses-of_lists lists) n short) (run_places (length (Poses-of_lists lists)) short) (omega (arith, h, first, all, l)) in
      rw (is_true (has_run rigid (Poses-of_lists lists) n short) has, first)

  pub first-missed : places ≤ place → {other : ℕ} → other ≡ leftmost_place rigid (Poses-of_lists lists) n long
      → record { place = other; length = long; refusal = 0 } ≡ first_of rigid (Poses-of_lists lists) n short long
  unfolding first_of leftmost_run
  first-missed h e =
      let l = poses-length lists in
      let none = not_T (has_run rigid (Poses-of_lists lists) n short)
      (λ t. let k = ltb→lt (leftmost_place rigid (Poses-of_lists lists) n short) (run_places (length (Poses-of_lists lists)) short) t in
      omega (arith, h, k, first, all, l)) in
      rw (is_false (has_run rigid (Poses-of_lists lists) n short) none, e)
