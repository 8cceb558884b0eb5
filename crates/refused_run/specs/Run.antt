-- The shortest run of neighbouring poses that is refused as its chain is: `shortest_run`. Document 02, "The shortest refused stretch", whose words are quoted.
-- The definition judges runs of every length, "over a definition that builds each run". `rigid` is "the chain's kind". Definitions only.
use Rattle.std.specs.Prelude.{ℕ, zero, suc, ◌-◌, Bool, cond, List, [], ◌∷◌, eqb, ltb, length, take, drop}
use Rattle.chain_number.specs.pose_pair.declared.Pose.{Pose}
use Rattle.chain_number.specs.Number.{Move-number, Chain-number}
use Rattle.refused_run.specs.declared.Run.{Run}

-- ---- a run

-- a "run of neighbouring poses": so many of them, from a place on
abbrev pub run_at : List Pose → ℕ → ℕ → List Pose
run_at poses place count = take count (drop place poses)

-- "Runs are judged in the chain's kind; a run of one pose by these same numbers, as a move from it to itself at its time"; any other run as a chain
unfoldable pub run_number : Bool → List Pose → ℕ
run_number rigid [] = Chain-number rigid []
run_number rigid (p ∷ []) = Move-number rigid (p, p)
run_number rigid (p ∷ q ∷ poses) = Chain-number rigid (p ∷ q ∷ poses)

-- how many runs of so many poses there are among n
abbrev pub run_places : ℕ → ℕ → ℕ
run_places n count = suc n - count

-- ---- the search

-- The least number below a bound that passes the test, or the bound where none does.
unfoldable pub least : (ℕ → Bool) → ℕ → ℕ
least test zero = zero
least test (suc bound) = cond (test zero) zero (suc (least (λ i. test (suc i)) bound))

-- "leftmost among equals": the first place of a run of so many poses with the number, or how many such runs there are where none has it
unfoldable pub leftmost_place : Bool → List Pose → ℕ → ℕ → ℕ
leftmost_place rigid poses number count = least (λ place. eqb (run_number rigid (run_at poses place count)) number) (run_places (length poses) count)

-- whether a run of so many poses has the number
abbrev pub has_run : Bool → List Pose → ℕ → ℕ → Bool
has_run rigid poses number count = ltb (leftmost_place rigid poses number count) (run_places (length poses) count)

-- "the shortest": the least length of a run with the number; a run of no poses has 12
unfoldable pub shortest_length : Bool → List Pose → ℕ → ℕ
shortest_length rigid poses number = least (has_run rigid poses number) (suc (length poses))

-- "The answer is the run's first place and its length"
unfoldable pub leftmost_run : Bool → List Pose → ℕ → ℕ → Run
leftmost_run rigid poses number count = record { place = leftmost_place rigid poses number count; length = count; refusal = 0 }

-- "For a chain refused with 1, 2, 3, 4, 5, 16, 17 or 18, give the shortest run of neighbouring poses, leftmost among equals,
-- that is still refused with that number"; "an accepted chain gives place and length 0, and one refused with 12 gives 12"
unfoldable pub shortest_run : Bool → List Pose → Run
shortest_run rigid poses =
    let number = Chain-number rigid poses in
    cond (eqb number 0) (record { place = 0; length = 0; refusal = 0 })
    (cond (eqb number 12) (record { place = 0; length = 0; refusal = 12 })
    (leftmost_run rigid poses number (shortest_length rigid poses number)))
