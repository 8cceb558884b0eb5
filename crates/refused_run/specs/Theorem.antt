-- What is promised of the run that a refused chain is answered: `ShortestRefused`. "No shorter run and no
-- equal one further left has that refusal" (document 02, "The shortest refused stretch"). Definitions only.
use Rattle.std.specs.Prelude.{ℕ, ◌+◌, ◌≤◌, ◌<◌, ◌≡◌, Bool, List, length}
use Rattle.chain_number.specs.pose_pair.declared.Pose.{Pose}
use Rattle.chain_number.specs.Number.{Chain-number}
use Rattle.refused_run.specs.declared.Run.{Run}
use Rattle.refused_run.specs.Run.{run_at, run_number}

-- A run of the poses with the number, such that no shorter one and no equal one further left has it.
pub record ShortestWith (rigid : Bool) (poses : List Pose) (number : ℕ) (r : Run) : Type 0 where
  pub found : r.refusal ≡ 0
  pub some : 0 < r.length
  pub within : r.place + r.length ≤ length poses
  pub same_number : run_number rigid (run_at poses r.place r.length) ≡ number
  pub no-shorter : (place count : ℕ) → count < r.length → place + count ≤ length poses → run_number rigid (run_at poses place count) ≡ number → ⊥
  pub none_left : (place : ℕ) → place < r.place → run_number rigid (run_at poses place r.length) ≡ number → ⊥
  -- that the code need not try longer runs
  pub at_most_two : r.length ≤ 2

-- of a chain that is neither accepted nor refused with 12
abbrev pub ShortestRefused : Bool → List Pose → Run → Type 0
ShortestRefused rigid poses r =
    (Chain-number rigid poses ≡ 0 → ⊥) → (Chain-number rigid poses ≡ 12 → ⊥) → ShortestWith rigid poses (Chain-number rigid poses) r
