-- A pose that is tried gives building's numbers, a cover's and 19 alone, of a chain, `trial-numbered`, and of a kept chain, whatever its rows:
-- `rows-trial-numbered`.
use Prim.Native.Nat.{ℕ, ◌-◌}
use mathlib.Core.Path.{◌≡◌, refl, sym}
use mathlib.Core.Bool.{Bool, true, false, cond}
use mathlib.Core.Logic.{inl}
use mathlib.Core.List.{List, [], ◌∷◌}
use native.Mathlib.Omega.{arith}
use lib.Dec.{T, eqb, ltb, leb}
use lib.ListN.{length}
use lib.Seq.{sets}
use Rattle.run_schedule.proofs.control_flow.Choice.{cond-keeps}
use Rattle.run_schedule.specs.matrix4x4.Rows.{Rows}
use Rattle.run_schedule.specs.bounds3.declared.Bounds3f.{Bounds3f}
use Rattle.run_schedule.specs.transform.declared.BoundsAnswer.{BoundsAnswer}
use Rattle.run_schedule.specs.transform.declared.BoundsAnswer.TheVariants.{Refused}
use Rattle.run_schedule.specs.transform.Answer.{BoundsAnswer-refusal}
use Rattle.run_schedule.proofs.transform.Answer.{all_listed, one-of-wider}
use Rattle.motion_bounds_laws.specs.pose_pair.declared.Pose.{Pose}
use Rattle.refused_run.specs.motion_cover.Answer.{BoundsAnswer-Numbered}
use Rattle.refused_run.specs.motion_chain.Chain.{max_poses, Chain, ChainAnswer, built, refused, Chain-cover}
use Rattle.refused_run.proofs.motion_chain.Numbers.{chain-cover-numbered}
use Rattle.refused_run.proofs.motion_chain.Built.{refused-built}
use Rattle.chain_held.specs.built_poses.Poses.{Chain-poses, Chain-is_rigid}
use Rattle.interpolate_kept.specs.chain_rows.Kept.{Chain-to_rows, Moves-chain, Moves-cover}
use Rattle.chain_trial.specs.changed_chain.Trial.{Chain-changed, ChainAnswer-cover_at, Chain-try}
use Rattle.chain_trial.specs.changed_chain.Beside.{Chain-new_beside}
use Rattle.chain_trial.specs.Try.{poses_in, Moves-cover_beside, Moves-try}
use Rattle.refusal_numbers.specs.Chain.{building_numbers, trial_numbers, ChainAnswer-Numbered}
use Rattle.refusal_numbers.proofs.Chain.{building-numbered}
use Rattle.refusal_numbers.proofs.KeptChain.{rows-cover-numbered}

-- ---- a trial
abbrev Numbered : Bool → BoundsAnswer → Type 0
Numbered rigid = BoundsAnswer-Numbered (trial_numbers rigid)

-- whatever the kind, by computing in each
among : (rigid : Bool) (ns : List ℕ) → T (all_listed ns (trial_numbers false)) → T (all_listed ns (trial_numbers true)) → T (all_listed ns (trial_numbers rigid))
among true ns plain kind = kind
among false ns plain kind = plain

building-among : (rigid : Bool) → T (all_listed (building_numbers rigid) (trial_numbers rigid))
building-among true = tt
building-among false = tt

refused-numbered : (rigid : Bool) (n : ℕ) → ChainAnswer-Numbered (building_numbers rigid) (refused n) → Numbered rigid (Refused n)
refused-numbered rigid n h =
    record {
      number = one-of-wider n (building_numbers rigid) (trial_numbers rigid) (building-among rigid) h.number;
      none = λ e. let (c, s) = h.none e in absurd (refused-built s);
    }

changed-numbered : (rigid : Bool) (a : ChainAnswer) (b : Bounds3f) (depth : ℕ) → ChainAnswer-Numbered (building_numbers rigid) a
    → Numbered rigid (ChainAnswer-cover_at a b depth)
changed-numbered rigid (built c) b depth h =
    let k = chain-cover-numbered c b depth in
    let asked : List ℕ = 0 ∷ 5 ∷ 6 ∷ 7 ∷ 8 ∷ 10 ∷ [] in
    record {
      number = one-of-wider (BoundsAnswer-refusal (Chain-cover c b depth)) asked (trial_numbers rigid) (among rigid asked tt tt) k.number;
      none = k.none;
    }
changed-numbered rigid (refused n) b depth h = refused-numbered rigid n h

place-numbered : (rigid : Bool) (n : ℕ) → T (all_listed (n ∷ []) (trial_numbers rigid)) → (n ≡ 0 → ⊥) → Numbered rigid (Refused n)
place-numbered rigid n h f = record { number = one-of-wider n (n ∷ []) (trial_numbers rigid) h (inl refl); none = λ e. absurd (f e) }

beyond : (rigid : Bool) → Numbered rigid (Refused 19)
beyond rigid = place-numbered rigid 19 (among rigid (19 ∷ []) tt tt) (λ e. absurd (omega (arith, e)))

pub trial-numbered : (c : Chain) (place : ℕ) (p : Pose) (b : Bounds3f) (depth : ℕ) → Numbered (Chain-is_rigid c) (Chain-try c place p b depth)
unfolding Chain-try Chain-changed
trial-numbered c place p b depth =
    let rigid = Chain-is_rigid c in
    cond-keeps (Numbered rigid) (ltb place (length (Chain-poses c))) (ChainAnswer-cover_at (Chain-changed c place p) b depth) (Refused 19)
    (changed-numbered rigid (Chain-changed c place p) b depth (building-numbered rigid _)) (beyond rigid)

-- ---- of kept rows
beside-numbered : (rigid : Bool) (rows : List Rows) (place : ℕ) (b : Bounds3f) (depth : ℕ) (a : ChainAnswer) → ChainAnswer-Numbered (building_numbers rigid) a
    → Numbered rigid (Moves-cover_beside rows place b depth a)
beside-numbered rigid rows place b depth (built d) h =
    let after = sets rows (place - 1) (Chain-to_rows d) in
    let k = rows-cover-numbered after b depth in
    let asked : List ℕ = 0 ∷ 5 ∷ 6 ∷ 7 ∷ 8 ∷ 10 ∷ 12 ∷ [] in
    record {
      number = one-of-wider (BoundsAnswer-refusal (Moves-cover after b depth)) asked (trial_numbers rigid) (among rigid asked tt tt) k.number;
      none = k.none;
    }
beside-numbered rigid rows place b depth (refused n) h = refused-numbered rigid n h

pub rows-trial-numbered : (rows : List Rows) (place : ℕ) (p : Pose) (b : Bounds3f) (depth : ℕ)
    → Numbered (Chain-is_rigid (Moves-chain rows)) (Moves-try rows place p b depth)
unfolding Moves-try
rows-trial-numbered rows place p b depth = go (leb (poses_in rows) place) (ltb max_poses (poses_in rows))
  where
    rigid : Bool
    rigid = Chain-is_rigid (Moves-chain rows)

    shown : BoundsAnswer
    shown = Moves-cover_beside rows place b depth (Chain-new_beside (Moves-chain rows) place p)

    go : (s t : Bool) → let n = cond {A = ℕ} s 19 (cond t 12 0) in Numbered rigid (cond (eqb n 0) shown (Refused n))
    go true t = beyond rigid
    go false true = place-numbered rigid 12 (among rigid (12 ∷ []) tt tt) (λ e. absurd (omega (arith, e)))
    go false false = beside-numbered rigid rows place b depth (Chain-new_beside (Moves-chain rows) place p) (building-numbered rigid _)
