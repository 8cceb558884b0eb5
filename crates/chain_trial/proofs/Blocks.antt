-- What building the poses beside a place leaves in lent blocks: `built-clauses`.
use Prim.Native.Nat.{ℕ, ◌-◌}
use mathlib.Core.Path.{◌≡◌, refl, sym, ap, ◌∙◌}
use mathlib.Core.Bool.{Bool}
use mathlib.Core.List.{List}
use native.Mathlib.Omega.{arith}
use lib.ListN.{length, take, drop, length-map, length-append, length-drop}
use lib.Ieee.{Float}
use Rattle.transform.specs.matrix4x4.Rows.{Rows}
use Rattle.changed_chain.specs.pose_pair.declared.Pose.{Pose}
use Rattle.kept_poses.specs.motion_rows.Rows.{AnimatedTransform-to_rows}
use Rattle.changed_chain.specs.motion_chain.Chain.{Chain, Chain-moves, ChainAnswer, built, refused, ChainAnswer-refusal, Chain-new}
use Rattle.changed_chain.specs.motion_chain.Built.{BuiltChain}
use Rattle.changed_chain.proofs.motion_chain.Built.{built-moves}
use Rattle.changed_chain.specs.chain_poses.Poses.{Poses-of_lists}
use Rattle.changed_chain.proofs.chain_poses.Loops.{poses-length}
use Rattle.chain_build.specs.chain_rows.Kept.{Chain-to_rows}
use Rattle.chain_build.specs.chain_rows.Theorem.{Moves-Holds}
use Rattle.chain_build.specs.Build.{ChainAnswer-left}
use Rattle.changed_chain.proofs.Changed.{new_none}
use Rattle.chain_trial.specs.means.Blocks.{NewMoves}

left-length : (a : ChainAnswer) (old : List Rows) → length old ≡ 31 → ((c : Chain) → a ≡ built c → BuiltChain c) → length (ChainAnswer-left a old) ≡ 31
left-length (built c) old h f =
    let rows = Chain-to_rows c in
    let few = (built-moves (f c refl)).count in
    let n = length-map (Chain-moves c) AnimatedTransform-to_rows in
    let both = length-append rows (drop (length rows) old) in
    let rest = length-drop (length rows) old in
    omega (arith, few, n, both, rest, h)
left-length (refused n) old h f = h

-- poses are those of the lists
pub built-clauses : (rigid : Bool) (lists : List (List Float)) (poses : List Pose) (old : List Rows) {blocks : List Rows} {r : ℕ}
    → Poses-of_lists lists ≡ poses → length old ≡ 31
    → r ≡ ChainAnswer-refusal (Chain-new rigid (Poses-of_lists lists))
    → blocks ≡ ChainAnswer-left (Chain-new rigid (Poses-of_lists lists)) old
    → ((c : Chain) → Chain-new rigid (Poses-of_lists lists) ≡ built c → Moves-Holds (take (length lists - 1) blocks) c)
    → (r ≡ ChainAnswer-refusal (Chain-new rigid poses)) × ((r ≡ 0 → NewMoves rigid poses blocks) × (length blocks ≡ 31))
built-clauses rigid lists poses old {blocks} {r} s h e left holds = (
  e ∙ ap (λ (l : List Pose). ChainAnswer-refusal (Chain-new rigid l)) s,
  (
    λ z.
        let new = new_none rigid (Poses-of_lists lists) (sym e ∙ z) in
        let own = holds new.chain new.is-built in
        let n : length poses ≡ length lists = ap length (sym s) ∙ poses-length lists in
        record { chain = new.chain; accepted = rw (← s) new.is-built; is-built = own.built; rows = rw n own.same },
    rw left (left-length (Chain-new rigid (Poses-of_lists lists)) old h (λ c a. (holds c a).built)),
  ),
)
