-- `pose` meets its contract: the first pose is the first block's start, each later one the end of the block before it (`first-pose`, `later-pose`).
use Prim.Native.Nat.{ℕ, suc, ◌-◌, ◌<◌}
use native.Mathlib.Omega.{arith}
use mathlib.Core.Path.{◌≡◌, refl, sym, ap, ◌∙◌}
use mathlib.Core.List.{[]}
use lib.ListN.{length, get_or}
use Rattle.kept_poses.specs.built_poses.Poses.{Chain-poses, Pose-list, Poses-lists}
use Rattle.chain_rows.specs.Kept.{Moves-chain}
use Rattle.chain_held.proofs.Clauses.{first-pose, later-pose, pose-clauses, pose-refused, pose-answered}
use borrow.Author.Rules.{rules}
use Rattle.chain_held.proofs.pose.Goals as goal

pub returns-then-refusal-ne0 : goal.returns-then-refusal-ne0
returns-then-refusal-ne0 c = let a = c.args in let n = c.pose_refusal-refusal.ensures.value in let all = pose-clauses a.moves.now a.place a.pose.now a.pose.now _ n
    (pose-refused a.moves.now a.place a.pose.now a.pose.now _ n c.if-refusal-ne0.true) in record { refusal = all.0; left = all.1.0; as_set = all.1.1 }

pub bounds-moves-0 : goal.bounds-moves-0
bounds-moves-0 c =
    let inside = c.pose_refusal-refusal.ensures.inside c.if-refusal-ne0.false in
    omega (arith, inside.0)

pub returns-then-place-eq0 : goal.returns-then-place-eq0
returns-then-place-eq0 c = let a = c.args in let rows = a.moves.now in let n = sym c.if-refusal-ne0.false ∙ c.pose_refusal-refusal.ensures.value in let lists = Poses-lists (Chain-poses (Moves-chain rows)) in let all = pose-clauses rows a.place a.pose.now _ 0 n
    (c.put_values.ensures.left ∙ ap Pose-list c.start_pose.ensures.value ∙ sym (first-pose rows)
    ∙ ap (λ (k : ℕ). get_or lists k []) (sym c.if-place-eq0.true) ∙ sym (pose-answered rows a.place a.pose.now a.pose.now 0 n refl)) in record { refusal = all.0; left = all.1.0; as_set = all.1.1 }

pub offset_bounds-moves-place : goal.offset_bounds-moves-place
offset_bounds-moves-place c =
    let inside = c.pose_refusal-refusal.ensures.inside c.if-refusal-ne0.false in
    let below : c.args.place - 1 < length c.args.moves.now = omega (arith, inside.0, inside.1, c.if-place-eq0.false) in
    search rules

pub bounds-moves-place : goal.bounds-moves-place
bounds-moves-place c =
    let inside = c.pose_refusal-refusal.ensures.inside c.if-refusal-ne0.false in
    omega (arith, inside.0, inside.1, c.if-place-eq0.false)

pub returns : goal.returns
returns c = let a = c.args in let rows = a.moves.now in let inside = c.pose_refusal-refusal.ensures.inside c.if-refusal-ne0.false in let n = sym c.if-refusal-ne0.false ∙ c.pose_refusal-refusal.ensures.value in let lists = Poses-lists (Chain-poses (Moves-chain rows)) in let next : suc (a.place - 1) ≡ a.place = omega (arith, c.if-place-eq0.false) in let all = pose-clauses rows a.place a.pose.now _ 0 n
    (c.put_values-2.ensures.left ∙ ap Pose-list c.end_pose.ensures.value
    ∙ sym (later-pose rows (a.place - 1) (omega (arith, inside.0, inside.1, c.if-place-eq0.false)))
    ∙ ap (λ (k : ℕ). get_or lists k []) next ∙ sym (pose-answered rows a.place a.pose.now a.pose.now 0 n refl)) in record { refusal = all.0; left = all.1.0; as_set = all.1.1 }
