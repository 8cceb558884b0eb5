-- `take_pieces` meets its contract. The invariant: the poses of the pieces before k are taken.
use Prim.Native.Nat.{◌≤◌, ◌<◌}
use mathlib.Core.Path.{◌≡◌, ap, ◌∙◌}
use native.Mathlib.Omega.{arith}
use Prim.Native.Nat.{◌^◌}
use mathlib.Core.Path.{subst}
use mathlib.Core.List.{List}
use native.Mathlib.Numerals.{add-one}
use Rattle.motion_piece.specs.bounds_query.Query.{max_depth}
use Rattle.motion_point.specs.pose_steps.declared.PoseConstants.{PoseConstants}
use Rattle.motion_piece.proofs.motion_cover.Slices.{slice-count}
use Rattle.motion_piece.specs.means.Piece.{PaddedPose, PaddedPose-judged, PaddedPose-over}
use Rattle.reach_window.specs.means.Poses.{pose_over}
use Rattle.reach_window.specs.means.Walk.{Walks}
use Rattle.reach_window.proofs.Poses.{pieces-next, pieces-all}
use Rattle.reach_window.proofs.Walk.{walks-none, walks-append}
use Rattle.reach_window.proofs.take_pieces.Goals as goal

pub overflow_shl-pieces : goal.overflow_shl-pieces
overflow_shl-pieces c = omega (arith, c.requires.d_le_max_depth)

pub loop-k-init : goal.loop-k-init
loop-k-init c = walks-none

pub piece-requires : goal.piece-requires
piece-requires c = let d = c.args.d in let h : d ≤ max_depth = c.requires.d_le_max_depth in record { d_le_max_depth = h; k_bound = omega (arith, slice-count d h, c.loop-k-test.true) }

pub loop-k-preserved : goal.loop-k-preserved
loop-k-preserved c =
    let a = c.args in
    let t = c.loop-k-test.true in
    let h : a.d ≤ max_depth = c.requires.d_le_max_depth in
    let below : c.loop-k.k < 2 ^ a.d = omega (arith, t, slice-count a.d h) in
    let over : PoseConstants → PaddedPose = λ x. PaddedPose-over x a.m.s0 a.m.s1 a.m.pad0 a.m.pad1 c.piece.result in
    let e : PaddedPose-judged c.padded_enclosure-pose.result ≡ pose_over a.m _ = c.padded_enclosure-pose.ensures.value ∙ ap over c.constants-a.ensures.value ∙ ap (pose_over a.m) c.piece.ensures.value in
    rw (add-one, pieces-next a.m a.d c.loop-k.k a.dt below, ← e) (walks-append c.loop-k.invariant c.take_pose-next.ensures.walks)

pub returns : goal.returns
returns c = record {
  walks = let l = c.loop-k in
      let a = c.args in
      let h : a.d ≤ max_depth = c.requires.d_le_max_depth in
      let all = pieces-all a.m a.d l.k a.dt (omega (arith, slice-count a.d h, c.loop-k-test.false)) in
      subst (λ (poses : List PaddedPose). Walks a.boxes.now a.rows.now poses a.front l.reached a.names.now l.names) all l.invariant;
}
