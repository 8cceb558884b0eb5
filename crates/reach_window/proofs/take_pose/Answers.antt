-- `take_pose` meets its contract: the boxes in front are moved by the pose into the first places, and the rows that they meet are named.
use Prim.Native.Nat.{ℕ, ◌+◌, ◌-◌, ◌≤◌, ◌<◌}
use mathlib.Core.Path.{◌≡◌, refl, sym, ap, ◌∙◌}
use native.Mathlib.Omega.{arith}
use borrow.Author.Rules.{rules}
use lib.ListN.{length}
use lib.ListN.{replicate}
use lib.Seq.{length-take-le}
use Rattle.transform.specs.matrix4x4.Rows.{positive_zero}
use Rattle.motion_piece.specs.means.Piece.{PaddedPose-judged}
use Rattle.reach_window.proofs.Walk.{places-length, walks-pose, walks-few}
use borrow.Author.Rules.{rules}
use Rattle.reach_window.proofs.take_pose.Goals as goal

pub returns-then-n-gt-MAX_BOXES : goal.returns-then-n-gt-MAX_BOXES
returns-then-n-gt-MAX_BOXES c = record {
  walks = let a = c.args in
      walks-few a.boxes.now a.rows.now (PaddedPose-judged a.pose) a.front (replicate 16 (replicate 6 positive_zero)) a.names.now c.requires c.take_pose-next.ensures.front c.take_pose-next.ensures.places c.if-n-gt-MAX_BOXES.true;
}

pub slice_bounds-moved-end : goal.slice_bounds-moved-end
slice_bounds-moved-end c =
    let a = c.args in
    let h = places-length (PaddedPose-judged a.pose) a.boxes.now a.front (replicate 16 (replicate 6 positive_zero)) c.take_pose-next.ensures.places in
    omega (arith, h, c.if-n-gt-MAX_BOXES.false)

pub slice_bounds-name_rows-end : goal.slice_bounds-name_rows-end
slice_bounds-name_rows-end c =
    let a = c.args in
    let h = places-length (PaddedPose-judged a.pose) a.boxes.now a.front (replicate 16 (replicate 6 positive_zero)) c.take_pose-next.ensures.places in
    sym (length-take-le _ _ (omega (arith, h, c.if-n-gt-MAX_BOXES.false)))

pub returns : goal.returns
returns c = record {
  walks = let a = c.args in
      walks-pose a.boxes.now a.rows.now (PaddedPose-judged a.pose) a.front (replicate 16 (replicate 6 positive_zero)) a.names.now c.requires c.take_pose-next.ensures.front c.take_pose-next.ensures.places refl
      c.name_rows.ensures.left;
}
