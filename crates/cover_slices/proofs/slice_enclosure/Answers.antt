-- `slice_enclosure` meets its contract: the poses between two borders with their pad, over the box.
use mathlib.Core.Path.{sym, ◌∙◌}
use borrow.Author.Rules.{rules}
use Rattle.pose_steps.specs.unit_interval.Unit.{slice}
use Rattle.motion_piece.specs.motion_cover.Cover.{AnimatedTransform-enclose_bounds}
use Rattle.motion_piece.proofs.motion_cover.Slices.{slice-end}
use Rattle.motion_piece.specs.means.Piece.{PaddedPose-enclose_bounds}
use Rattle.motion_piece.proofs.Piece.{piece-composition}
use Prim.Native.Nat.{◌+◌}
use Rattle.cover_slices.proofs.slice_enclosure.Goals as goal

pub returns : goal.returns
unfolding slice
returns c = record {
  value = let a = c.args in
      let h = c.requires.fact_1 in
      let low = c.from_fixed-low.ensures.value ∙ slice-end a.h a.k h in
      let high = c.from_fixed-high.ensures.value ∙ slice-end a.h (a.k + 1) h in
      c.box_enclosure.ensures.value
      ∙ (λ i. PaddedPose-enclose_bounds (c.padded_enclosure-pose.ensures.value i) a.b)
      ∙ sym (piece-composition a.m a.a (record { low = c.from_fixed-low.result; high = c.from_fixed-high.result }) a.b)
      ∙ λ i. AnimatedTransform-enclose_bounds a.m a.a (record { low = low i; high = high i }) a.b;
}
