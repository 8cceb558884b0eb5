-- `take_slices` meets its contract. The invariant: the first k slices are taken over the boxes in front.
use Prim.Native.Nat.{◌≤◌}
use mathlib.Core.Path.{ap, ◌∙◌}
use native.Mathlib.Omega.{arith}
use Rattle.motion_pad.specs.bounds_query.Query.{max_depth}
use Rattle.motion_piece.specs.means.Piece.{PaddedPose-over}
use Rattle.motion_piece.proofs.motion_cover.Slices.{slice-count}
use Rattle.motion_fronts.proofs.Sliced.{sliced-first, sliced-next, sliced-last}
use Rattle.motion_fronts.proofs.take_slices.Goals as goal

pub overflow_shl-slices : goal.overflow_shl-slices
overflow_shl-slices c = omega arith

pub loop-k-init : goal.loop-k-init
loop-k-init c = sliced-first _ _ _ _ _ _

pub slice-requires : goal.slice-requires
slice-requires c = let d = c.args.d in let h : d ≤ max_depth = c.requires.d_le_max_depth in record { d_le_max_depth = h; k_bound = omega (arith, slice-count d h, c.loop-k-test.true) }

pub loop-k-preserved : goal.loop-k-preserved
loop-k-preserved c =
    let a = c.args in
    let slice = c.slice.ensures.value in
    let e = c.padded_enclosure-pose.ensures.value ∙ ap (PaddedPose-over c.constants-a.result a.m.s0 a.m.s1 a.m.pad0 a.m.pad1) slice in
    sliced-next _ _ _ _ _ _ c.loop-k.invariant c.requires.boxes_len_bound e c.take_pose-next.ensures.front c.take_pose-next.ensures.places

pub returns : goal.returns
returns c = record {
  covered = let l = c.loop-k in
      let a = c.args in
      let h : a.d ≤ max_depth = c.requires.d_le_max_depth in
      sliced-last _ _ _ _ _ _ l.invariant (omega (arith, slice-count a.d h, l.auto.k-end, c.loop-k-test.false)) c.constants-a.ensures.value;
}
