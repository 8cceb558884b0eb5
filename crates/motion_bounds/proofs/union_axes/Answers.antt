-- `union_axes` meets its contract: the axes in turn; what a refusal leaves unexamined is not counted (`axes-counted`).
use Rattle.motion_bounds.proofs.Counts.{axes-counted}
use Rattle.motion_bounds.proofs.union_axes.Goals as goal

pub returns : goal.returns
returns c = record {
  value = rw (c.counted.ensures.value, c.union_axis-along_z.ensures.value, c.union_axis-along_y.ensures.value, c.union_axis-along_x.ensures.value)
      (axes-counted _ _ _ _);
}
