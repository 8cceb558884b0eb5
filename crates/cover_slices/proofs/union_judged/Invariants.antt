-- `union_judged` meets its contract. The invariant: `union` is the box of `first` and the first k slices.
use mathlib.Core.Path.{◌≡◌}
use Rattle.transform.specs.declared.BoundsAnswer.TheVariants.{Bounds}
use Rattle.motion_piece.specs.motion_cover.Cover.{union_slices}
use Rattle.cover_slices.proofs.union_judged.Given as goal

abbrev pub invariant-loop-k : goal.invariant-loop-k
invariant-loop-k l = union_slices l.m l.a l.b l.h (Bounds l.initial.union) l.k ≡ Bounds l.union
