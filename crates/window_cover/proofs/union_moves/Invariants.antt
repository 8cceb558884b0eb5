-- `union_moves` meets its contract. Its loop keeps the union of the whole pass: what is taken, but for zeros' signs, with what is left from i on.
use Prim.Native.Nat.{min}
use Rattle.transform.specs.declared.BoundsAnswer.{BoundsAnswer}
use Rattle.bounds_query.specs.Query.{max_depth}
use Rattle.bounds_query.specs.Same.{BoundsAnswer-Same}
use Rattle.window_cover.specs.means.Stage.{stage_boxes}
use Rattle.window_cover.proofs.Union.{Reached}
use Rattle.window_cover.proofs.union_moves.Given as goal

abbrev pub invariant-loop-i : goal.invariant-loop-i
invariant-loop-i l =
    let boxes = stage_boxes l.b (min l.depth max_depth) l.w l.stage in
    (s : BoundsAnswer) → BoundsAnswer-Same l.initial.r s → Reached boxes l.r s l.moves l.i
