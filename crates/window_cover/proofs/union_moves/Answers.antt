-- `union_moves` meets its contract. Its loop keeps the union of the whole pass: what is taken, but for zeros' signs, with what is left from i on.
use Prim.Native.Nat.{min}
use native.Mathlib.Omega.{arith}
use Rattle.bounds_query.specs.Query.{max_depth}
use Rattle.window_cover.specs.means.Stage.{stage_boxes}
use Rattle.window_cover.proofs.Union.{reached-start, reached-next, reached-end}
use Rattle.window_cover.proofs.union_moves.Goals as goal

pub loop-i-init : goal.loop-i-init
loop-i-init c =
    let a = c.args in
    λ s h. reached-start (stage_boxes a.b (min a.depth max_depth) a.w a.stage) a.moves.now h

pub loop-i-preserved : goal.loop-i-preserved
loop-i-preserved c =
    let l = c.loop-i in
    let a = c.args in
    λ s h. reached-next (stage_boxes a.b (min a.depth max_depth) a.w a.stage) a.moves.now l.i c.loop-i-test.true c.union_move-u.ensures.same
    (l.invariant s h)

pub returns : goal.returns
returns c = record {
  same = let l = c.loop-i in
      let a = c.args in
      let boxes = stage_boxes a.b (min a.depth max_depth) a.w a.stage in
      λ s h. reached-end boxes a.moves.now l.i (omega (arith, c.loop-i-test.false)) (l.invariant s h);
}
