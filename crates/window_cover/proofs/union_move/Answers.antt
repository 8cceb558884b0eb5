-- `union_move` meets its contract: the move in the rows, and its boxes of the stage.
use Prim.Native.Nat.{◌+◌, min}
use mathlib.Core.Path.{◌≡◌, subst}
use mathlib.Core.List.{[]}
use lib.Dec.{eqb}
use lib.ListN.{length, get_or}
use borrow.Author.Rules.{rules}
use borrow.Author.Tests.{eq-eqb, ne_eqb}
use Rattle.bounds_query.specs.Query.{max_depth}
use Rattle.bounds_query.specs.Same.{BoundsAnswer-Same}
use Rattle.chain_rows.specs.bounds_answers.UnionAll.{BoundsAnswer-union_all}
use Rattle.animated_transform.specs.declared.AnimatedTransform.{AnimatedTransform}
use Rattle.motion_rows.specs.Rows.{AnimatedTransform-from_rows}
use Rattle.chain_window.specs.Cover.{slice_boxes, end_pose_boxes, equal_pose_boxes}
use Rattle.window_cover.specs.means.Stage.{stage_boxes}
use Rattle.window_cover.proofs.Same.{stage-same}
use Rattle.window_cover.proofs.union_move.Goals as goal

pub returns-then-stage-eq0 : goal.returns-then-stage-eq0
unfolding stage_boxes
returns-then-stage-eq0 c = record {
  same = let a = c.args in
      let d = min a.depth max_depth in
      λ s h. rw (eq-eqb _ 0 c.if-stage-eq0.true)
      (subst (λ (m : AnimatedTransform). BoundsAnswer-Same c.union_slices.result (BoundsAnswer-union_all s (slice_boxes a.b d a.w m)))
      c.from_rows-m.ensures.value (c.union_slices.ensures.same s h));
}

pub returns-then-stage-eq1 : goal.returns-then-stage-eq1
unfolding stage_boxes end_pose_boxes
returns-then-stage-eq1 c = record {
  same = let a = c.args in
      let rows = a.moves.now in
      let last = eqb (a.i + 1) (length rows) in
      let m = AnimatedTransform-from_rows (get_or rows a.i []) in
      let e : c.union_pose.result ≡ BoundsAnswer-union_all a.r (stage_boxes a.b (min a.depth max_depth) a.w a.stage (eqb a.i 0) last m) =
      rw (
        ne_eqb _ 0 c.if-stage-eq0.false,
        eq-eqb _ 1 c.if-stage-eq1.true,
        c.union_pose.ensures.value,
        c.asks_end-asked.ensures.value,
        c.from_rows-m.ensures.value,
      ) in
      stage-same a.b a.w m (min a.depth max_depth) a.stage (eqb a.i 0) last e;
}

pub returns : goal.returns
unfolding stage_boxes equal_pose_boxes
returns c = record {
  same = let a = c.args in
      let rows = a.moves.now in
      let last = eqb (a.i + 1) (length rows) in
      let m = AnimatedTransform-from_rows (get_or rows a.i []) in
      let e : c.union_pose-2.result ≡ BoundsAnswer-union_all a.r (stage_boxes a.b (min a.depth max_depth) a.w a.stage (eqb a.i 0) last m) =
      rw (
        ne_eqb _ 0 c.if-stage-eq0.false,
        ne_eqb _ 1 c.if-stage-eq1.false,
        c.union_pose-2.ensures.value,
        c.max-pad.ensures.value,
        c.belongs-belongs.ensures.value,
        c.from_rows-m.ensures.value,
      ) in
      stage-same a.b a.w m (min a.depth max_depth) a.stage (eqb a.i 0) last e;
}
