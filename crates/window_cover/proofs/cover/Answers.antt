-- `cover` meets its contract: the tests, the three passes with the first pose between them, then the zeros; the other clauses follow from the value
-- (`window-clauses`).
use borrow.Author.Rules.{rules}
use borrow.Author.Tests.{eq-eqb}
use mathlib.Core.Path.{refl, sym, ◌∙◌}
use Rattle.bounds3.specs.Bounds3f.{Bounds3f-default}
use Rattle.transform.specs.declared.BoundsAnswer.TheVariants.{Bounds}
use Rattle.chain_window.specs.Cover.{first_pose_boxes}
use Rattle.window_cover.specs.Kept.{Moves-window_cover}
use Rattle.window_cover.proofs.Kept.{held-depth, window-clauses, ticks-refused, arguments-refused, window-worked}
use Rattle.window_cover.proofs.Union.{worked_same}
use Rattle.window_cover.proofs.Same.{default-same}
use Rattle.window_cover.proofs.cover.Goals as goal

pub returns-then-moves-eq0 : goal.returns-then-moves-eq0
unfolding Moves-window_cover
returns-then-moves-eq0 c = let a = c.args in let all = window-clauses a.moves.now a.b a.depth a.w (rw (eq-eqb _ 0 c.if-moves-eq0.true)) in record { value = all.0; kept = all.1.0; contains_motion = all.1.1.0; finer = all.1.1.1 }

pub returns-then-ticks-ne0 : goal.returns-then-ticks-ne0
returns-then-ticks-ne0 c = let a = c.args in let all = window-clauses a.moves.now a.b a.depth a.w
    (ticks-refused a.moves.now a.b a.depth a.w c.if-moves-eq0.false c.refusal-ticks.ensures.value c.if-ticks-ne0.true) in record { value = all.0; kept = all.1.0; contains_motion = all.1.1.0; finer = all.1.1.1 }

pub returns-then-n-ne0 : goal.returns-then-n-ne0
returns-then-n-ne0 c = let a = c.args in let all = window-clauses a.moves.now a.b a.depth a.w
    (arguments-refused a.moves.now a.b a.depth a.w c.if-moves-eq0.false
    (sym c.refusal-ticks.ensures.value ∙ c.if-ticks-ne0.false) c.cover_refusal-n.ensures.value c.if-n-ne0.true) in record { value = all.0; kept = all.1.0; contains_motion = all.1.1.0; finer = all.1.1.1 }

pub returns : goal.returns
unfolding first_pose_boxes
returns c = let a = c.args in let none = sym c.cover_refusal-n.ensures.value ∙ c.if-n-ne0.false in let held = held-depth a.b a.depth none in let all = window-clauses a.moves.now a.b a.depth a.w
    (window-worked a.moves.now a.b a.depth a.w c.if-moves-eq0.false (sym c.refusal-ticks.ensures.value ∙ c.if-ticks-ne0.false) none refl
    (c.positive_zeros.ensures.value
    ∙ worked_same a.moves.now a.b a.depth a.w c.union_moves-slices.result c.union_pose-first.result
    c.union_moves-poses.result c.union_moves.result c.if-moves-eq0.false
    (rw held at (c.union_moves-slices.ensures.same (Bounds Bounds3f-default) (default-same c.default.ensures.value)))
    (rw (c.asks_first-asked.ensures.value, c.from_rows-m.ensures.value) at c.union_pose-first.ensures.value)
    (rw held at c.union_moves-poses.ensures.same) (rw held at c.union_moves.ensures.same))) in record { value = all.0; kept = all.1.0; contains_motion = all.1.1.0; finer = all.1.1.1 }
