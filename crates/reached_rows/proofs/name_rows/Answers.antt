-- `name_rows` meets its contract. Its loop keeps that the places named so far, with those among the rows that are left, are all of them.
use mathlib.Core.Path.{sym, ap, ◌∙◌}
use native.Mathlib.Omega.{arith}
use Rattle.bounds_overlap.specs.Meets.{Bounds3f-meets}
use Rattle.reached_rows.proofs.Loop.{loop-first, loop-few, loop-met, loop-missed, loop-last}
use Rattle.reached_rows.proofs.name_rows.Goals as goal
use Rattle.reached_rows.proofs.name_rows.Goals.{then-meets, else-meets}

pub loop-i-init : goal.loop-i-init
loop-i-init c = loop-first _ _

pub offset_bounds-places-count : goal.offset_bounds-places-count
offset_bounds-places-count c =
    let l = c.loop-i in
    omega (arith, loop-few c.args.cover c.args.rows.now l.invariant c.loop-i-test.true c.requires)

pub bounds-places-count : goal.bounds-places-count
bounds-places-count c =
    let l = c.loop-i in
    loop-few c.args.cover c.args.rows.now l.invariant c.loop-i-test.true c.requires

pub overflow_add-count : goal.overflow_add-count
overflow_add-count c =
    let l = c.loop-i in
    omega (arith, loop-few c.args.cover c.args.rows.now l.invariant c.loop-i-test.true c.requires)

pub loop-i-preserved : goal.loop-i-preserved
loop-i-preserved c =
    let l = c.loop-i in
    let a = c.args in
    let m = sym (c.meets.ensures.value ∙ ap (Bounds3f-meets a.cover) c.bounds.ensures.value) in
    elim c.if-meets.branch [
      | then-meets w ↦ loop-met a.cover a.rows.now l.invariant c.loop-i-test.true c.requires (m ∙ w.if-meets.true) w.places-is w.count-is
      | else-meets w ↦ loop-missed a.cover a.rows.now l.invariant c.loop-i-test.true (m ∙ w.if-meets.false) w.places-is w.count-is
    ]

pub returns : goal.returns
returns c = record {
  named = let l = c.loop-i in
      let a = c.args in
      loop-last a.cover a.rows.now l.invariant c.loop-i-test.false;
}
