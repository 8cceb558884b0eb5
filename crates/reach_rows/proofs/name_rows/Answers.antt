-- `name_rows` meets its contract. The invariant: the rows before i are asked.
use mathlib.Core.Path.{ap, ◌∙◌}
use mathlib.Core.Bool.{false, ◌||◌}
use lib.ListN.{get_or}
use Rattle.reach_rows.specs.Named.{met_by}
use Rattle.reach_rows.proofs.Named.{boxes_of, naming-first, naming-next, naming-last, naming-none}
use Rattle.reach_rows.proofs.name_rows.Goals as goal

pub returns-then-rows-gt-MAX_ROWS : goal.returns-then-rows-gt-MAX_ROWS
returns-then-rows-gt-MAX_ROWS c = record { left = let a = c.args in naming-none (boxes_of a.boxes.now) a.rows.now a.names.now c.if-rows-gt-MAX_ROWS.true }

pub loop-i-init : goal.loop-i-init
loop-i-init c = naming-first _ _ _

pub is_named-requires : goal.is_named-requires
is_named-requires c =
    c.around-union.ensures.around

pub loop-i-preserved : goal.loop-i-preserved
loop-i-preserved c =
    let l = c.loop-i in
    let a = c.args in
    let t = c.loop-i-test.true in
    let e = c.is_named.ensures.value ∙ ap (λ row. get_or l.names l.i false || met_by (boxes_of a.boxes.now) row) c.bounds.ensures.value in
    naming-next (boxes_of a.boxes.now) a.rows.now a.names.now l.invariant t e

pub returns : goal.returns
returns c = record {
  left = let l = c.loop-i in
      let a = c.args in
      naming-last (boxes_of a.boxes.now) a.rows.now a.names.now l.invariant c.loop-i-test.false c.if-rows-gt-MAX_ROWS.false;
}
