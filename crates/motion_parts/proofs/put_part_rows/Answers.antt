-- `put_part_rows` puts the rows of the parts. The invariant: what is left from the k-th row on, put from `end` on, makes the whole.
use native.Mathlib.Omega.{arith}
use mathlib.Core.Path.{◌≡◌, refl, sym, ◌∙◌}
use Rattle.motion_parts.proofs.Rows.{rows-below, rows-turn, rows_end}
use Rattle.motion_parts.proofs.put_part_rows.Goals as goal

pub loop-i-init : goal.loop-i-init
loop-i-init c = (refl, refl)

pub offset_bounds-motion-i : goal.offset_bounds-motion-i
offset_bounds-motion-i c = record { fits = omega (arith, rows-below c.loop-i.i-index) }

pub bounds-motion-i : goal.bounds-motion-i
bounds-motion-i c = rows-below c.loop-i.i-index

pub loop-i-preserved : goal.loop-i-preserved
loop-i-preserved c =
    let l = c.loop-i in
    let a = c.args in
    let turn =
    rows-turn a.motion.now l.i-index l.out _ l.end _ (omega arith)
    (rw c.part_size.ensures at c.put_floats-end.ensures.value, rw c.part_size.ensures at c.put_floats-end.ensures.left) in
    (turn.0 ∙ l.invariant.0, turn.1 ∙ l.invariant.1)

pub returns : goal.returns
returns c = let l = c.loop-i in let a = c.args in let last : l.i-index ≡ 35 = omega arith in let end = rows_end a.motion.now l.out l.end in record { value = sym end.0 ∙ rw last at l.invariant.0; left = sym end.1 ∙ rw last at l.invariant.1 }
