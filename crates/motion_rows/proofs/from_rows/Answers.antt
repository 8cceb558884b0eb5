-- `from_rows` meets its contract, field by field.
use lib.Ieee.{eq}
use Rattle.bounds3.specs.float32.Operators.{one}
use Rattle.matrix4x4.specs.Rows.{at}
use Rattle.motion_rows.specs.Rows.{AnimatedTransform-from_rows}
use borrow.Author.Rules.{rules}
use Rattle.motion_rows.proofs.from_rows.Goals as goal

pub returns : goal.returns
unfolding AnimatedTransform-from_rows
returns c = record {
  value = let rows = c.args.rows.now in
      λ i. record {
        start_transform = c.transform_at-start_transform.ensures.value i;
        end_transform = c.transform_at-end_transform.ensures.value i;
        start_time = at rows 16 3;
        end_time = at rows 17 3;
        actually_animated = eq (at rows 43 0) one;
        has_rotation = eq (at rows 43 1) one;
        t0 = c.vector_at-t0.ensures.value i;
        t1 = c.vector_at-t1.ensures.value i;
        r0 = c.quaternion_at-r0.ensures.value i;
        r1 = c.quaternion_at-r1.ensures.value i;
        s0 = c.matrix_at-s0.ensures.value i;
        s1 = c.matrix_at-s1.ensures.value i;
        coefficients = c.coefficients_at-coefficients.ensures.value i;
        pad0 = at rows 44 0;
        pad1 = at rows 44 1;
        rigid = eq (at rows 44 2) one;
      };
}
