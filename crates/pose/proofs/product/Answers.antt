-- `product` meets its contract: a matrix is the same in rows and in a struct.
use mathlib.Core.Path.{◌≡◌}
use mathlib.Core.List.{[], ◌∷◌}
use Rattle.matrix4x4.specs.declared.Matrix4x4.{Matrix4x4}
use Rattle.matrix4x4.specs.Rows.{Rows, Matrix4x4-to_rows, Matrix4x4-from_rows}
use Rattle.pose_steps.specs.Pose.{Pose-mul}
use Rattle.pose.proofs.product.Goals as goal

product-rows : (a b : Matrix4x4) {x y r : Rows} {m : Matrix4x4}
    → x ≡ Matrix4x4-to_rows a → y ≡ Matrix4x4-to_rows b
    → r ≡ Matrix4x4-to_rows (Pose-mul (Matrix4x4-from_rows x) (Matrix4x4-from_rows y)) → m ≡ Matrix4x4-from_rows r
    → m ≡ Pose-mul a b
product-rows a b ex ey er em = rw (em, er, ex, ey)

pub returns : goal.returns
returns c = record {
  value = product-rows c.args.a c.args.b
      c.to_rows.ensures.value c.to_rows-2.ensures.value c.mul.ensures.value c.from.ensures;
}
