-- Cases of the definitions, by computing, for a translation by (1, 2, 3): it moves a point and a box, leaves a vector's length,
-- and followed by itself is one by (2, 4, 6). A point is divided by its fourth coordinate, and is refused where that is zero.
use Rattle.std.specs.Prelude.{Ok, Err}
use mathlib.Core.Path.{◌≡◌, refl}
use mathlib.Core.Bool.{false}
use mathlib.Core.List.{[], ◌∷◌}
use Prim.Native.Nat.{ℕ}
use lib.Ieee.{Float, binary32, round}
use Rattle.matrix4x4.specs.Rows.{Row, Rows}
use Rattle.bounds3.specs.declared.Point3f.{Point3f}
use Rattle.transform.specs.declared.Transform.{Transform}
use Rattle.transform.specs.declared.BoundsAnswer.TheVariants as bounds
use Rattle.transform.specs.Transform.{Transform-from_matrices, Transform-translate, Transform-mul}
use Rattle.transform.specs.TransformPoint.{Transform-transform_point}
use Rattle.transform.specs.TransformBounds.{Transform-transform_bounds}
use Rattle.transform.specs.HasScale.{Transform-has_scale}
use Rattle.transform.specs.means.Computing.{computing}

abbrev whole : ℕ → Float
whole n = round binary32 false n 1

abbrev at : ℕ → ℕ → ℕ → Point3f
at x y z = record { x = whole x; y = whole y; z = whole z }

abbrev row : ℕ → ℕ → ℕ → ℕ → Row
row a b c d = whole a ∷ whole b ∷ whole c ∷ whole d ∷ []

abbrev by : ℕ → ℕ → ℕ → Transform
by x y z = Transform-translate (record { x = whole x; y = whole y; z = whole z })

translate-point : Transform-transform_point (by 1 2 3) (at 1 1 1) ≡ Ok (at 2 3 4)
unfolding computing
translate-point = refl

translate-bounds : Transform-transform_bounds (by 1 2 3)
    (record { p_min = at 0 0 0; p_max = at 1 1 1 }) ≡ bounds.Bounds (record { p_min = at 1 2 3; p_max = at 2 3 4 })
unfolding computing
translate-bounds = refl

translate-no-scale : Transform-has_scale (by 1 2 3) ≡ false
unfolding computing
translate-no-scale = refl

translate-twice : (Transform-mul (by 1 2 3) (by 1 2 3)).m ≡ (by 2 4 6).m
unfolding computing
translate-twice = refl

-- The matrix whose bottom row is 0 0 1 0: it divides by z.
abbrev perspective : Transform
perspective =
    let m : Rows = row 1 0 0 0 ∷ row 0 1 0 0 ∷ row 0 0 1 0 ∷ row 0 0 1 0 ∷ [] in
    Transform-from_matrices m m

perspective-divides : Transform-transform_point perspective (at 4 6 2) ≡ Ok (at 2 3 1)
unfolding computing
perspective-divides = refl

perspective-refuses : Transform-transform_point perspective (at 4 6 0) ≡ Err 5
unfolding computing
perspective-refuses = refl
