-- Cases of the definition, by computing: document 01's move A at its times, a turn with a stretch, and the refusals 4, 5 and 6.
-- The numbers of moves that are built here are pbrt-rust's own answers. `inverse-overflows` refuses a time at which the matrix
-- half alone, and so the point query, is answered; `first-product-before-inverse` has 5 met before 4.
use mathlib.Core.Path.{◌≡◌, refl}
use mathlib.Core.Bool.{true, false}
use mathlib.Core.List.{[], ◌∷◌}
use Prim.Native.Nat.{ℕ}
use lib.Ieee.{Float, nan, binary32, of_bits}
use Rattle.vector3.specs.declared.Vector3f.{Vector3f}
use Rattle.quaternion.specs.declared.Quaternion.{Quaternion}
use Rattle.matrix4x4.specs.declared.Matrix4x4.{Matrix4x4}
use Rattle.matrix4x4.specs.Rows.{Row}
use Rattle.transform.specs.declared.Transform.{Transform}
use Rattle.transform.specs.Transform.{TransformAnswer}
use Rattle.transform.specs.Transform.{TransformAnswer-refused}
use Rattle.animated_transform.specs.coefficients.Coefficients.{Coefficients-zero}
use Rattle.animated_transform.specs.declared.AnimatedTransform.{AnimatedTransform}
use Rattle.animated_transform.specs.New.{AnimatedTransform-new}
use Rattle.interpolation.specs.Interpolate.{TransformAnswer-accepted, AnimatedTransform-interpolate}
use Rattle.interpolation.specs.means.Computing.{computing}

-- floats by their bits
abbrev bits : ℕ → Float
bits n = of_bits binary32 n

abbrev row : ℕ → ℕ → ℕ → ℕ → Row
row a b c d = bits a ∷ bits b ∷ bits c ∷ bits d ∷ []

-- the bits of 1 and 2
abbrev one : ℕ
one = 0x3f800000

abbrev two : ℕ
two = 0x40000000

abbrev affine : Row → Row → Row → Matrix4x4
affine a b c = record { r0 = a; r1 = b; r2 = c; r3 = row 0 0 0 one }

-- The diagonal a, 1, 1, 1 and the translation x, y, z.
abbrev along : ℕ → ℕ → ℕ → ℕ → Matrix4x4
along a x y z = affine (row a 0 0 x) (row 0 one 0 y) (row 0 0 one z)

-- The answer from the move of two matrices at times 0 and t.
abbrev moved : Matrix4x4 → Matrix4x4 → ℕ → Float → TransformAnswer
moved m0 m1 t time =
    AnimatedTransform-interpolate
    (AnimatedTransform-new false (record { time = bits 0; m = m0; pad = bits 0 }) (record { time = bits t; m = m1; pad = bits 0 })).value time

abbrev answer : Matrix4x4 → Matrix4x4 → TransformAnswer
answer m m⁻¹ = TransformAnswer-accepted (record { m = m; m_inv = m⁻¹ })

-- ---- move A: identity at time 0, identity with m03 = 1 at time 1
abbrev move_a : Float → TransformAnswer
move_a time = moved (along one 0 0 0) (along one one 0 0) one time

translation-midpoint : move_a (bits 0x3f000000) ≡ answer (along one 0x3f000000 0 0) (along one 0xbf000000 0 0)
unfolding computing
translation-midpoint = refl

minus-infinity : move_a (bits 0xff800000) ≡ answer (along one 0 0 0) (along one 0 0 0)
unfolding computing
minus-infinity = refl

plus-infinity : move_a (bits 0x7f800000) ≡ answer (along one one 0 0) (along one 0xbf800000 0 0)
unfolding computing
plus-infinity = refl

nan-time : move_a nan ≡ TransformAnswer-refused 6
unfolding computing
nan-time = refl

-- ---- a turn about z with a stretch by 1, 2 and 4
turn-quarter : moved (along one one two 0x40400000)
    (affine (row 0x3f7fae19 0xbdccb6f5 0 0x40a00000) (row 0x3d4cb6f5 0x3fffae19 0 two) (row 0 0 0x40800000 one)) two (bits 0x3f000000)
    ≡ answer
    (affine (row 0x3f7ffae1 0xbc7ffbb9 0 two) (row 0x3c4cc963 0x3f9ffccd 0 two) (row 0 0 0x3fe00000 0x40200000))
    (affine (row 0x3f7ffae1 0x3c4cc961 0 0xc0019703) (row 0xbc23d44f 0x3f4cc8b4 0 0xbfca3963) (row 0 0 0x3f124925 0xbfb6db6e))
unfolding computing
turn-quarter = refl

-- ---- translations near the greatest float
inverse-overflows : moved (along one 0x7f7e486f 0x7f7e486f 0)
    (affine (row 0x3f7f8a12 0xbd759cd1 0 0x7f7e486f) (row 0x3d759cd1 0x3f7f8a12 0 0) (row 0 0 one 0)) one (bits 0x3f000000) ≡ TransformAnswer-refused 5
unfolding computing
inverse-overflows = refl

-- ---- a scale whose first entry goes from 1 to -1, at the translation x, y, 0 and the rotation 0, 0, z, w
abbrev flattened : ℕ → ℕ → ℕ → ℕ → AnimatedTransform
flattened x y z w =
    let identity : Transform = record { m = along one 0 0 0; m_inv = along one 0 0 0 } in
    let t : Vector3f = record { x = bits x; y = bits y; z = bits 0 } in
    let r : Quaternion = record { v = record { x = bits 0; y = bits 0; z = bits z }; w = bits w } in
    record {
      start_transform = identity;
      end_transform = identity;
      start_time = bits 0;
      end_time = bits one;
      actually_animated = true;
      has_rotation = false;
      t0 = t;
      t1 = t;
      r0 = r;
      r1 = r;
      s0 = along one 0 0 0;
      s1 = along 0xbf800000 0 0 0;
      coefficients = Coefficients-zero;
      pad0 = bits 0;
      pad1 = bits 0;
      rigid = false;
    }

singular-scale : AnimatedTransform-interpolate (flattened 0 0 0x3cf5b91f 0x3f7fe283) (bits 0x3f000000) ≡ TransformAnswer-refused 4
unfolding computing
singular-scale = refl

first-product-before-inverse : AnimatedTransform-interpolate
    (flattened 0x7f7e486f 0x7f7e486f 0x3cf5b91f 0x3f7fe283) (bits 0x3f000000) ≡ TransformAnswer-refused 5
unfolding computing
first-product-before-inverse = refl
