-- Moves of document 01's "Poses tried", built by computing the definition: a translation from the identity,
-- also between equal times, and refusals 1, 2, 3, 4 and 16.
use mathlib.Core.Path.{◌≡◌, refl}
use mathlib.Core.Bool.{true, false}
use mathlib.Core.List.{[], ◌∷◌}
use lib.Ieee.{Float, binary32, of_bits}
use Rattle.matrix4x4.specs.declared.Matrix4x4.{Matrix4x4}
use Rattle.quaternion.specs.declared.Quaternion.{Quaternion}
use Rattle.coefficients.specs.Coefficients.{Coefficients-zero}
use Rattle.animated_transform.specs.New.{AnimatedTransformAnswer}
use Rattle.animated_transform.specs.New.{AnimatedTransformAnswer-refused, AnimatedTransform-new}
use Rattle.animated_transform.specs.means.Computing.{computing}

-- floats by their bits
abbrev o : Float
o = of_bits binary32 0

abbrev one : Float
one = of_bits binary32 0x3f800000

abbrev minus_one : Float
minus_one = of_bits binary32 0xbf800000

abbrev minus_zero : Float
minus_zero = of_bits binary32 0x80000000

abbrev infinity : Float
infinity = of_bits binary32 0x7f800000

-- the diagonal d, d, d, 1 with m03 = x and m30 = y
abbrev matrix : Float → Float → Float → Matrix4x4
matrix d x y = record { r0 = d ∷ o ∷ o ∷ x ∷ []; r1 = o ∷ d ∷ o ∷ o ∷ []; r2 = o ∷ o ∷ d ∷ o ∷ []; r3 = y ∷ o ∷ o ∷ one ∷ [] }

abbrev identity : Matrix4x4
identity = matrix one o o

-- identity at time 0, identity with m03 = 1 at the end time
abbrev move_a : Float → AnimatedTransformAnswer
move_a t = AnimatedTransform-new false (record { time = o; m = identity; pad = o }) (record { time = t; m = matrix one one o; pad = one })

abbrev built_a : Float → AnimatedTransformAnswer
built_a t =
    let r : Quaternion = record { v = record { x = o; y = o; z = o }; w = one } in
    record {
      value = record {
        start_transform = record { m = identity; m_inv = identity };
        end_transform = record { m = matrix one one o; m_inv = matrix one minus_one o };
        start_time = o;
        end_time = t;
        actually_animated = true;
        has_rotation = false;
        t0 = record { x = o; y = o; z = o };
        t1 = record { x = one; y = o; z = o };
        r0 = r;
        r1 = r;
        s0 = identity;
        s1 = matrix one one o;
        coefficients = Coefficients-zero;
        pad0 = o;
        pad1 = one;
        rigid = false;
      };
      refusal = 0;
    }

move-a : move_a one ≡ built_a one
unfolding computing
move-a = refl

equal-times : move_a o ≡ built_a o
unfolding computing
equal-times = refl

end-before-start : move_a minus_one ≡ AnimatedTransformAnswer-refused 3
unfolding computing
end-before-start = refl

linear-part-of-zeros : AnimatedTransform-new false (record { time = o; m = identity; pad = o })
    (record { time = one; m = matrix o one o; pad = o }) ≡ AnimatedTransformAnswer-refused 4
unfolding computing
linear-part-of-zeros = refl

-- a pad below zero is met before times that fall, and after a bottom row; a pad of -0 is accepted
pad-before-times : AnimatedTransform-new false (record { time = o; m = identity; pad = minus_one })
    (record { time = minus_one; m = identity; pad = o }) ≡ AnimatedTransformAnswer-refused 16
unfolding computing
pad-before-times = refl

bottom-row-before-pad : AnimatedTransform-new false (record { time = o; m = identity; pad = minus_one })
    (record { time = one; m = matrix one o one; pad = o }) ≡ AnimatedTransformAnswer-refused 2
unfolding computing
bottom-row-before-pad = refl

pad-of-minus-zero : (AnimatedTransform-new false (record { time = o; m = identity; pad = minus_zero }) (record { time = one; m = identity; pad = o })).refusal ≡ 0
unfolding computing
pad-of-minus-zero = refl

-- a pad and an entry that aren't finite are met before a bottom row
infinite-pad-first : AnimatedTransform-new false (record { time = o; m = matrix one o one; pad = infinity })
    (record { time = one; m = identity; pad = o }) ≡ AnimatedTransformAnswer-refused 1
unfolding computing
infinite-pad-first = refl

infinite-entry-first : AnimatedTransform-new false (record { time = o; m = matrix one infinity one; pad = minus_one })
    (record { time = one; m = identity; pad = o }) ≡ AnimatedTransformAnswer-refused 1
unfolding computing
infinite-entry-first = refl
