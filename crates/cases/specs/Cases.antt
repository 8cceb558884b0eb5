-- Document 01's cases marked P, "Poses tried", as one table, with its two unmarked ones: a row is a query and the answer that is to come of it (`Row`,
-- `holds`); `rows` is the table, and `EveryRowHolds` the statement over all of it.
-- Every zero of the table is +0, and the comparison tells it from −0: more than document 01 asks of a box, whose zeros may have either sign.
use Rattle.std.specs.Prelude.{◌≡◌, true, false, ℕ, ◌*◌, ◌^◌, Float}
use mathlib.Core.List.{List, [], ◌∷◌, Memᴰ}
use Rattle.std.specs.Float.{nan, inf, binary32}
use Rattle.std.specs.Float.Ieee.{round}
use Rattle.motion_cover.specs.matrix4x4.declared.Matrix4x4.{Matrix4x4}
use Rattle.motion_cover.specs.bounds3.declared.Point3f.{Point3f}
use Rattle.motion_cover.specs.bounds3.declared.Bounds3f.{Bounds3f}
use Rattle.motion_cover.specs.pose_pair.declared.Pose.{Pose}
use Rattle.cases.specs.Query.{Query, sin_of, acos_of, build, point_at, cover_of, Answer, number, built, moved, covered, refused, answer}

pub record Row : Type 0 where
  pub query : Query
  pub expected : Answer

abbrev pub holds : Row → Type 0
holds r = answer r.query ≡ r.expected

-- ---- numbers, poses, points and boxes

-- The float nearest to n / d, and to −n / d.
abbrev pub fraction : ℕ → ℕ → Float
fraction n d = round binary32 false n d

abbrev pub negative : ℕ → ℕ → Float
negative n d = round binary32 true n d

abbrev pub zero : Float
zero = fraction 0 1

abbrev pub one : Float
one = fraction 1 1

abbrev pub half : Float
half = fraction 1 2

-- The diagonal d, d, d, 1 with m03 = x and m30 = y.
abbrev pub matrix : Float → Float → Float → Matrix4x4
matrix d x y =
    record {
      r0 = d ∷ zero ∷ zero ∷ x ∷ [];
      r1 = zero ∷ d ∷ zero ∷ zero ∷ [];
      r2 = zero ∷ zero ∷ d ∷ zero ∷ [];
      r3 = y ∷ zero ∷ zero ∷ one ∷ [];
    }

-- The identity at a time, and the identity with m03 = 1.
abbrev pub identity_at : Float → Pose
identity_at t = record { time = t; m = matrix one zero zero; pad = zero }

abbrev pub shifted_at : Float → Pose
shifted_at t = record { time = t; m = matrix one one zero; pad = zero }

abbrev pub point : Float → Float → Float → Point3f
point x y z = record { x = x; y = y; z = z }

abbrev pub origin : Point3f
origin = point zero zero zero

abbrev pub box : Point3f → Point3f → Bounds3f
box p q = record { p_min = p; p_max = q }

-- The origin as a box, and where move A takes it from start to end: x from 0 to 1, y and z 0.
abbrev pub origin_box : Bounds3f
origin_box = box origin origin

abbrev pub unit_segment : Bounds3f
unit_segment = box origin (point one zero zero)

-- ---- "Move A: identity at time 0, identity with m03 = 1 at time 1."

-- "A at 0.5, origin: (0.5, 0, 0)."
abbrev pub translation-midpoint : Row
translation-midpoint = record { query = point_at (identity_at zero) (shifted_at one) half origin; expected = moved (point half zero zero) }

-- "At −infinity: (0, 0, 0)."
abbrev pub start-at-minus-infinity : Row
start-at-minus-infinity = record { query = point_at (identity_at zero) (shifted_at one) (inf true) origin; expected = moved origin }

-- "At +infinity: (1, 0, 0)."
abbrev pub end-at-infinity : Row
end-at-infinity = record { query = point_at (identity_at zero) (shifted_at one) (inf false) origin; expected = moved (point one zero zero) }

-- "At NaN: 6."
abbrev pub nan-time-refused : Row
nan-time-refused = record { query = point_at (identity_at zero) (shifted_at one) nan origin; expected = refused 6 }

-- "A, origin as box, depth 0: 10."
abbrev pub depth-0-zero-quaternion-norm : Row
depth-0-zero-quaternion-norm = record { query = cover_of (identity_at zero) (shifted_at one) origin_box 0; expected = refused 10 }

-- "Depth 1: x from 0 to 1, y and z 0."
abbrev pub depth-1-translation-covered : Row
depth-1-translation-covered = record { query = cover_of (identity_at zero) (shifted_at one) origin_box 1; expected = covered unit_segment }

-- "Depth 13: 8."
abbrev pub depth-13-refused : Row
depth-13-refused = record { query = cover_of (identity_at zero) (shifted_at one) origin_box 13; expected = refused 8 }

-- "A with end time −1: 3."
abbrev pub end-before-start-refused : Row
end-before-start-refused = record { query = build (identity_at zero) (shifted_at (negative 1 1)); expected = refused 3 }

-- "With end time 0: built; at 0 the start, above 0 the end." Above 0: at the least positive float, at 1, and at infinity.
abbrev pub equal-times-built : Row
equal-times-built = record { query = build (identity_at zero) (shifted_at zero); expected = built }

abbrev pub equal-times-start-at-zero : Row
equal-times-start-at-zero = record { query = point_at (identity_at zero) (shifted_at zero) zero origin; expected = moved origin }

abbrev pub equal-times-end-just-above : Row
equal-times-end-just-above = record { query = point_at (identity_at zero) (shifted_at zero) (fraction 1 (2 ^ 149)) origin; expected = moved (point one zero zero) }

abbrev pub equal-times-end-at-one : Row
equal-times-end-at-one = record { query = point_at (identity_at zero) (shifted_at zero) one origin; expected = moved (point one zero zero) }

abbrev pub equal-times-end-at-infinity : Row
equal-times-end-at-infinity = record { query = point_at (identity_at zero) (shifted_at zero) (inf false) origin; expected = moved (point one zero zero) }

-- ---- other poses

-- "A linear part of zeros: 4."
abbrev pub zero-linear-part-refused : Row
zero-linear-part-refused = record { query = build (identity_at zero) (record { time = one; m = matrix zero one zero; pad = zero }); expected = refused 4 }

-- "An infinite entry and m30 = 1: 1."
abbrev pub infinite-entry-before-bottom-row : Row
infinite-entry-before-bottom-row =
    record { query = build (identity_at zero) (record { time = one; m = matrix one (inf false) one; pad = zero }); expected = refused 1 }

-- "Times −3e38 and 3e38: 3."
abbrev pub infinite-duration-refused : Row
infinite-duration-refused = record { query = build (identity_at (negative (3 * 10 ^ 38) 1)) (shifted_at (fraction (3 * 10 ^ 38) 1)); expected = refused 3 }

-- "Move B: identity at times 0 and 1." "B, box 1 2 3 to 4 5 6": that box, at the depth 10 of the program `cover`.
abbrev pub equal-poses-keep-box : Row
equal-poses-keep-box =
    let b : Bounds3f = box (point one (fraction 2 1) (fraction 3 1)) (point (fraction 4 1) (fraction 5 1) (fraction 6 1)) in
    record { query = cover_of (identity_at zero) (identity_at one) b 10; expected = covered b }

-- ---- angles

-- "Arc cosine of 1 is 0."
abbrev pub acos-of-one : Row
acos-of-one = record { query = acos_of one; expected = number zero }

-- "Of 0 it is 13,176,795/2^23."
abbrev pub acos-of-zero : Row
acos-of-zero = record { query = acos_of zero; expected = number (fraction 13176795 (2 ^ 23)) }

-- "Sine of 0 is 0."
abbrev pub sin-of-zero : Row
sin-of-zero = record { query = sin_of zero; expected = number zero }

-- ---- the table
abbrev pub rows : List Row
rows =
    translation-midpoint
    ∷ start-at-minus-infinity
    ∷ end-at-infinity
    ∷ nan-time-refused
    ∷ depth-0-zero-quaternion-norm
    ∷ depth-1-translation-covered
    ∷ depth-13-refused
    ∷ end-before-start-refused
    ∷ equal-times-built
    ∷ equal-times-start-at-zero
    ∷ equal-times-end-just-above
    ∷ equal-times-end-at-one
    ∷ equal-times-end-at-infinity
    ∷ zero-linear-part-refused
    ∷ infinite-entry-before-bottom-row
    ∷ infinite-duration-refused
    ∷ equal-poses-keep-box
    ∷ acos-of-one
    ∷ acos-of-zero
    ∷ sin-of-zero
    ∷ []

abbrev pub EveryRowHolds : Type 0
EveryRowHolds = (r : Row) → Memᴰ r rows → holds r
