-- Whole files and the texts that answer them, computed by antt from the definitions: `all-answered`, a row for each file. Document 01's own example, a chain
-- of three poses, and one or more files for each number that needs no slice: 11, which precedes all others, 1, 12, 3 and 4 of building, 6 and 7 of the box, 5
-- of the start box.
use Prim.Native.String.{String, ◌++◌}
use mathlib.Core.Path.{◌≡◌, refl}
use mathlib.Core.Bool.{Bool, true, false}
use mathlib.Core.List.{List, [], ◌∷◌, map}
use lib.Ieee.{of_bits, to_bits}
use Rattle.motion_text.specs.hexadecimal.Digit.{digit_value}
use Rattle.motion_text.specs.hexadecimal.Word.{digits, digits_only, number}
use Rattle.chain_build.specs.motion_chain.means.Computing as chain
use Rattle.chain_build.specs.chain_poses.Poses.{Poses-of_lists}
use Rattle.motion_text.specs.motion_file.Text.{ascii, split, single_spaced, equal}
use Rattle.motion_text.specs.motion_file.Layout.{all_values, fits, values_of, conforms, keeps_columns, has_pads, keeps_layout, pose_of, MoveFile-read, MoveFile-poses}
use Rattle.motion_text.specs.Answer.{line, bounds_text, refusal_text}
use Rattle.motion_answer.specs.Answer.{ChainAnswer-cover, MoveFile-chain, MoveFile-cover, BoundsAnswer-text, answer_text}

-- floats by their bits
abbrev o : String
o = "00000000"

abbrev one : String
one = "3f800000"

abbrev two : String
two = "40000000"

abbrev minus_one : String
minus_one = "bf800000"

abbrev infinity : String
infinity = "7f800000"

-- a pose at time t: the diagonal d, d, d and m03 = x
abbrev pose : String → String → String → String
pose t d x = t ++ " " ++ d ++ " 00000000 00000000 " ++ x ++ " 00000000 " ++ d ++ " 00000000 00000000 00000000 00000000 " ++ d ++ " 00000000\n"

abbrev start : String
start = pose o one o

abbrev end : String
end = pose one one o

abbrev box : String
box = "3f800000 40000000 40400000 40800000 40a00000 40c00000\n"

-- a file by its lines of poses and its box's
abbrev file : String → String → String
file poses c = "time m00 m01 m02 m03 m10 m11 m12 m13 m20 m21 m22 m23\n" ++ poses ++ "x0 y0 z0 x1 y1 z1\n" ++ c

record Row : Type 0 where
  rigid : Bool
  bytes : String
  text : String

abbrev refused : String → String → Row
refused number bytes = record { rigid = false; bytes = bytes; text = "refused\n" ++ number ++ "\n" }

abbrev covered : String → Row
covered bytes = record { rigid = false; bytes = bytes; text = "x0 y0 z0 x1 y1 z1\n3f800000 40000000 40400000 40800000 40a00000 40c00000\n" }

-- the same row of the file built as rigid
abbrev as_rigid : Row → Row
as_rigid row = record { rigid = true; bytes = row.bytes; text = row.text }

rows : List Row
rows =
    -- move B: the identity at times 0 and 1; at time 2 too
    covered (file (start ++ end) box)
    ∷ covered (file (start ++ end ++ pose two one o) box)
    -- a line too many; also with an infinite entry, which is 1 in a file that keeps the layout
    ∷ refused "11" (file (start ++ end) (box ++ box))
    ∷ refused "11" (file (pose o one infinity ++ end) (box ++ box))
    ∷ refused "1" (file (pose o one infinity ++ end) box)
    -- no pose; one, also with an infinite entry; times that fall, that are equal; also with a box that is 7 under a chain that is built
    ∷ refused "12" (file "" box)
    ∷ refused "12" (file start box)
    ∷ refused "1" (file (pose o one infinity) box)
    ∷ refused "12" (file (start ++ pose minus_one one o) box)
    ∷ refused "12" (file (start ++ end ++ end) box)
    ∷ refused "12" (file (start ++ start) "3f800000 40000000 40400000 00000000 40a00000 40c00000\n")
    -- from time −3e38 to time 3e38
    ∷ refused "3" (file (pose "ff61b1e6" one o ++ pose "7f61b1e6" one o) box)
    -- a linear part of zeros
    ∷ refused "4" (file (start ++ pose one o one) box)
    -- an infinite corner; a least corner above the greatest; both
    ∷ refused "6" (file (start ++ end) "3f800000 40000000 40400000 7f800000 40a00000 40c00000\n")
    ∷ refused "7" (file (start ++ end) "3f800000 40000000 40400000 00000000 40a00000 40c00000\n")
    ∷ refused "6" (file (start ++ end) "3f800000 40000000 7f800000 00000000 40a00000 40c00000\n")
    -- twice the greatest float
    ∷ refused "5" (file (pose o two o ++ end) "3f800000 40000000 40400000 7f7fffff 40a00000 40c00000\n")
    -- built as rigid: move B, and a boom that grows to twice its length
    ∷ as_rigid (covered (file (start ++ end) box))
    ∷ as_rigid (refused "17" (file (start ++ pose one two o) box))
    ∷ []

unfoldable computing : Unit {0}
unfolding ascii split single_spaced equal all_values fits values_of conforms keeps_columns has_pads keeps_layout pose_of MoveFile-read MoveFile-poses digits_only number
    digit_value chain.computing Poses-of_lists line bounds_text refusal_text digits of_bits to_bits ChainAnswer-cover MoveFile-chain MoveFile-cover BoundsAnswer-text
    answer_text
computing = tt

all-answered : map (λ (row : Row). answer_text row.rigid (ascii row.bytes)) rows ≡ map (λ (row : Row). ascii row.text) rows
unfolding computing rows
all-answered = refl
