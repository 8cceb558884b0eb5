-- The layout's definition on files written out: `all_read` lists files that keep the layout, with no poses,
-- one, two and three, and with pads, `all-depart` files that don't. antt computes each.
use Prim.Native.String.{String, ◌++◌}
use mathlib.Core.Path.{◌≡◌, refl}
use mathlib.Core.List.{List, [], ◌∷◌, map}
use Prim.Native.Nat.{ℕ}
use lib.ListN.{replicate}
use lib.Ieee.{Float, binary32, of_bits}
use Rattle.motion_text.specs.hexadecimal.Digit.{digit_value}
use Rattle.motion_text.specs.hexadecimal.Word.{digits_only, number}
use Rattle.motion_text.specs.motion_file.Text.{ascii, split, single_spaced, equal}
use Rattle.motion_text.specs.motion_file.Layout.{all_values, fits, values_of, conforms, keeps_columns, has_pads}
use Rattle.motion_text.specs.motion_file.Layout.{keeps_layout, pose_of, MoveFile-departs, MoveFile-read, MoveFile-poses}
use Rattle.motion_text.specs.motion_file.declared.MoveFile.{MoveFile}

-- a line of names, a pose that leaves everything in its place at time 0 and at time 1, a box from 1 2 3 to 4 5 6
abbrev pose_names : String
pose_names = "time m00 m01 m02 m03 m10 m11 m12 m13 m20 m21 m22 m23\n"

abbrev padded_names : String
padded_names = "time m00 m01 m02 m03 m10 m11 m12 m13 m20 m21 m22 m23 pad\n"

abbrev start : String
start = "00000000 3f800000 00000000 00000000 00000000 00000000 3f800000 00000000 00000000 00000000 00000000 3f800000 00000000\n"

abbrev end : String
end = "3f800000 3f800000 00000000 00000000 00000000 00000000 3f800000 00000000 00000000 00000000 00000000 3f800000 00000000\n"

abbrev bounds_names : String
bounds_names = "x0 y0 z0 x1 y1 z1\n"

abbrev bounds : String
bounds = "3f800000 40000000 40400000 40800000 40a00000 40c00000\n"

abbrev floats : List ℕ → List Float
floats ns = map (of_bits binary32) ns

unfoldable computing : Unit {0}
unfolding ascii split single_spaced equal all_values fits values_of conforms keeps_columns has_pads keeps_layout pose_of MoveFile-read MoveFile-poses digits_only number
    digit_value
computing = tt

-- a file by its lines of poses; one by its last two lines
abbrev posed : String → String
posed poses = pose_names ++ poses ++ bounds_names ++ bounds

abbrev file : String → String → String
file names values = pose_names ++ start ++ end ++ names ++ values

-- what is said of so many poses and of the box from 1 2 3 to 4 5 6
abbrev kept : ℕ → MoveFile
kept n = record { count = n; bounds = floats (0x3f800000 ∷ 0x40000000 ∷ 0x40400000 ∷ 0x40800000 ∷ 0x40a00000 ∷ 0x40c00000 ∷ []); refusal = 0 }

-- the identity at a time, with a pad
abbrev padded : ℕ → ℕ → List Float
padded t pad = floats (t ∷ 0x3f800000 ∷ 0 ∷ 0 ∷ 0 ∷ 0 ∷ 0x3f800000 ∷ 0 ∷ 0 ∷ 0 ∷ 0 ∷ 0x3f800000 ∷ 0 ∷ 0 ∷ 0 ∷ 0 ∷ 0x3f800000 ∷ pad ∷ [])

abbrev pose : ℕ → List Float
pose t = padded t 0

abbrev said : String → MoveFile × List (List Float)
said text = (MoveFile-read (ascii text), MoveFile-poses (ascii text))

record Row : Type 0 where
  text : String
  file : MoveFile
  poses : List (List Float)

rows : List Row
rows =
    record { text = posed (start ++ end); file = kept 2; poses = pose 0 ∷ pose 0x3f800000 ∷ [] }
    -- any number of poses
    ∷ record { text = posed ""; file = kept 0; poses = [] }
    ∷ record { text = posed end; file = kept 1; poses = pose 0x3f800000 ∷ [] }
    ∷ record { text = posed (start ++ end ++ end); file = kept 3; poses = pose 0 ∷ pose 0x3f800000 ∷ pose 0x3f800000 ∷ [] }
    -- digits of either case; several spaces between words
    ∷ record { text = file bounds_names "3F800000 40000000 40400000 40800000 40A00000 40C00000\n"; file = kept 2; poses = pose 0 ∷ pose 0x3f800000 ∷ [] }
    ∷ record {
      text = file "x0   y0 z0  x1 y1    z1\n" "3f800000  40000000 40400000   40800000 40a00000 40c00000\n";
      file = kept 2;
      poses = pose 0 ∷ pose 0x3f800000 ∷ [];
    }
    -- fourteen names
    ∷ record {
      text = padded_names ++ "00000000 3f800000 00000000 00000000 00000000 00000000 3f800000 00000000 00000000 00000000 00000000 3f800000 00000000 40000000\n"
          ++ bounds_names ++ bounds;
      file = kept 1;
      poses = padded 0 0x40000000 ∷ [];
    }
    ∷ []

all_read : map (λ (row : Row). said row.text) rows ≡ map (λ (row : Row). (row.file, row.poses)) rows
unfolding computing rows
all_read = refl

-- files that depart from it
departing : List String
departing =
    -- no last line feed; one too many; nothing at all
    file bounds_names "3f800000 40000000 40400000 40800000 40a00000 40c00000"
    ∷ file bounds_names (bounds ++ "\n")
    ∷ ""
    -- a line missing; a line too many
    ∷ file "" bounds
    ∷ file bounds_names ""
    ∷ file bounds_names (bounds ++ bounds)
    -- a pose of twelve values, of fourteen; a pose behind the box's names
    ∷ posed (start ++ "3f800000 3f800000 00000000 00000000 00000000 00000000 3f800000 00000000 00000000 00000000 00000000 3f800000\n")
    ∷ posed (start ++ "3f800000 3f800000 00000000 00000000 00000000 00000000 3f800000 00000000 00000000 00000000 00000000 3f800000 00000000 00000000\n")
    ∷ file bounds_names (end ++ bounds)
    -- a tab, a carriage return
    ∷ file bounds_names "3f800000\t40000000 40400000 40800000 40a00000 40c00000\n"
    ∷ file bounds_names "3f800000 40000000 40400000 40800000 40a00000 40c00000\r\n"
    -- a space before the first word, behind the last
    ∷ file bounds_names " 3f800000 40000000 40400000 40800000 40a00000 40c00000\n"
    ∷ file bounds_names "3f800000 40000000 40400000 40800000 40a00000 40c00000 \n"
    ∷ file " x0 y0 z0 x1 y1 z1\n" bounds
    ∷ file "x0 y0 z0 x1 y1 z1 \n" bounds
    -- other names
    ∷ file "X0 y0 z0 x1 y1 z1\n" bounds
    ∷ file "x0 y0 z0 x1 y1\n" bounds
    ∷ file "x0 y0 z0 x1 z1 y1\n" bounds
    -- a value missing, one too many
    ∷ file bounds_names "3f800000 40000000 40400000 40800000 40a00000\n"
    ∷ file bounds_names "3f800000 40000000 40400000 40800000 40a00000 40c00000 40c00000\n"
    -- seven digits, nine, a letter that is no digit
    ∷ file bounds_names "3f800000 40000000 40400000 40800000 40a00000 40c0000\n"
    ∷ file bounds_names "3f800000 40000000 40400000 40800000 40a00000 40c000000\n"
    ∷ file bounds_names "3f80000g 40000000 40400000 40800000 40a00000 40c00000\n"
    -- thirteen values under fourteen names; a pad before m23
    ∷ (padded_names ++ start ++ bounds_names ++ bounds)
    ∷ ("time m00 m01 m02 m03 m10 m11 m12 m13 m20 m21 m22 pad m23\n" ++ bounds_names ++ bounds)
    ∷ []

all-depart : map said departing ≡ replicate 25 (MoveFile-departs, [])
unfolding computing departing
all-depart = refl
