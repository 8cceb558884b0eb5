-- Written forms, computed by antt from the definitions: `all-written`, a row for each file, and `hypotheses-met`, an accepted file, as `same_bits` asks of two.
use Prim.Native.Nat.{ℕ}
use Prim.Native.String.{String, ◌++◌}
use mathlib.Core.Path.{◌≡◌, refl, ap, ◌∙◌}
use mathlib.Core.Bool.{false}
use mathlib.Core.List.{List, [], ◌∷◌, map}
use lib.Ieee.{Float, binary32, of_bits, to_bits}
use Rattle.motion_text.specs.hexadecimal.Digit.{digit_value}
use Rattle.motion_text.specs.hexadecimal.Word.{digits, digits_only, number}
use Rattle.built_poses.specs.animated_transform.New.{AnimatedTransform-new}
use Rattle.built_poses.specs.lent_arrays.Arrays.{Pose-of_list}
use Rattle.built_poses.specs.motion_chain.Chain.{Chain, built, Chain-new}
use Rattle.built_poses.specs.motion_chain.means.Computing as chain
use Rattle.built_poses.specs.chain_poses.Poses.{Poses-of_lists}
use Rattle.motion_text.specs.motion_file.Text.{ascii, split, single_spaced, equal}
use Rattle.motion_text.specs.motion_file.Layout.{all_values, fits, values_of, conforms, keeps_columns, has_pads, keeps_layout, pose_of, MoveFile-read, MoveFile-poses}
use Rattle.motion_text.specs.Answer.{line, bounds_text}
use Rattle.file_text.specs.Text.{lines_text, file_text, MoveFile-text, MoveFile-written}
use Rattle.file_text.specs.Theorem.{MoveFile-Accepted}

unfoldable reading : Unit {0}
unfolding ascii split single_spaced equal all_values fits values_of conforms keeps_columns has_pads keeps_layout pose_of MoveFile-read MoveFile-poses digits_only number
    digit_value of_bits
reading = tt

unfoldable computing : Unit {0}
unfolding reading digits to_bits line bounds_text lines_text file_text MoveFile-text MoveFile-written
computing = tt

abbrev pose_names : String
pose_names = "time m00 m01 m02 m03 m10 m11 m12 m13 m20 m21 m22 m23 pad\n"

-- the identity at a time, with a pad of 2; with m03 = −0 and a pad of −0
abbrev identity_at : String → String
identity_at t = t ++ " 3f800000 00000000 00000000 00000000 00000000 3f800000 00000000 00000000 00000000 00000000 3f800000 00000000 40000000\n"

abbrev minus_zero_at : String → String
minus_zero_at t = t ++ " 3f800000 00000000 00000000 80000000 00000000 3f800000 00000000 00000000 00000000 00000000 3f800000 00000000 80000000\n"

-- the identity as a line of thirteen values, and as it is written
abbrev thirteen_at : String → String
thirteen_at t = t ++ " 3f800000 00000000 00000000 00000000 00000000 3f800000 00000000 00000000 00000000 00000000 3f800000 00000000"

abbrev box : String
box = "x0 y0 z0 x1 y1 z1\n3f800000 40000000 40400000 40800000 40a00000 40c00000\n"

record Row : Type 0 where
  file : String
  written : String

rows : List Row
rows =
    -- a written form is its own
    record {
      file = pose_names ++ identity_at "00000000" ++ minus_zero_at "3f800000" ++ box;
      written = pose_names ++ identity_at "00000000" ++ minus_zero_at "3f800000" ++ box;
    }
    -- several spaces, upper case
    ∷ record {
      file =
          "time  m00 m01 m02 m03 m10 m11 m12 m13   m20 m21 m22 m23  pad\n" ++ identity_at "00000000 "
          ++ "3F800000 3F800000 00000000  00000000 80000000 00000000 3f800000 00000000 00000000 00000000 00000000 3f800000    00000000 80000000\n"
          ++ "x0 y0 z0 x1 y1  z1\n3f800000 40000000 40400000 40800000 40A00000  40C00000\n";
      written = pose_names ++ identity_at "00000000" ++ minus_zero_at "3f800000" ++ box;
    }
    ∷ record { file = pose_names ++ box; written = pose_names ++ box }
    -- the old thirteen names: a pad of +0
    ∷ record {
      file = "time m00 m01 m02 m03 m10 m11 m12 m13 m20 m21 m22 m23\n" ++ thirteen_at "00000000" ++ "\n" ++ box;
      written = pose_names ++ thirteen_at "00000000" ++ " 00000000\n" ++ box;
    }
    ∷ []

all-written : map (λ (row : Row). MoveFile-written (ascii row.file)) rows ≡ map (λ (row : Row). ascii row.written) rows
unfolding computing rows
all-written = refl

-- ---- an accepted file
abbrev file : String
file = pose_names ++ identity_at "00000000" ++ minus_zero_at "3f800000" ++ box

-- its poses by the bits of time, m03 and pad
abbrev pose : ℕ → ℕ → ℕ → List Float
pose t x pad = map (of_bits binary32) (t ∷ 0x3f800000 ∷ 0 ∷ 0 ∷ x ∷ 0 ∷ 0x3f800000 ∷ 0 ∷ 0 ∷ 0 ∷ 0 ∷ 0x3f800000 ∷ 0 ∷ 0 ∷ 0 ∷ 0 ∷ 0x3f800000 ∷ pad ∷ [])

abbrev start : List Float
start = pose 0 0 0x40000000

abbrev end : List Float
end = pose 0x3f800000 0x80000000 0x80000000

file-poses : MoveFile-poses (ascii file) ≡ start ∷ end ∷ []
unfolding computing
file-poses = refl

move : Chain
move = record { first = (AnimatedTransform-new false (Pose-of_list start) (Pose-of_list end)).value; rest = [] }

poses-built : Chain-new false (Poses-of_lists (start ∷ end ∷ [])) ≡ built move
unfolding chain.computing of_bits Poses-of_lists move
poses-built = refl

file-built : Chain-new false (Poses-of_lists (MoveFile-poses (ascii file))) ≡ built move
file-built = ap (λ (poses : List (List Float)). Chain-new false (Poses-of_lists poses)) file-poses ∙ poses-built

hypotheses-met : MoveFile-Accepted (ascii file) move
unfolding computing chain.computing
hypotheses-met = record { layout = refl; chain = file-built; box = refl }
