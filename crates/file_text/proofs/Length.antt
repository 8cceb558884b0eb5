-- How long a text is: `text-length`, over any names and any number of columns, and `move-text-length`; of a chain's
-- text: `chain-text-length`.
use Prim.Native.Nat.{ℕ, ◌*◌, ◌≤◌}
use native.Mathlib.Omega.{arith}
use mathlib.Core.Path.{◌≡◌, refl, ◌∙◌}
use mathlib.Core.List.{List, [], ◌∷◌, ◌++◌, map}
use lib.ListN.{length, get_or, take, length-append, length-map}
use lib.Seq.{length-take-le}
use lib.Ieee.{Float, binary32, of_bits}
use Rattle.motion_text.specs.bounds3.declared.Bounds3f.{Bounds3f}
use Rattle.motion_text.specs.bounds3.List.{Bounds3f-list}
use Rattle.built_poses.specs.motion_chain.Chain.{Chain}
use Rattle.built_poses.specs.motion_chain.Built.{Each}
use Rattle.built_poses.specs.Poses.{places_per_pose, Chain-poses, Poses-lists}
use Rattle.built_poses.proofs.Lists.{poses-count}
use Rattle.motion_text.specs.motion_file.Text.{ascii, line_feed}
use Rattle.motion_text.specs.motion_file.Layout.{padded_names}
use Rattle.motion_text.specs.Answer.{bounds_text}
use Rattle.motion_text.proofs.Written.{length-values, length-bounds}
use Rattle.file_text.specs.Text.{values_text, lines_text, file_text, pose_columns, pose_values, MoveFile-text, Chain-text}
use Rattle.file_text.specs.RoundTrip.{TextLength}
use Rattle.file_text.specs.Theorem.{MoveTextLength, ChainTextLength}

pub lines-length : (columns : ℕ) (lines : List (List Float)) → Each (λ values. length values ≡ columns) lines
    → length (lines_text lines) ≡ 9 * columns * length lines
unfolding lines_text
lines-length columns [] hs = omega arith
lines-length columns (values ∷ lines) (h, hs) =
    length-append (values_text values) (lines_text lines) ∙ rw (length-values values, h, lines-length columns lines hs) (omega arith)

pub text-length : (text : List ℕ) (columns : ℕ) → TextLength text columns
unfolding file_text
text-length text columns lines bounds hs h =
    length-append text (line_feed ∷ (lines_text lines ++ bounds_text bounds))
    ∙ rw (length-append (lines_text lines) (bounds_text bounds), lines-length columns lines hs, length-bounds bounds h) (omega arith)

pub poses-columns : (poses : List (List Float)) → Each (λ pose. places_per_pose ≤ length pose) poses
    → Each (λ values. length values ≡ pose_columns) (map pose_values poses)
poses-columns [] hs = tt
poses-columns (pose ∷ poses) (h, hs) = (columns-count h, poses-columns poses hs)
  where
    columns-count : places_per_pose ≤ length pose → length (pose_values pose) ≡ pose_columns
    columns-count enough = length-append (take 13 pose) (get_or pose 17 (of_bits binary32 0) ∷ []) ∙ rw (length-take-le 13 pose (omega (arith, enough)))

pub move-text-length : (poses : List (List Float)) (bounds : List Float) → MoveTextLength poses bounds
unfolding MoveFile-text ascii
move-text-length poses bounds hs h =
    text-length padded_names pose_columns (map pose_values poses) bounds (poses-columns poses hs) h ∙ rw (length-map poses pose_values) refl

pub chain-text-length : (c : Chain) (b : Bounds3f) → ChainTextLength c b
unfolding Chain-text
chain-text-length c b hs =
    move-text-length (Poses-lists (Chain-poses c)) (Bounds3f-list b) hs refl ∙ rw (poses-count c) refl
