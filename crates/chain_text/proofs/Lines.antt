-- The text of a kept chain, line by line: `text-lines`; and the lines of its moves' ends: `ends-length`, `ends-drop`, `ends-take`.
use Prim.Native.Nat.{ℕ, zero, suc, ◌+◌, ◌*◌, ◌≤◌, ◌<◌}
use native.Mathlib.Omega.{arith}
use mathlib.Core.Path.{◌≡◌, refl, sym, ◌∙◌, ap}
use mathlib.Core.List.{List, [], ◌∷◌, ◌++◌, map, append_assoc}
use lib.Ieee.{Float}
use lib.ListN.{length, take, drop, get_or, length-append}
use lib.Seq.{take-append-le, drop_at, drop-drop}
use Rattle.motion_text.specs.matrix4x4.Rows.{Rows}
use Rattle.bounds3.specs.declared.Bounds3f.{Bounds3f}
use Rattle.bounds3.specs.List.{Bounds3f-list}
use Rattle.chain_rows.specs.motion_rows.Rows.{AnimatedTransform-from_rows}
use Rattle.kept_poses.specs.built_poses.Poses.{AnimatedTransform-end_pose, Chain-poses}
use Rattle.chain_rows.specs.Kept.{Moves-chain}
use Rattle.motion_text.specs.motion_file.Text.{ascii}
use Rattle.motion_text.specs.Answer.{bounds_text}
use Rattle.motion_text.proofs.Written.{length-values, length-bounds}
use Rattle.file_text.specs.Text.{values_text, lines_text, file_text}
use Rattle.chain_text.specs.Write.{Pose-values, Moves-text}
use Rattle.chain_text.specs.means.Lines.{Rows-start_values, Rows-end_values}

abbrev pub names_line : List ℕ
names_line = ascii "time m00 m01 m02 m03 m10 m11 m12 m13 m20 m21 m22 m23 pad\n"

pub names-length : length names_line ≡ 57
unfolding ascii
names-length = refl

pub bounds-length : (b : Bounds3f) → length (bounds_text (Bounds3f-list b)) ≡ 72
bounds-length b = length-bounds (Bounds3f-list b) refl

pub ends-map : (rows : List Rows) → map Pose-values (map AnimatedTransform-end_pose (map AnimatedTransform-from_rows rows)) ≡ map Rows-end_values rows
ends-map [] = refl
ends-map (m ∷ rows) = ap (λ (l : List (List Float)). Rows-end_values m ∷ l) (ends-map rows)

pub text-lines : (rows : List Rows) (b : Bounds3f) → 0 < length rows
    → Moves-text rows b ≡ names_line ++ (values_text (Rows-start_values (get_or rows 0 [])) ++ (lines_text (map Rows-end_values rows) ++ bounds_text (Bounds3f-list b)))
unfolding Moves-text file_text Chain-poses Moves-chain lines_text ascii
text-lines [] b h = absurd (omega (arith, h))
text-lines (m ∷ rows) b h =
    rw (ends-map rows, append_assoc (values_text (Rows-start_values m)) (lines_text (map Rows-end_values (m ∷ rows))) (bounds_text (Bounds3f-list b)))

-- ---- the lines of the moves' ends, 14 values each
abbrev pub ends_text : List Rows → List ℕ
ends_text rows = lines_text (map Rows-end_values rows)

pub ends-length : (rows : List Rows) → length (ends_text rows) ≡ 126 * length rows
unfolding lines_text
ends-length [] = refl
ends-length (m ∷ rows) =
    length-append (values_text (Rows-end_values m)) (ends_text rows) ∙ rw (length-values (Rows-end_values m), ends-length rows) (omega arith)

pub ends-drop : (rows : List Rows) (i : ℕ) → i ≤ length rows → drop (126 * i) (ends_text rows) ≡ ends_text (drop i rows)
unfolding lines_text
ends-drop rows zero h = refl
ends-drop [] (suc i) h = absurd (omega (arith, h))
ends-drop (m ∷ rows) (suc i) h =
    let e : 126 * suc i ≡ 126 + 126 * i = omega arith in
    rw (
      e,
      ← drop-drop (126 * i) 126 (values_text (Rows-end_values m) ++ ends_text rows),
      drop_at (values_text (Rows-end_values m)) (ends_text rows) 126 (length-values (Rows-end_values m)),
    )
    (ends-drop rows i (omega (arith, h)))

pub ends-take : (m : Rows) (rows : List Rows) → take 126 (ends_text (m ∷ rows)) ≡ take 126 (values_text (Rows-end_values m))
unfolding lines_text
ends-take m rows = take-append-le 126 (values_text (Rows-end_values m)) (ends_text rows) (omega (arith, length-values (Rows-end_values m)))
