-- The text of a kept chain put into a buffer piece by piece: `put-end`, the end of one move more;
-- `put_all`, the names, the first pose, the moves' ends and the box. `text-length`.
use Prim.Native.Nat.{ℕ, suc, ◌+◌, ◌*◌, ◌≤◌, ◌<◌}
use native.Mathlib.Omega.{arith}
use mathlib.Core.Path.{◌≡◌, refl, sym, ◌∙◌, ap}
use mathlib.Core.List.{List, [], ◌++◌, map}
use lib.ListN.{length, take, drop, get_or, length-append}
use lib.Seq.{paste, take-append-le, drop_at, drop-drop, length-paste, drop-cons}
use Rattle.motion_text.specs.matrix4x4.Rows.{Rows}
use Rattle.bounds3.specs.declared.Bounds3f.{Bounds3f}
use Rattle.bounds3.specs.List.{Bounds3f-list}
use Rattle.lent_arrays.specs.pose_pair.declared.Pose.{Pose}
use Rattle.chain_rows.specs.motion_rows.Rows.{AnimatedTransform-from_rows}
use Rattle.kept_poses.specs.built_poses.Poses.{AnimatedTransform-start_pose, AnimatedTransform-end_pose}
use Rattle.motion_text.specs.Answer.{bounds_text, text_left}
use Rattle.motion_text.proofs.Pastes.{front_fits, paste-paste}
use Rattle.motion_text.proofs.Written.{length-values}
use Rattle.file_text.specs.Text.{values_text, lines_text}
use Rattle.chain_text.specs.Write.{Pose-values, Moves-text}
use Rattle.chain_text.specs.means.Lines.{Rows-start_values, Rows-end_values}
use Rattle.chain_text.proofs.Parts.{paste-next}
use Rattle.chain_text.proofs.Lines.{names_line, names-length, bounds-length, text-lines, ends_text, ends-length, ends-drop, ends-take}

-- the line of a pose is that of one which is the same
same_line : {p q : Pose} (old : List ℕ) (at : ℕ) {new : List ℕ} → new ≡ paste old at (values_text (Pose-values p)) 126 → p ≡ q
    → new ≡ paste old at (values_text (Pose-values q)) 126
same_line old at h e = h ∙ ap (λ (p : Pose). paste old at (values_text (Pose-values p)) 126) e

module _ (d : List ℕ) (rows : List Rows) (room : 183 + 126 * length rows ≤ length d) where
  pub ends-size : (i : ℕ) → i ≤ length rows → length (paste d 183 (ends_text rows) (126 * i)) ≡ length d
  ends-size i k = length-paste d 183 (ends_text rows) (126 * i) (omega (arith, room, k)) (omega (arith, ends-length rows, k))

  pub put-end : (i : ℕ) → i < length rows → {end : Pose} → end ≡ AnimatedTransform-end_pose (AnimatedTransform-from_rows (get_or rows i []))
      → (o p : List ℕ) → o ≡ paste d 183 (ends_text rows) (126 * i) → p ≡ paste o (183 + 126 * i) (values_text (Pose-values end)) 126
      → p ≡ paste d 183 (ends_text rows) (126 * (i + 1))
  put-end i k e o p eo ep =
      let line : take 126 (drop (126 * i) (ends_text rows)) ≡ take 126 (values_text (Rows-end_values (get_or rows i []))) =
      rw (ends-drop rows i (omega (arith, k)), drop-cons rows i [] k) (ends-take (get_or rows i []) (drop (suc i) rows)) in
      let next : 126 * (i + 1) ≡ 126 * i + 126 = omega arith in
      same_line o (183 + 126 * i) ep e
      ∙ rw (eo, next)
      (paste-paste d 183 (ends_text rows) (values_text (Rows-end_values (get_or rows i [])))
      (126 * i) 126 (omega (arith, room, k)) (omega (arith, ends-length rows, k)) line)

-- ---- the whole text
module _ (rows : List Rows) (b : Bounds3f) (h : 0 < length rows) where
  abbrev box : List ℕ
  box = bounds_text (Bounds3f-list b)

  abbrev first : List ℕ
  first = values_text (Rows-start_values (get_or rows 0 []))

  abbrev ends : List ℕ
  ends = ends_text rows ++ box

  abbrev text : List ℕ
  text = Moves-text rows b

  pub text-length : length (Moves-text rows b) ≡ 255 + 126 * length rows
  text-length =
      ap length (text-lines rows b h)
      ∙ length-append names_line (first ++ ends)
      ∙ rw (
        names-length,
        length-append first ends,
        length-values (Rows-start_values (get_or rows 0 [])),
        length-append (ends_text rows) box,
        ends-length rows,
        bounds-length b,
      ) (omega arith)

  behind-names : drop 57 text ≡ first ++ ends
  behind-names = ap (drop 57) (text-lines rows b h) ∙ drop_at names_line (first ++ ends) 57 names-length

  behind-first : drop 183 text ≡ ends
  behind-first =
      sym (drop-drop 126 57 text) ∙ ap (drop 126) behind-names ∙ drop_at first ends 126 (length-values (Rows-start_values (get_or rows 0 [])))

  behind-ends : drop (183 + 126 * length rows) text ≡ box
  behind-ends =
      sym (drop-drop (126 * length rows) 183 text)
      ∙ ap (drop (126 * length rows)) behind-first
      ∙ drop_at (ends_text rows) box (126 * length rows) (ends-length rows)

  module _ (d : List ℕ) (room : 255 + 126 * length rows ≤ length d) where
    put-names : (o : List ℕ) → o ≡ text_left names_line d → o ≡ paste d 0 text 57
    put-names o e =
        let fit : length names_line ≤ length d = omega (arith, names-length, room) in
        let same : take 57 text ≡ take 57 names_line =
        ap (take 57) (text-lines rows b h) ∙ take-append-le 57 names_line (first ++ ends) (omega (arith, names-length)) in
        e ∙ sym (front_fits names_line d fit) ∙ rw (names-length, same)

    pub put_all : {start : Pose} → start ≡ AnimatedTransform-start_pose (AnimatedTransform-from_rows (get_or rows 0 []))
        → (o₁ o₂ o₃ o₄ : List ℕ) → o₁ ≡ text_left names_line d → o₂ ≡ paste o₁ 57 (values_text (Pose-values start)) 126
        → o₃ ≡ paste o₂ 183 (lines_text (map Rows-end_values rows)) (126 * length rows)
        → o₄ ≡ paste o₃ (183 + 126 * length rows) (bounds_text (Bounds3f-list b)) 72 → o₄ ≡ text_left (Moves-text rows b) d
    put_all e o₁ o₂ o₃ o₄ e₁ e₂ e₃ e₄ =
        let n₁ : o₁ ≡ paste d 0 text 57 = put-names o₁ e₁ in
        let start : take 126 (drop 57 text) ≡ take 126 first =
        ap (take 126) behind-names ∙ take-append-le 126 first ends (omega (arith, length-values (Rows-start_values (get_or rows 0 [])))) in
        let n₂ : o₂ ≡ paste d 0 text 183 =
        same_line o₁ 57 e₂ e ∙ rw n₁ (paste-next d text first 57 126 (omega (arith, room)) (omega (arith, text-length)) start) in
        let middle : take (126 * length rows) (drop 183 text) ≡ take (126 * length rows) (ends_text rows) =
        ap (take (126 * length rows)) behind-first ∙ take-append-le (126 * length rows) (ends_text rows) box (omega (arith, ends-length rows)) in
        let n₃ : o₃ ≡ paste d 0 text (183 + 126 * length rows) =
        e₃ ∙ rw n₂ (paste-next d text (ends_text rows) 183 (126 * length rows) (omega (arith, room)) (omega (arith, text-length)) middle) in
        let last : take 72 (drop (183 + 126 * length rows) text) ≡ take 72 box = ap (take 72) behind-ends in
        let n₄ : o₄ ≡ paste d 0 text (183 + 126 * length rows + 72) =
        e₄ ∙ rw n₃ (paste-next d text box (183 + 126 * length rows) 72 (omega (arith, room)) (omega (arith, text-length)) last) in
        let end : 183 + 126 * length rows + 72 ≡ length text = omega (arith, text-length) in
        n₄ ∙ rw end (front_fits text d (omega (arith, text-length, room)))
