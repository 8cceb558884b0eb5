-- What is printed, in the ways in which the code comes by it: of a run `run-refused`, `run-accepted` and `run-lines`,
-- of poses `poses-printed`, of a file `file-refused` and `file-printed`.
use Prim.Native.Nat.{ℕ, ◌+◌, ◌-◌, ◌≤◌}
use native.Mathlib.Nat.{min-le_left}
use native.Mathlib.Omega.{arith}
use mathlib.Core.Path.{◌≡◌, refl, sym, ap, ◌∙◌}
use mathlib.Core.Bool.{false}
use mathlib.Core.List.{List, ◌++◌}
use lib.Ieee.{Float}
use lib.ListN.{length, take, drop, length-append, length-take, length-drop}
use lib.Seq.{take_at, take_all}
use borrow.Author.Tests.{eq-eqb, ne_eqb}
use Rattle.chain_number.specs.pose_pair.declared.Pose.{Pose}
use Rattle.chain_number.specs.chain_poses.Poses.{Poses-of_lists}
use Rattle.chain_number.specs.Number.{Chain-number}
use Rattle.refused_run.specs.declared.Run.{Run}
use Rattle.refused_run.specs.Run.{shortest_run}
use Rattle.motion_text.specs.motion_file.declared.MoveFile.{MoveFile}
use Rattle.motion_text.specs.motion_file.Text.{ascii}
use Rattle.motion_text.specs.motion_file.Layout.{MoveFile-read, MoveFile-poses}
use Rattle.motion_text.specs.motion_file.Front as lent
use Rattle.motion_text.proofs.motion_file.Files.{poses-length}
use Rattle.motion_text.specs.Answer.{refusal_text, text_left, length_in}
use Rattle.motion_text.proofs.Pastes.{length_in-fits}
use Rattle.motion_text.proofs.Written.{refusal-bound}
use Rattle.file_stretch.specs.Stretch.{lines_text, run_text, poses_text, stretch_text}
use Rattle.file_stretch.proofs.Pieces.{front-size, both-written}

-- ---- a text with room
-- what a function that puts a text into the front of a buffer with room gives
abbrev pub Put : List ℕ → List ℕ → List ℕ → ℕ → Type 0
Put text buffer after r = (r ≡ length text) × ((after ≡ text_left text buffer) × (r ≤ 32))

pub refusal-put : (n : ℕ) (buffer after : List ℕ) (r : ℕ) → 32 ≤ length buffer → r ≡ length_in (refusal_text n) buffer → after ≡ text_left (refusal_text n) buffer
    → Put (refusal_text n) buffer after r
refusal-put n buffer after r room er ea =
    let bound = refusal-bound n in
    let e : r ≡ length (refusal_text n) = er ∙ sym (length_in-fits (refusal_text n) buffer (omega (arith, bound, room))) in
    (e, (ea, omega (arith, e, bound)))

-- what is left of the buffer behind the first bytes
pub part_room : (text buffer half : List ℕ) (n : ℕ) → n ≤ 12 → 32 ≤ length buffer
    → half ≡ text_left text buffer → 17 ≤ length (take (length half - n) (drop n half))
part_room text buffer half n h room e =
    let size : length half ≡ length buffer = ap length e ∙ front-size text buffer in
    let left : length (drop n half) ≡ length half - n = length-drop n half in
    rw (take_all (length half - n) (drop n half) (omega (arith, left))) (omega (arith, left, size, h, room))

-- ---- a run
module _ (number : ℕ) (run : Run) where
  pub run-refused : (run.refusal ≡ 0 → ⊥) → run_text number run ≡ refusal_text run.refusal
  unfolding run_text
  run-refused h = rw (ne_eqb run.refusal 0 h)

  pub run-accepted : (buffer after : List ℕ) (r : ℕ) → run.refusal ≡ 0 → run.length ≡ 0 → 32 ≤ length buffer → r ≡ length_in (ascii "accepted\n") buffer
      → after ≡ text_left (ascii "accepted\n") buffer → Put (run_text number run) buffer after r
  unfolding run_text
  run-accepted buffer after r z l room er ea =
      let nine : length (ascii "accepted\n") ≡ 9 = unfold ascii in refl in
      let e : r ≡ length (ascii "accepted\n") = er ∙ sym (length_in-fits (ascii "accepted\n") buffer (omega (arith, nine, room))) in
      rw (eq-eqb run.refusal 0 z, eq-eqb run.length 0 l) (e, (ea, omega (arith, e, nine)))

  pub run-lines : (buffer half after : List ℕ) (n m : ℕ) → run.refusal ≡ 0 → (run.length ≡ 0 → ⊥) → 32 ≤ length buffer
      → n ≡ length_in (refusal_text number) buffer → half ≡ text_left (refusal_text number) buffer
      → m ≡ length (lines_text (run.place + 2) (run.place + run.length + 1)) → m ≤ 17
      → after
      ≡ take n half
      ++ (text_left (lines_text (run.place + 2) (run.place + run.length + 1)) (take (length half - n) (drop n half)) ++ drop (length half - n) (drop n half))
      → Put (run_text number run) buffer after (n + m)
  unfolding run_text
  run-lines buffer half after n m z l room en written em bound e =
      let lines = lines_text (run.place + 2) (run.place + run.length + 1) in
      let counted = (refusal-put number buffer half n room en written).0 in
      let few = refusal-bound number in
      let joined = length-append (refusal_text number) lines in
      rw (eq-eqb run.refusal 0 z, ne_eqb run.length 0 l) (
        omega (arith, joined, counted, em),
        (
          both-written (refusal_text number) lines buffer half n counted (omega (arith, counted, few, em, bound, room)) written after e,
          omega (arith, counted, few, bound),
        ),
      )

-- ---- poses
pub poses-printed : (poses : List Pose) (number : ℕ) (run : Run) → number ≡ Chain-number false poses
    → run ≡ shortest_run false poses → poses_text poses ≡ run_text number run
unfolding poses_text
poses-printed poses number run en er = rw (en, er)

-- ---- a file
pub taken-length : {A : Type 0} (n : ℕ) (l : List A) → length (take n l) ≤ n
taken-length n l = rw (length-take n l) (min-le_left n (length l))

module _ (bytes : List ℕ) (file : MoveFile) (e : file ≡ MoveFile-read bytes) where
  pub file-refused : (file.refusal ≡ 0 → ⊥) → stretch_text bytes ≡ refusal_text file.refusal
  unfolding stretch_text
  file-refused h = rw (← e, ne_eqb file.refusal 0 h)

  pub file-printed : (old left : List (List Float)) → file.refusal ≡ 0 → left ≡ lent.front (MoveFile-poses bytes) old
      → stretch_text bytes ≡ poses_text (Poses-of_lists (take file.count left))
  unfolding stretch_text
  file-printed old left h el =
      let poses = MoveFile-poses bytes in
      let whole : take file.count left ≡ poses = rw (el, e) (take_at poses (drop (length poses) old) (MoveFile-read bytes).count (poses-length bytes)) in
      rw (whole, ← e, eq-eqb file.refusal 0 h)
