-- Which number `write` gives: `none_number`, `some_number`, `accepted`; and what it leaves, in the two ways that it ends: `all-refused`, `all-written`.
use Prim.Native.Nat.{ℕ, ◌+◌, ◌*◌, ◌<◌, ◌≤◌}
use native.Mathlib.Omega.{arith}
use mathlib.Core.Path.{◌≡◌, refl, sym, ◌∙◌}
use mathlib.Core.List.{List, map}
use mathlib.Core.Bool.{Bool, true, false, cond}
use borrow.Author.Tests.{eq-eqb, ne_eqb, eqb-false, le-leb, leb-true}
use lib.Dec.{eqb, leb}
use lib.ListN.{length, take, drop}
use lib.Seq.{take-append_seam}
use Rattle.refusal.proofs.First.{first-zero}
use Rattle.refusal.specs.First.{first_refusal}
use Rattle.motion_text.specs.matrix4x4.Rows.{Rows}
use Rattle.bounds3.specs.declared.Bounds3f.{Bounds3f}
use Rattle.bounds3.specs.List.{Bounds3f-list}
use Rattle.bounds_query.specs.Query.{Bounds3f-refusal}
use Rattle.chain_rows.specs.motion_chain.Built.{Each}
use Rattle.chain_rows.specs.Kept.{Moves-chain}
use Rattle.kept_poses.specs.built_poses.Poses.{Chain-poses}
use Rattle.file_text.specs.Text.{pose_columns}
use Rattle.file_text.specs.RoundTrip.{Floats}
use Rattle.motion_text.specs.Answer.{text_left}
use Rattle.chain_text.specs.Write.{written, refused, TextAnswer-refusal, TextAnswer-length, TextAnswer-left}
use Rattle.chain_text.specs.Write.{Pose-values, room_refusal, Moves-text, Moves-write_refusal, Moves-write}
use Rattle.chain_text.specs.Theorem.{WrittenBack}
use Rattle.chain_text.proofs.Pieces.{text-length}
use Rattle.chain_text.proofs.Kept.{written_back}

-- a number, a length and a buffer afterwards, which are those of the answer, and a text that is read back, where nothing is refused
abbrev pub Clauses : List Rows → Bounds3f → ℕ → ℕ → List ℕ → List ℕ → Type 0
Clauses rows b number size old after =
    (number ≡ TextAnswer-refusal (Moves-write rows b (length old)))
    × ((size ≡ TextAnswer-length (Moves-write rows b (length old)))
    × ((after ≡ TextAnswer-left (Moves-write rows b (length old)) old)
    × (number ≡ 0 → WrittenBack rows b (take size after))))

front-taken : (text old : List ℕ) → length text ≤ length old → take (length text) (text_left text old) ≡ text
unfolding text_left
front-taken text old h = rw (le-leb (length text) (length old) h) (take-append_seam text (drop (length text) old))

-- ---- numbers
room-none : (room size : ℕ) → room_refusal room size ≡ 0 → size ≤ room
room-none room size = go (leb size room) refl
  where
    go : (p : Bool) → leb size room ≡ p → ◌≡◌ {A = ℕ} (cond p 0 15) 0 → size ≤ room
    go true e h = leb-true size room e
    go false e h = absurd (omega (arith, h))

module _ (rows : List Rows) (b : Bounds3f) (size : ℕ) where
  pub none_number : length rows ≡ 0 → 12 ≡ Moves-write_refusal rows b size
  unfolding Moves-write_refusal
  none_number e = rw (eq-eqb (length rows) 0 e)

  pub some_number : (length rows ≡ 0 → ⊥) → {text judged room r : ℕ} → text ≡ 255 + 126 * length rows → judged ≡ Bounds3f-refusal b
      → room ≡ room_refusal size text → r ≡ first_refusal judged room → r ≡ Moves-write_refusal rows b size
  unfolding Moves-write_refusal
  some_number some el ej er en =
      en ∙ rw (ej, er, el, ne_eqb (length rows) 0 some, text-length rows b (omega (arith, some)))

  -- nothing is refused only where there is a move and the text has room
  pub accepted : Moves-write_refusal rows b size ≡ 0 → (0 < length rows) × (255 + 126 * length rows ≤ size)
  unfolding Moves-write_refusal
  accepted = go (eqb (length rows) 0) (eqb-false (length rows) 0)
    where
      go : (t : Bool) → (t ≡ false → length rows ≡ 0 → ⊥)
          → cond t 12 (first_refusal (Bounds3f-refusal b) (room_refusal size (length (Moves-text rows b)))) ≡ 0
          → (0 < length rows) × (255 + 126 * length rows ≤ size)
      go true f z = absurd (omega (arith, z))
      go false f z =
          let some = f refl in
          let h : 0 < length rows = omega (arith, some) in
          let fit = room-none size (length (Moves-text rows b)) (first-zero (Bounds3f-refusal b) (room_refusal size (length (Moves-text rows b))) z).1 in
          (h, omega (arith, fit, text-length rows b h))

module _ (rows : List Rows) (b : Bounds3f) (old : List ℕ) {number : ℕ} (e : number ≡ Moves-write_refusal rows b (length old)) where
  pub all-refused : (number ≡ 0 → ⊥) → Clauses rows b number 0 old old
  all-refused n = rw answer (refl, (refl, (refl, λ z. absurd (n z))))
    where
      answer : Moves-write rows b (length old) ≡ refused number
      answer = unfold Moves-write in rw (← e, ne_eqb number 0 n)

  pub all-written : number ≡ 0 → {size : ℕ} → size ≡ 255 + 126 * length rows → (after : List ℕ) → after ≡ text_left (Moves-text rows b) old
      → Each (Floats pose_columns) (map Pose-values (Chain-poses (Moves-chain rows))) → Floats 6 (Bounds3f-list b)
      → Clauses rows b 0 size old after
  all-written z {size} es after ea floats box =
      let text = Moves-text rows b in
      let (some, fit) = accepted rows b (length old) (sym e ∙ z) in
      let own : size ≡ length text = es ∙ sym (text-length rows b some) in
      let taken : take size after ≡ text = rw (own, ea) (front-taken text old (omega (arith, fit, es, own))) in
      rw answer (refl, (own, (ea, λ _. rw taken (written_back rows b floats box))))
    where
      answer : Moves-write rows b (length old) ≡ written (Moves-text rows b)
      answer = unfold Moves-write in rw (← e, eq-eqb number 0 z)
