-- The writer gives 6, 7, 12 and 15 alone, and the program `rewrite` document 01's and 02's numbers of a file: `every-file-answer`.
use Prim.Native.Nat.{ℕ}
use mathlib.Core.Path.{◌≡◌, refl, sym, ap, ◌∙◌}
use mathlib.Core.Bool.{Bool, true, false, cond}
use mathlib.Core.Logic.{◌⊎◌, inl, inr}
use mathlib.Core.List.{List, [], ◌∷◌}
use native.Mathlib.Omega.{arith}
use borrow.Author.Tests.{eqb-true, eqb-false, eq-eqb, ne_eqb}
use lib.Dec.{eqb, leb}
use lib.ListN.{length}
use Rattle.run_schedule.proofs.control_flow.Choice.{cond-keeps}
use Rattle.run_schedule.specs.matrix4x4.Rows.{Rows}
use Rattle.run_schedule.specs.bounds3.declared.Bounds3f.{Bounds3f}
use Rattle.run_schedule.specs.transform.Answer.{OneOf}
use Rattle.run_schedule.proofs.transform.Answer.{one-of-more}
use Rattle.run_schedule.specs.bounds_query.Query.{Bounds3f-refusal}
use Rattle.run_schedule.proofs.bounds_query.Numbers.{box-keeps}
use Rattle.refused_run.specs.motion_chain.Chain.{Chain, ChainAnswer, built, refused, ChainAnswer-refusal, Chain-new}
use Rattle.refused_run.proofs.motion_chain.Built.{refused-built}
use Rattle.refused_run.specs.chain_poses.Poses.{Poses-of_lists}
use Rattle.file_rewrite.specs.motion_file.declared.MoveFile.{MoveFile}
use Rattle.file_rewrite.specs.motion_file.Layout.{MoveFile-departs, MoveFile-read, MoveFile-box, MoveFile-poses}
use Rattle.file_rewrite.proofs.motion_file.Files.{read-refusals}
use Rattle.file_rewrite.specs.motion_text.Answer.{refusal_text}
use Rattle.file_rewrite.specs.motion_answer.Answer.{MoveFile-chain}
use Rattle.file_rewrite.proofs.motion_answer.Built.{poses-affine}
use Rattle.file_rewrite.specs.file_text.Text.{Chain-text, MoveFile-written}
use Rattle.file_rewrite.proofs.file_text.Same.{accepted-written}
use Rattle.file_rewrite.specs.chain_text.Write.{written, refused as refused_by, TextAnswer-refusal, room_refusal, Moves-text, Moves-write_refusal, Moves-write}
use Rattle.file_rewrite.specs.Rewrite.{boxed_text, ChainAnswer-text, rewritten_text}
use Rattle.refusal_numbers.specs.Chain.{ChainAnswer-Numbered}
use Rattle.refusal_numbers.specs.Files.{Rewritten-Numbered, form, number, EveryFileAnswer}
use Rattle.refusal_numbers.proofs.Chain.{building-numbered}
use Rattle.refusal_numbers.proofs.File.{Not2, chain-affine}

-- ---- the box
box-number : (b : Bounds3f) → OneOf (Bounds3f-refusal b) (0 ∷ 6 ∷ 7 ∷ [])
box-number b = box-keeps (λ (n : ℕ). OneOf n (0 ∷ 6 ∷ 7 ∷ [])) b (inl refl) (inr (inl refl)) (inr (inr (inl refl)))

-- ---- the writer
abbrev Number : ℕ → Type 0
Number n = OneOf n (0 ∷ 6 ∷ 7 ∷ 12 ∷ 15 ∷ [])

refusal-number : (rows : List Rows) (b : Bounds3f) (room : ℕ) → Number (Moves-write_refusal rows b room)
unfolding Moves-write_refusal
refusal-number rows b room =
    let short = cond-keeps Number (leb (length (Moves-text rows b)) room) 0 15 (inl refl) (inr (inr (inr (inr (inl refl))))) in
    let judged = cond-keeps Number (eqb (Bounds3f-refusal b) 0) _ (Bounds3f-refusal b) short (one-of-more _ (0 ∷ 6 ∷ 7 ∷ []) (12 ∷ 15 ∷ []) (box-number b)) in
    cond-keeps Number (eqb (length rows) 0) 12 _ (inr (inr (inr (inl refl)))) judged

write-number : (rows : List Rows) (b : Bounds3f) (room : ℕ) → Number (TextAnswer-refusal (Moves-write rows b room))
unfolding Moves-write
write-number rows b room = go (eqb (Moves-write_refusal rows b room) 0)
  where
    go : (p : Bool) → Number (TextAnswer-refusal (cond p (written (Moves-text rows b)) (refused_by (Moves-write_refusal rows b room))))
    go true = inl refl
    go false = refusal-number rows b room

-- ---- a file
abbrev Printed : List ℕ → Type 0
Printed = Rewritten-Numbered (1 ∷ 3 ∷ 4 ∷ 5 ∷ 6 ∷ 7 ∷ 11 ∷ 12 ∷ 16 ∷ [])

abbrev FileNumber : ℕ → Type 0
FileNumber n = OneOf n (1 ∷ 3 ∷ 4 ∷ 5 ∷ 6 ∷ 7 ∷ 11 ∷ 12 ∷ 16 ∷ [])

of-building : {n : ℕ} → OneOf n (0 ∷ 1 ∷ 2 ∷ 3 ∷ 4 ∷ 5 ∷ 12 ∷ 16 ∷ []) → (n ≡ 0 → ⊥) → Not2 n → FileNumber n
of-building (inl e) z t = absurd (z e)
of-building (inr (inl e)) z t = inl e
of-building (inr (inr (inl e))) z t = absurd (t e)
of-building (inr (inr (inr (inl e)))) z t = inr (inl e)
of-building (inr (inr (inr (inr (inl e))))) z t = inr (inr (inl e))
of-building (inr (inr (inr (inr (inr (inl e)))))) z t = inr (inr (inr (inl e)))
of-building (inr (inr (inr (inr (inr (inr (inl e))))))) z t = inr (inr (inr (inr (inr (inr (inr (inl e)))))))
of-building (inr (inr (inr (inr (inr (inr (inr (inl e)))))))) z t = inr (inr (inr (inr (inr (inr (inr (inr (inl e))))))))
of-building (inr (inr (inr (inr (inr (inr (inr (inr x)))))))) z t = elim x [ ]

of-box : {n : ℕ} → OneOf n (0 ∷ 6 ∷ 7 ∷ []) → (n ≡ 0 → ⊥) → FileNumber n
of-box (inl e) z = absurd (z e)
of-box (inr (inl e)) z = inr (inr (inr (inr (inl e))))
of-box (inr (inr (inl e))) z = inr (inr (inr (inr (inr (inl e)))))
of-box (inr (inr (inr x))) z = elim x [ ]

module _ (bytes : List ℕ) where
  abbrev answer : ChainAnswer
  answer = Chain-new false (Poses-of_lists (MoveFile-poses bytes))

  departed : MoveFile-read bytes ≡ MoveFile-departs → rewritten_text bytes ≡ refusal_text 11
  unfolding rewritten_text
  departed e = rw e

  kept : (MoveFile-read bytes).refusal ≡ 0 → rewritten_text bytes ≡ ChainAnswer-text answer (MoveFile-box bytes)
  unfolding MoveFile-chain rewritten_text
  kept z = rw (eq-eqb (MoveFile-read bytes).refusal 0 z)

  refused-text : (n : ℕ) → answer ≡ refused n → ChainAnswer-text answer (MoveFile-box bytes) ≡ refusal_text n
  unfolding ChainAnswer-text
  refused-text n e = rw e

  boxed : (c : Chain) → answer ≡ built c → (Bounds3f-refusal (MoveFile-box bytes) ≡ 0 → ⊥)
      → ChainAnswer-text answer (MoveFile-box bytes) ≡ refusal_text (Bounds3f-refusal (MoveFile-box bytes))
  unfolding ChainAnswer-text boxed_text
  boxed c e h = rw (e, ne_eqb (Bounds3f-refusal (MoveFile-box bytes)) 0 h)

  own : (c : Chain) → answer ≡ built c → Bounds3f-refusal (MoveFile-box bytes) ≡ 0
      → ChainAnswer-text answer (MoveFile-box bytes) ≡ Chain-text c (MoveFile-box bytes)
  unfolding ChainAnswer-text boxed_text
  own c e h = rw (e, eq-eqb (Bounds3f-refusal (MoveFile-box bytes)) 0 h)

  refused-numbered : (MoveFile-read bytes).refusal ≡ 0 → (n : ℕ) → answer ≡ refused n → Printed bytes
  refused-numbered z n e =
      let h = building-numbered false (Poses-of_lists (MoveFile-poses bytes)) in
      let not_none : n ≡ 0 → ⊥ = λ k. let (c, s) = h.none (ap ChainAnswer-refusal e ∙ k) in absurd (refused-built (sym e ∙ s)) in
      let not-two = rw e at (chain-affine false (Poses-of_lists (MoveFile-poses bytes)) (poses-affine bytes)) in
      number n (of-building (rw e at h.number) not_none not-two) (kept z ∙ refused-text n e)

  built-numbered : (MoveFile-read bytes).refusal ≡ 0 → (c : Chain) → answer ≡ built c → Printed bytes
  built-numbered z c e = go (eqb (Bounds3f-refusal (MoveFile-box bytes)) 0) refl
    where
      go : (p : Bool) → eqb (Bounds3f-refusal (MoveFile-box bytes)) 0 ≡ p → Printed bytes
      go true h =
          let none = eqb-true (Bounds3f-refusal (MoveFile-box bytes)) 0 h in
          form (kept z ∙ own c e none ∙ accepted-written bytes c (record { layout = z; chain = e; box = none }))
      go false h =
          let some = eqb-false (Bounds3f-refusal (MoveFile-box bytes)) 0 h in
          number (Bounds3f-refusal (MoveFile-box bytes)) (of-box (box-number (MoveFile-box bytes)) some) (kept z ∙ boxed c e some)

  chain-numbered : (MoveFile-read bytes).refusal ≡ 0 → (a : ChainAnswer) → answer ≡ a → Printed bytes
  chain-numbered z (built c) e = built-numbered z c e
  chain-numbered z (refused n) e = refused-numbered z n e

  file-numbered : Printed bytes
  file-numbered = go (read-refusals bytes)
    where
      go : ((MoveFile-read bytes).refusal ≡ 0) ⊎ (MoveFile-read bytes ≡ MoveFile-departs) → Printed bytes
      go (inl z) = chain-numbered z answer refl
      go (inr e) = number 11 (inr (inr (inr (inr (inr (inr (inl refl))))))) (departed e)

pub every-file-answer : EveryFileAnswer
every-file-answer = record { writing = write-number; rewriting = file-numbered }
