-- What is printed, in the ways in which the code comes by it: `box-printed` and `text-printed` of a kept chain,
-- `refused-printed` and `built-printed` of poses, `file-refused` and `file-printed` of a file.
use Prim.Native.Nat.{ℕ, ◌≤◌, ◌<◌}
use native.Mathlib.Omega.{arith}
use mathlib.Core.Path.{◌≡◌, refl, sym, ◌∙◌, ap}
use mathlib.Core.Bool.{Bool, true, false, cond}
use mathlib.Core.List.{List}
use lib.Dec.{leb}
use lib.Ieee.{Float}
use lib.ListN.{length, take, drop}
use lib.Seq.{take_at}
use borrow.Author.Tests.{eq-eqb, ne_eqb, leb-true, leb-false}
use Rattle.motion_text.specs.matrix4x4.Rows.{Rows}
use Rattle.bounds3.specs.declared.Bounds3f.{Bounds3f}
use Rattle.bounds3.specs.List.{Bounds3f-of_list}
use Rattle.bounds_query.specs.Query.{Bounds3f-refusal}
use Rattle.chain_build.specs.motion_chain.Chain.{Chain, ChainAnswer, built, refused, ChainAnswer-refusal, Chain-new}
use Rattle.chain_build.proofs.motion_chain.Built.{none-built}
use Rattle.chain_build.specs.chain_poses.Poses.{Poses-of_lists}
use Rattle.chain_build.specs.chain_rows.Kept.{Chain-to_rows}
use Rattle.motion_text.specs.motion_file.declared.MoveFile.{MoveFile}
use Rattle.motion_text.specs.motion_file.Layout.{MoveFile-read, MoveFile-poses}
use Rattle.motion_text.specs.motion_file.Front as lent
use Rattle.motion_text.proofs.motion_file.Files.{poses-length}
use Rattle.motion_text.specs.Answer.{refusal_text}
use Rattle.motion_text.proofs.Pastes.{Wrote, wrote_none, length_in-fits, front-counts}
use Rattle.chain_text.specs.Write.{written, refused as refused_by, Moves-text, Moves-write_refusal, Moves-write, TextAnswer-length, TextAnswer-left}
use Rattle.chain_text.proofs.Kept.{kept-text}
use Rattle.motion_answer.specs.Answer.{MoveFile-chain}
use Rattle.file_rewrite.specs.Rewrite.{boxed_text, ChainAnswer-text, rewritten_text}

-- ---- a kept chain
pub box-printed : (b : Bounds3f) (text : List ℕ) {n : ℕ} → n ≡ Bounds3f-refusal b → (n ≡ 0 → ⊥) → boxed_text b text ≡ refusal_text n
unfolding boxed_text
box-printed b text e h = rw (← e, ne_eqb _ 0 h)

module _ (rows : List Rows) (b : Bounds3f) (old after : List ℕ) (size : ℕ) (some : length rows ≡ 0 → ⊥) (none : Bounds3f-refusal b ≡ 0) where
  abbrev text : List ℕ
  text = Moves-text rows b

  number_of : (q : Bool) → leb (length text) (length old) ≡ q → Moves-write_refusal rows b (length old) ≡ cond q 0 15
  unfolding Moves-write_refusal
  number_of q e = rw (ne_eqb (length rows) 0 some, none, e)

  answer-written : leb (length text) (length old) ≡ true → Moves-write rows b (length old) ≡ written text
  unfolding Moves-write
  answer-written e = rw (number_of true e)

  answer-refused : leb (length text) (length old) ≡ false → Moves-write rows b (length old) ≡ refused_by 15
  unfolding Moves-write
  answer-refused e = rw (number_of false e)

  text-left : size ≡ TextAnswer-length (Moves-write rows b (length old))
      → after ≡ TextAnswer-left (Moves-write rows b (length old)) old → Wrote text old after size
  text-left es ea = go (leb (length text) (length old)) refl
    where
      go : (p : Bool) → leb (length text) (length old) ≡ p → Wrote text old after size
      go true e =
          let fit = leb-true (length text) (length old) e in
          rw (rw (answer-written e) at es, rw (answer-written e) at ea) (length_in-fits text old fit, (refl, front-counts text old fit))
      go false e =
          rw (rw (answer-refused e) at es, rw (answer-refused e) at ea) (wrote_none text old (leb-false (length text) (length old) e))

pub text-printed : (rows : List Rows) (b : Bounds3f) (old after : List ℕ) (size n : ℕ) → 0 < length rows → n ≡ Bounds3f-refusal b → n ≡ 0
    → size ≡ TextAnswer-length (Moves-write rows b (length old)) → after ≡ TextAnswer-left (Moves-write rows b (length old)) old
    → Wrote (boxed_text b (Moves-text rows b)) old after size
unfolding boxed_text
text-printed rows b old after size n h e z es ea =
    let none : Bounds3f-refusal b ≡ 0 = sym e ∙ z in
    rw (eq-eqb (Bounds3f-refusal b) 0 none) (text-left rows b old after size (λ k. absurd (omega (arith, h, k))) none es ea)

-- ---- poses
pub refused-printed : (a : ChainAnswer) (b : Bounds3f) {r : ℕ} → r ≡ ChainAnswer-refusal a → (r ≡ 0 → ⊥) → ChainAnswer-text a b ≡ refusal_text r
unfolding ChainAnswer-text
refused-printed (built c) b e h = absurd (h e)
refused-printed (refused n) b e h = ap refusal_text (sym e)

pub built-printed : (lists : List (List Float)) (b : Bounds3f) (rows : List Rows) {r : ℕ}
    → r ≡ ChainAnswer-refusal (Chain-new false (Poses-of_lists lists)) → r ≡ 0
    → ((c : Chain) → Chain-new false (Poses-of_lists lists) ≡ built c → rows ≡ Chain-to_rows c)
    → ChainAnswer-text (Chain-new false (Poses-of_lists lists)) b ≡ boxed_text b (Moves-text rows b)
unfolding ChainAnswer-text
built-printed lists b rows e h kept =
    let (c, s) = none-built false (Poses-of_lists lists) (sym e ∙ h) in
    rw s (ap (boxed_text b) (sym (kept-text false rows b lists c s (kept c s))))

-- ---- a file
module _ (bytes : List ℕ) (file : MoveFile) (e : file ≡ MoveFile-read bytes) where
  pub file-refused : (file.refusal ≡ 0 → ⊥) → rewritten_text bytes ≡ refusal_text file.refusal
  unfolding rewritten_text
  file-refused h = rw (← e, ne_eqb file.refusal 0 h)

  pub file-printed : (old left : List (List Float)) (b : Bounds3f) → file.refusal ≡ 0
      → left ≡ lent.front (MoveFile-poses bytes) old → b ≡ Bounds3f-of_list file.bounds
      → rewritten_text bytes ≡ ChainAnswer-text (Chain-new false (Poses-of_lists (take file.count left))) b
  unfolding MoveFile-chain rewritten_text
  file-printed old left b h el eb =
      let poses = MoveFile-poses bytes in
      let whole : take file.count left ≡ poses = rw (el, e) (take_at poses (drop (length poses) old) (MoveFile-read bytes).count (poses-length bytes)) in
      rw (whole, eb, ← e, eq-eqb file.refusal 0 h)
