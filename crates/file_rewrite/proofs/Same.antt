-- Rewritten files: `rewritten-form`, that of an accepted file is its written form;
-- `rewritten-same`, what two of them tell; `rewritten-again`, what is read from one.
use Prim.Native.Nat.{ℕ, ◌≤◌}
use mathlib.Core.Path.{◌≡◌, refl, sym, ◌∙◌, ap}
use mathlib.Core.Logic.{◌↔◌}
use mathlib.Core.Bool.{false}
use mathlib.Core.List.{List}
use lib.ListN.{length}
use borrow.Author.Tests.{eq-eqb}
use Rattle.bounds3.specs.declared.Bounds3f.{Bounds3f}
use Rattle.bounds3.specs.List.{Bounds3f-of_list}
use Rattle.bounds_query.specs.Query.{Bounds3f-refusal}
use Rattle.chain_build.specs.motion_chain.Chain.{Chain, built, Chain-new}
use Rattle.chain_build.specs.chain_poses.Poses.{Poses-of_lists}
use Rattle.motion_text.specs.motion_file.declared.MoveFile.{MoveFile}
use Rattle.motion_text.specs.motion_file.Layout.{MoveFile-read, MoveFile-box, MoveFile-poses}
use Rattle.motion_answer.specs.Answer.{MoveFile-chain}
use Rattle.chain_text.specs.file_text.Text.{Chain-text, MoveFile-text, MoveFile-written}
use Rattle.chain_text.specs.file_text.Theorem.{max_padded_lines, MoveFile-Accepted, HoldSame}
use Rattle.chain_text.proofs.file_text.Written.{built-room}
use Rattle.chain_text.proofs.file_text.Same.{written_read, accepted-written, same_bits}
use Rattle.file_rewrite.specs.Rewrite.{boxed_text, ChainAnswer-text, rewritten_text}
use Rattle.file_rewrite.specs.Theorem.{RewrittenSame, RewrittenAgain}

chain-form : (f : List ℕ) (c : Chain) → MoveFile-Accepted f c → rewritten_text f ≡ Chain-text c (MoveFile-box f)
unfolding MoveFile-chain rewritten_text ChainAnswer-text boxed_text
chain-form f c a = rw (eq-eqb (MoveFile-read f).refusal 0 a.layout, a.chain, eq-eqb (Bounds3f-refusal (MoveFile-box f)) 0 a.box)

pub rewritten-form : (f : List ℕ) (c : Chain) → MoveFile-Accepted f c → rewritten_text f ≡ MoveFile-written f
rewritten-form f c a = chain-form f c a ∙ accepted-written f c a

pub rewritten-same : (f g : List ℕ) → RewrittenSame f g
rewritten-same f g c d a b = rw (chain-form f c a, chain-form g d b) (same_bits f g c d a b)

-- the written form of an accepted file is accepted
module _ (f : List ℕ) (c : Chain) (a : MoveFile-Accepted f c) where
  room : length (MoveFile-poses f) ≤ max_padded_lines
  room = built-room false (MoveFile-poses f) c a.chain

  form-accepted : MoveFile-Accepted (MoveFile-written f) c
  form-accepted =
      let w = written_read f room in
      record {
        layout = w.0;
        chain = rw w.1.poses a.chain;
        box = rw w.1.bounds a.box;
      }

  form-again : MoveFile-written (MoveFile-written f) ≡ MoveFile-written f
  unfolding MoveFile-written
  form-again = let w = (written_read f room).1 in rw (w.poses, w.bounds)

  pub rewritten-again : RewrittenAgain f
  rewritten-again =
      let e = rewritten-form f c a in
      let w = written_read f room in
      record {
        form = e;
        layout = rw e w.0;
        same = rw e w.1;
        again = rw e (rewritten-form (MoveFile-written f) c form-accepted ∙ form-again);
      }
