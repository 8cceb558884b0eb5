-- What is promised of rewritten files: `RewrittenSame`, of two accepted files, and `RewrittenAgain`, of one. Definitions only.
use Rattle.std.specs.Prelude.{ℕ, ◌≡◌, ◌↔◌, List}
use Rattle.chain_build.specs.motion_chain.Chain.{Chain}
use Rattle.motion_text.specs.motion_file.declared.MoveFile.{MoveFile}
use Rattle.motion_text.specs.motion_file.Layout.{MoveFile-read}
use Rattle.chain_text.specs.file_text.Text.{MoveFile-written}
use Rattle.chain_text.specs.file_text.Theorem.{MoveFile-Accepted, HoldSame}
use Rattle.file_rewrite.specs.Rewrite.{rewritten_text}

-- document 02: "Two accepted files (refused neither for layout, chain nor box) hold the same bits exactly when their written forms are the same bytes."
abbrev pub RewrittenSame : List ℕ → List ℕ → Type 0
RewrittenSame f g = (c d : Chain) → MoveFile-Accepted f c → MoveFile-Accepted g d → (HoldSame f g ↔ (rewritten_text f ≡ rewritten_text g))

-- what is printed for an accepted file is its written form, which keeps the layout, holds what the file holds and is its own written form
pub record RewrittenAgain (f : List ℕ) : Type 0 where
  pub form : rewritten_text f ≡ MoveFile-written f
  pub layout : (MoveFile-read (rewritten_text f)).refusal ≡ 0
  pub same : HoldSame (rewritten_text f) f
  pub again : rewritten_text (rewritten_text f) ≡ rewritten_text f

-- how many bytes hold the text for any file (`rewritten-length`): that of 32 poses
abbrev pub longest_text : ℕ
longest_text = 4161
