-- What the program `rewrite` prints for a move file: `rewritten_text`, the file's one form or its refusal. 11 "precedes all others" (document 01);
-- then come building's numbers, then 6 and 7 of the box. Definitions only.
use Rattle.std.specs.Prelude.{ℕ, false, cond, List, eqb}
use Rattle.bounds3.specs.declared.Bounds3f.{Bounds3f}
use Rattle.bounds_query.specs.Query.{Bounds3f-refusal}
use Rattle.chain_build.specs.motion_chain.Chain.{ChainAnswer, built, refused}
use Rattle.motion_text.specs.motion_file.declared.MoveFile.{MoveFile}
use Rattle.motion_text.specs.motion_file.Layout.{MoveFile-read, MoveFile-box}
use Rattle.motion_text.specs.Answer.{refusal_text}
use Rattle.chain_text.specs.file_text.Text.{Chain-text}
use Rattle.motion_answer.specs.Answer.{MoveFile-chain}

-- a text, or the refusal of the box in it
unfoldable pub boxed_text : Bounds3f → List ℕ → List ℕ
boxed_text b text = cond (eqb (Bounds3f-refusal b) 0) text (refusal_text (Bounds3f-refusal b))

-- document 02: "Write any accepted chain and box back"; or the refusal of the chain, then of the box
unfoldable pub ChainAnswer-text : ChainAnswer → Bounds3f → List ℕ
ChainAnswer-text (built c) b = boxed_text b (Chain-text c b)
ChainAnswer-text (refused n) b = refusal_text n

-- the text that is printed for a file's bytes; its chain is built as plain
unfoldable pub rewritten_text : List ℕ → List ℕ
rewritten_text bytes =
    cond (eqb (MoveFile-read bytes).refusal 0) (ChainAnswer-text (MoveFile-chain false bytes) (MoveFile-box bytes))
    (refusal_text (MoveFile-read bytes).refusal)
