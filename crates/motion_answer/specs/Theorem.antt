-- The guarantee for a file: where the text that answers it is a box, the boom stands inside it at every time.
--
-- Of whichever kind the chain is built, plain or rigid: whatever bytes are read, the printed text is that of a refusal, whose number is not 0, or that of a box such that the file's poses build a chain and, at
-- every time but NaN and for every point of the file's box, the chain's point query answers a moved point inside the printed box, by itself and less
-- and plus the pad at that time. The contract of `answer` says `AnswerContainsMotion` of the bytes that it is given and of the text that it leaves;
-- it is `ChainContainsMotion` of crates/motion_chain/specs/Theorem.antt for the chain and the box that the file holds.
use Rattle.std.specs.Prelude.{ℕ, ◌≡◌, Bool, not, ◌⊎◌, List, T, Float}
use Rattle.std.specs.Float.Ieee.{is_nan}
use Rattle.bounds3.specs.declared.Point3f.{Point3f}
use Rattle.bounds3.specs.declared.Bounds3f.{Bounds3f}
use Rattle.bounds3.specs.List.{Bounds3f-list}
use Rattle.bounds3.specs.Inside.{Inside}
use Rattle.transform.specs.Answer.{BoundsAnswer-refusal, BoundsAnswer-bounds}
use Rattle.chain_build.specs.motion_cover.Theorem.{MovedInside}
use Rattle.chain_build.specs.motion_chain.Chain.{Chain, built, Chain-transform_point, Chain-pad_at}
use Rattle.chain_build.specs.motion_chain.Built.{BuiltChain}
use Rattle.motion_text.specs.motion_file.Layout.{MoveFile-box}
use Rattle.motion_text.specs.Answer.{bounds_text, refusal_text}
use Rattle.motion_answer.specs.Answer.{MoveFile-chain, MoveFile-cover}

-- The file's poses build a chain, and its points, from the file's box, are inside the cover.
pub record FileContainsMotion (rigid : Bool) (bytes : List ℕ) (cover : Bounds3f) : Type 0 where
  pub chain : Chain
  pub from-file : MoveFile-chain rigid bytes ≡ built chain
  pub is-built : BuiltChain chain
  pub contains : (time : Float) (p : Point3f) → T (not (is_nan time)) → Inside (MoveFile-box bytes) p
      → MovedInside cover (Chain-pad_at chain time) (Chain-transform_point chain time p)

pub record PrintsRefusal (rigid : Bool) (bytes text : List ℕ) : Type 0 where
  pub refused : BoundsAnswer-refusal (MoveFile-cover rigid bytes) ≡ 0 → ⊥
  pub printed : text ≡ refusal_text (BoundsAnswer-refusal (MoveFile-cover rigid bytes))

pub record PrintsCover (rigid : Bool) (bytes text : List ℕ) : Type 0 where
  pub accepted : BoundsAnswer-refusal (MoveFile-cover rigid bytes) ≡ 0
  pub printed : text ≡ bounds_text (Bounds3f-list (BoundsAnswer-bounds (MoveFile-cover rigid bytes)))
  pub contains : FileContainsMotion rigid bytes (BoundsAnswer-bounds (MoveFile-cover rigid bytes))

abbrev pub AnswerContainsMotion : Bool → List ℕ → List ℕ → Type 0
AnswerContainsMotion rigid bytes text = PrintsRefusal rigid bytes text ⊎ PrintsCover rigid bytes text

-- How many bytes hold the text that answers any file (`answer-length`).
abbrev pub longest_text : ℕ
longest_text = 72
