-- What is answered to a move file: `MoveFile-cover`, the cover of its box under its chain, and `answer_text`, the text that the program prints. Document 01,
-- "File and program"; document 02, "Poses in a chain": "A file's pose lines, however many, are a chain." A file does not hold the kind, so that it is told
-- whether the chain is built as rigid: the program `cover` builds plain, `cover_rigid` rigid. 11 "precedes all others"; then come building's numbers, then the
-- query's. Definitions only.
use Rattle.std.specs.Prelude.{ℕ, Bool, cond, List, eqb}
use Rattle.bounds3.specs.declared.Bounds3f.{Bounds3f}
use Rattle.bounds3.specs.List.{Bounds3f-list}
use Rattle.transform.specs.declared.BoundsAnswer.{BoundsAnswer}
use Rattle.transform.specs.declared.BoundsAnswer.TheVariants.{Bounds, Refused}
use Rattle.chain_build.specs.motion_chain.Chain.{ChainAnswer, built, refused, Chain-new, Chain-cover}
use Rattle.chain_build.specs.chain_poses.Poses.{Poses-of_lists}
use Rattle.motion_text.specs.motion_file.declared.MoveFile.{MoveFile}
use Rattle.motion_text.specs.motion_file.Layout.{MoveFile-read, MoveFile-box, MoveFile-poses}
use Rattle.motion_text.specs.Answer.{bounds_text, refusal_text}

-- "The program `cover` .. prints the depth-10 cover"
abbrev pub cover_depth : ℕ
cover_depth = 10

-- the cover of a box under what was built, or building's number
unfoldable pub ChainAnswer-cover : ChainAnswer → Bounds3f → BoundsAnswer
ChainAnswer-cover (built c) b = Chain-cover c b cover_depth
ChainAnswer-cover (refused n) b = Refused n

-- what building answers to a file's poses
unfoldable pub MoveFile-chain : Bool → List ℕ → ChainAnswer
MoveFile-chain rigid bytes = Chain-new rigid (Poses-of_lists (MoveFile-poses bytes))

-- the cover that a file asks for
unfoldable pub MoveFile-cover : Bool → List ℕ → BoundsAnswer
MoveFile-cover rigid bytes =
    cond (eqb (MoveFile-read bytes).refusal 0) (ChainAnswer-cover (MoveFile-chain rigid bytes) (MoveFile-box bytes)) (Refused (MoveFile-read bytes).refusal)

-- the text of a box or of a refusal
unfoldable pub BoundsAnswer-text : BoundsAnswer → List ℕ
BoundsAnswer-text (Bounds b) = bounds_text (Bounds3f-list b)
BoundsAnswer-text (Refused n) = refusal_text n

-- the text that answers a file's bytes
unfoldable pub answer_text : Bool → List ℕ → List ℕ
answer_text rigid bytes = BoundsAnswer-text (MoveFile-cover rigid bytes)
