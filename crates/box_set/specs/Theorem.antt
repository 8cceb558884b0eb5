-- The guarantee of a set: at which moments may any part of the boom stand outside its own box of the reserved ones? At none.
--
-- Take any chain that is built, any set of boxes, and any depth at which the set is accepted. Then at every time but NaN, for every
-- box of the set and every point of that box, the point query answers a moved point, and that point is inside the box's own cover,
-- and inside the union, by itself and less and plus the pad at that time. One statement over the set's list: `SetContains`.
--
-- A finer cover of a set is never a wider one, for each box and for the union: `SetFiner`. Which numbers a set can give: `SetAnswer-Numbered`. The statements
-- of `chain-set-contains`, `move-set-contains`, `chain-set-finer`, `chain-set-numbered`, `move-set-numbered`, and `FirstRefused` of `first-refused`.
use Rattle.std.specs.Prelude.{ℕ, ◌+◌, ◌≤◌, ◌≡◌, not, List, [], ◌∷◌, ◌++◌, T, length, Float}
use Rattle.std.specs.Float.Ieee.{is_nan}
use Rattle.motion_chain.specs.formula.Promise.{Pairwise}
use Rattle.motion_chain.specs.bounds3.declared.Point3f.{Point3f}
use Rattle.motion_chain.specs.bounds3.declared.Bounds3f.{Bounds3f}
use Rattle.motion_chain.specs.bounds3.Inside.{Inside, Subset}
use Rattle.motion_chain.specs.transform.declared.BoundsAnswer.{BoundsAnswer}
use Rattle.motion_chain.specs.transform.declared.BoundsAnswer.TheVariants.{Refused}
use Rattle.motion_chain.specs.transform.Answer.{PointAnswer, OneOf, BoundsAnswer-refusal}
use Rattle.motion_chain.specs.bounds_query.Query.{max_depth}
use Rattle.motion_chain.specs.bounds_answers.UnionAll.{Each}
use Rattle.motion_chain.specs.animated_transform.declared.AnimatedTransform.{AnimatedTransform}
use Rattle.motion_chain.specs.animated_transform.Built.{Built}
use Rattle.motion_chain.specs.motion_point.TransformPoint.{AnimatedTransform-transform_point}
use Rattle.motion_chain.specs.motion_point.PadAt.{AnimatedTransform-pad_at}
use Rattle.motion_chain.specs.motion_cover.Theorem.{MovedInside}
use Rattle.motion_chain.specs.Chain.{Chain, Chain-transform_point, Chain-pad_at}
use Rattle.motion_chain.specs.Built.{BuiltChain}
use Rattle.box_set.specs.Set.{max_boxes, SetAnswer, covered, refused, SetAnswer-refusal, SetAnswer-covers, SetAnswer-union, Boxes-covers, Chain-covers}

-- ---- the guarantee
-- Each box of the set has a cover in the answer, in order, and every point of the box, as it is moved,
-- is inside that cover and inside the union, by itself and less and plus the pad.
abbrev pub SetContains : Float → (Point3f → PointAnswer) → List Bounds3f → List Bounds3f → Bounds3f → Type 0
SetContains pad moved boxes covers union =
    Pairwise (λ b cover. (p : Point3f) → Inside b p → MovedInside cover pad (moved p) × MovedInside union pad (moved p)) boxes covers

-- c is the chain, boxes the set, answer what the query of the set answered.
abbrev pub SetContainsMotion : Chain → List Bounds3f → SetAnswer → Type 0
SetContainsMotion c boxes answer =
    (time : Float)
    → BuiltChain c → SetAnswer-refusal answer ≡ 0 → T (not (is_nan time))
    → SetContains (Chain-pad_at c time) (Chain-transform_point c time) boxes (SetAnswer-covers answer) (SetAnswer-union answer)

-- The same of a move by itself.
abbrev pub MoveSetContainsMotion : AnimatedTransform → List Bounds3f → SetAnswer → Type 0
MoveSetContainsMotion m boxes answer =
    (time : Float)
    → Built m → SetAnswer-refusal answer ≡ 0 → T (not (is_nan time))
    → SetContains (AnimatedTransform-pad_at m time) (AnimatedTransform-transform_point m time) boxes (SetAnswer-covers answer) (SetAnswer-union answer)

-- ---- greater depths
-- The answer is not refused; each box's cover lies in its counterpart, and the union in the other's.
pub record SetWithin (fine coarse : SetAnswer) : Type 0 where
  pub accepted : SetAnswer-refusal fine ≡ 0
  pub each : Pairwise Subset (SetAnswer-covers fine) (SetAnswer-covers coarse)
  pub union : Subset (SetAnswer-union fine) (SetAnswer-union coarse)

-- document 02, "A finer cover is never a wider one": "The same is wanted of each box of a set and of their union."
abbrev pub SetFiner : Chain → List Bounds3f → Type 0
SetFiner c boxes =
    (d n : ℕ)
    → BuiltChain c → d + n ≤ max_depth → SetAnswer-refusal (Chain-covers c boxes d) ≡ 0
    → SetWithin (Chain-covers c boxes (d + n)) (Chain-covers c boxes d)

-- ---- the numbers
-- The number is one of those listed, and an answer whose number is 0 has the covers and their union.
pub record SetAnswer-Numbered (numbers : List ℕ) (a : SetAnswer) : Type 0 where
  pub number : OneOf (SetAnswer-refusal a) numbers
  pub none : SetAnswer-refusal a ≡ 0 → a ≡ covered (SetAnswer-covers a) (SetAnswer-union a)

-- A box that is refused where none before it is gives the number.
abbrev pub FirstRefused : (Bounds3f → BoundsAnswer) → Type 0
FirstRefused cover =
    (before : List Bounds3f) (b : Bounds3f) (after : List Bounds3f) (n : ℕ)
    → length (before ++ b ∷ after) ≤ max_boxes → Each (λ x. BoundsAnswer-refusal (cover x) ≡ 0) before → cover b ≡ Refused n
    → Boxes-covers cover (before ++ b ∷ after) ≡ refused n
