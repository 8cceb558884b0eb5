-- The guarantee of a kept move's cover in what crosses the boundary, `KeptCoverContainsMotion`, and that a finer cover is never a wider one, `KeptCoverFiner`;
-- that the cover of kept rows is the chain's own, also in a window of times: `KeptCover`, `KeptWindowCover`. Definitions only.
use Rattle.std.specs.Prelude.{ℕ, ◌≤◌, ◌≡◌, not, List, T, Float}
use Rattle.std.specs.Float.Ieee.{is_nan}
use Rattle.file_reader.specs.matrix4x4.Rows.{Rows}
use Rattle.file_reader.specs.bounds3.declared.Point3f.{Point3f}
use Rattle.file_reader.specs.bounds3.Inside.{Inside}
use Rattle.lent_arrays.specs.transform.declared.BoundsAnswer.{BoundsAnswer}
use Rattle.lent_arrays.specs.transform.Answer.{BoundsAnswer-refusal}
use Rattle.animated_transform.specs.declared.AnimatedTransform.{AnimatedTransform}
use Rattle.run_starts.specs.bounds_query.Query.{max_depth}
use Rattle.motion_rows.specs.motion_point.PadAt.{AnimatedTransform-pad_at}
use Rattle.chain_rows.specs.motion_cover.Theorem.{MovedInside}
use Rattle.chain_rows.specs.cover_depth.Finer.{Within}
use Rattle.file_reader.specs.bounds3.List.{Bounds3f-of_list}
use Rattle.lent_arrays.specs.Arrays.{BoundsAnswer-left}
use Rattle.motion_rows.specs.Holds.{Rows-Holds}
use Rattle.motion_rows.specs.TransformPoint.{Rows-transform_point}
use Rattle.chain_rows.specs.motion_chain.Chain.{Chain, Chain-cover}
use Rattle.chain_rows.specs.Kept.{Chain-to_rows}
use Rattle.window_times.specs.declared.Window.{Window}
use Rattle.window_cover.specs.chain_window.Cover.{Chain-window_cover}
use Rattle.api.specs.Answers.{Rows-cover}

-- Where the rows hold a built move: every point of the box b, asked at any time but NaN of the same rows, is answered and is inside the box `cover`, by itself
-- and less and plus the pad at that time. A box is six floats.
abbrev pub KeptCoverContainsMotion : Rows → List Float → List Float → Type 0
KeptCoverContainsMotion rows b cover =
    (m : AnimatedTransform) (time : Float) (p : Point3f)
    → Rows-Holds rows m → T (not (is_nan time)) → Inside (Bounds3f-of_list b) p
    → MovedInside (Bounds3f-of_list cover) (AnimatedTransform-pad_at m time) (Rows-transform_point rows time p)

-- Where the rows hold a built move: the same query at each greater depth up to 12 is accepted,
-- and its box lies in the box `cover`, which was answered at the depth.
abbrev pub KeptCoverFiner : Rows → List Float → ℕ → List Float → Type 0
KeptCoverFiner rows b depth cover =
    (m : AnimatedTransform) (finer : ℕ)
    → Rows-Holds rows m → depth ≤ finer → finer ≤ max_depth
    → Within (Rows-cover rows b finer) (Bounds3f-of_list cover)

-- The number, and what stands in the six floats that had `old`, are those of an answer.
pub record BoundsAnswer-Is (a : BoundsAnswer) (number : ℕ) (old new : List Float) : Type 0 where
  pub refusal : number ≡ BoundsAnswer-refusal a
  pub left : new ≡ BoundsAnswer-left a old

-- Where the rows are those of a chain, the answer is that of the chain.
abbrev pub KeptCover : List Rows → List Float → ℕ → ℕ → List Float → List Float → Type 0
KeptCover rows b depth number old new = (c : Chain) → rows ≡ Chain-to_rows c → BoundsAnswer-Is (Chain-cover c (Bounds3f-of_list b) depth) number old new

abbrev pub KeptWindowCover : List Rows → List Float → ℕ → Window → ℕ → List Float → List Float → Type 0
KeptWindowCover rows b depth w number old new =
    (c : Chain) → rows ≡ Chain-to_rows c → BoundsAnswer-Is (Chain-window_cover c (Bounds3f-of_list b) depth w) number old new
