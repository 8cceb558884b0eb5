-- What an accepted trial shows, in the words of who keeps the chain: `TrialContainsMotion`. Definitions only.
use Rattle.std.specs.Prelude.{ℕ, ◌*◌, ◌≡◌, not, List, T, length, Float}
use Rattle.std.specs.Float.Ieee.{is_nan}
use Rattle.transform.specs.matrix4x4.Rows.{Rows}
use Rattle.bounds3.specs.declared.Point3f.{Point3f}
use Rattle.bounds3.specs.declared.Bounds3f.{Bounds3f}
use Rattle.bounds3.specs.Inside.{Inside}
use Rattle.changed_chain.specs.pose_pair.declared.Pose.{Pose}
use Rattle.changed_chain.specs.motion_cover.Theorem.{MovedInside}
use Rattle.changed_chain.specs.motion_chain.Chain.{Chain, built, Chain-transform_point, Chain-pad_at}
use Rattle.changed_chain.specs.motion_chain.Built.{BuiltChain}
use Rattle.changed_chain.specs.motion_chain.Times.{times_are_numbers, never_falls, places_per_time, Chain-transform_points}
use Rattle.changed_chain.specs.motion_chain.TimesAnswer.{PointsInside}
use Rattle.chain_build.specs.chain_rows.Theorem.{Moves-Holds}
use Rattle.changed_chain.specs.Trial.{Chain-changed}

-- Changing a copy builds a chain, and every point of the box b, asked of that chain at any time but NaN, or at a list of such times that never falls,
-- is answered and is inside the box `cover`, by itself and less and plus the pad at that time.
pub record ChangedContainsMotion (c : Chain) (place : ℕ) (p : Pose) (b cover : Bounds3f) : Type 0 where
  pub chain : Chain
  pub changed : Chain-changed c place p ≡ built chain
  pub is-built : BuiltChain chain
  pub at-time : (time : Float) (q : Point3f) → T (not (is_nan time)) → Inside b q
      → MovedInside cover (Chain-pad_at chain time) (Chain-transform_point chain time q)
  pub at-times : (times : List Float) (q : Point3f) → T (times_are_numbers times) → T (never_falls times) → Inside b q
      → PointsInside cover (Chain-pad_at chain) times (Chain-transform_points chain times q (places_per_time * length times))

-- the same where the rows are those of a built chain; cover is the box that was shown
abbrev pub TrialContainsMotion : List Rows → ℕ → Pose → Bounds3f → Bounds3f → Type 0
TrialContainsMotion rows place p b cover = (c : Chain) → Moves-Holds rows c → ChangedContainsMotion c place p b cover
