-- What its caller keeps, a built chain, `Moves-Holds`, or a move built by itself: `Moves-Built`; and the guarantee of its cover in the words of who keeps it,
-- `KeptChainContainsMotion`. Definitions only.
use Rattle.std.specs.Prelude.{◌*◌, ◌≡◌, not, List, [], ◌∷◌, T, length, Float}
use Rattle.std.specs.Float.Ieee.{is_nan}
use Rattle.transform.specs.matrix4x4.Rows.{Rows}
use Rattle.bounds3.specs.declared.Point3f.{Point3f}
use Rattle.bounds3.specs.declared.Bounds3f.{Bounds3f}
use Rattle.bounds3.specs.Inside.{Inside}
use Rattle.motion_rows.specs.animated_transform.declared.AnimatedTransform.{AnimatedTransform}
use Rattle.motion_chain.specs.motion_cover.Theorem.{MovedInside}
use Rattle.motion_rows.specs.Holds.{Rows-Holds}
use Rattle.motion_chain.specs.Chain.{Chain}
use Rattle.motion_chain.specs.Built.{BuiltChain}
use Rattle.motion_chain.specs.Times.{times_are_numbers, never_falls, places_per_time}
use Rattle.motion_chain.specs.TimesAnswer.{PointsInside}
use Rattle.chain_rows.specs.Kept.{Chain-to_rows, Moves-transform_point, Moves-pad_at, Moves-transform_points}

-- The rows are those of a built chain.
pub record Moves-Holds (rows : List Rows) (c : Chain) : Type 0 where
  pub built : BuiltChain c
  pub same : rows ≡ Chain-to_rows c

-- What building leaves: the rows of a chain, or the one block of a move built by itself, whose two times may be equal.
pub data Moves-Built (rows : List Rows) : Type 0 where
  chain-built : (c : Chain) → Moves-Holds rows c → Moves-Built rows
  move-built : (block : Rows) (m : AnimatedTransform) → rows ≡ block ∷ [] → Rows-Holds block m → Moves-Built rows

-- Where the rows hold a built chain or one built move: every point of the box b, asked of the same rows at any time but NaN, is answered and is inside the box
-- `cover`, by itself and less and plus the pad at that time; so is every point of a list of such times that never falls, for answers of three places a time.
-- One block is asked as the move in it is:
-- `block-point`.
pub record KeptChainContainsMotion (rows : List Rows) (b cover : Bounds3f) : Type 0 where
  pub at-time : (time : Float) (p : Point3f)
      → Moves-Built rows → T (not (is_nan time)) → Inside b p
      → MovedInside cover (Moves-pad_at rows time) (Moves-transform_point rows time p)
  pub at-times : (times : List Float) (p : Point3f)
      → Moves-Built rows → T (times_are_numbers times) → T (never_falls times) → Inside b p
      → PointsInside cover (Moves-pad_at rows) times (Moves-transform_points rows times p (places_per_time * length times))
