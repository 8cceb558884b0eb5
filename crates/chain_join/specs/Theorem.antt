-- What is promised to who keeps two built chains and joins them: `Joined`, and how what is left answers, `KeptJoin`.
-- Quotations are of document 02, "Two chains made one". Definitions only.
use Rattle.std.specs.Prelude.{ℕ, ◌+◌, ◌≡◌, not, List, ◌++◌, T, length, take, Float}
use Rattle.std.specs.Float.Ieee.{le}
use Rattle.pose_bits.specs.matrix4x4.Rows.{Rows}
use Rattle.pose_bits.specs.bounds3.declared.Point3f.{Point3f}
use Rattle.pose_bits.specs.bounds3.declared.Bounds3f.{Bounds3f}
use Rattle.kept_poses.specs.bounds_query.Query.{BoundsAnswer-union_bounds}
use Rattle.kept_poses.specs.motion_chain.Chain.{Chain, built, ChainAnswer-refusal}
use Rattle.kept_poses.specs.motion_chain.Built.{Each}
use Rattle.kept_poses.specs.motion_chain.Times.{list_refusal, PointsAnswer-append, points_at}
use Rattle.chain_build.specs.chain_rows.Kept.{Moves-chain, Moves-transform_point, Moves-pad, Moves-transform_points, Moves-cover}
use Rattle.chain_build.specs.chain_rows.Theorem.{Moves-Holds}
use Rattle.chain_build.specs.Build.{ChainAnswer-left}
use Rattle.joined_chains.specs.Join.{Chain-join}
use Rattle.joined_chains.specs.Theorem.{shared_time}

-- Two kept chains answer alike at a time.
pub record KeptAs (rows other : List Rows) (time : Float) : Type 0 where
  pub point : (p : Point3f) → Moves-transform_point rows time p ≡ Moves-transform_point other time p
  pub pad : Moves-pad rows time ≡ Moves-pad other time

abbrev pub UpTo : List Rows → Float → Type 0
UpTo first time = T (le time (shared_time (Moves-chain first)))

abbrev pub Above : List Rows → Float → Type 0
Above first time = T (not (le time (shared_time (Moves-chain first))))

-- "Up to the shared time it answers as the first, above it as the second, and its cover is the union of theirs."
-- A list of times that is accepted is answered part by part, and the first refusal stands, as in the union.
pub record KeptJoin (first second rows : List Rows) : Type 0 where
  pub up_to : (time : Float) → UpTo first time → KeptAs rows first time
  pub above : (time : Float) → Above first time → KeptAs rows second time
  pub times : (early late : List Float) (p : Point3f) (places : ℕ)
      → Each (UpTo first) early → Each (Above first) late → list_refusal (early ++ late) p places ≡ 0
      → Moves-transform_points rows (early ++ late) p places
      ≡ PointsAnswer-append (points_at (λ t. Moves-transform_point first t p) early) (points_at (λ t. Moves-transform_point second t p) late)
  pub cover : (b : Bounds3f) (depth : ℕ) → Moves-cover rows b depth ≡ BoundsAnswer-union_bounds (Moves-cover first b depth) (Moves-cover second b depth)

-- c and d are the built chains that the rows hold, r is the number, and `new` is what stands in the blocks that had `old`: it is `Chain-join`,
-- and what it leaves are again the rows of a built chain, so that the guarantee and the finer cover are those of any built chain.
pub record Joined (first second old new : List Rows) (r : ℕ) (c d : Chain) : Type 0 where
  pub refusal : r ≡ ChainAnswer-refusal (Chain-join c d)
  pub left : new ≡ ChainAnswer-left (Chain-join c d) old
  pub holds : (e : Chain) → Chain-join c d ≡ built e → Moves-Holds (take (length first + length second) new) e
  pub answers : r ≡ 0 → KeptJoin first second (take (length first + length second) new)
