-- What is promised of every answer about a chain: which numbers building, the point query, also with a list of times, the pad query, the transform's and the cover
-- query, also of a set of boxes, of a pose that is tried and of a window, give, joining two kept chains, and the windows of two, 0 being none, and that an
-- accepted cover's corners are finite and in order; and the same of a kept chain, whatever its rows. The statement of `every-chain-answer`.
use Rattle.std.specs.Prelude.{ℕ, ◌≡◌, Bool, List, [], ◌∷◌, Float}
use Rattle.run_schedule.specs.matrix4x4.Rows.{Rows}
use Rattle.run_schedule.specs.bounds3.declared.Point3f.{Point3f}
use Rattle.run_schedule.specs.bounds3.declared.Bounds3f.{Bounds3f}
use Rattle.motion_bounds_laws.specs.pose_pair.declared.Pose.{Pose}
use Rattle.run_schedule.specs.transform.Answer.{OneOf}
use Rattle.motion_bounds_laws.specs.animated_transform.Numbers.{kind_numbers}
use Rattle.motion_bounds_laws.specs.motion_point.Answer.{PointAnswer-Numbered}
use Rattle.refused_run.specs.motion_cover.Answer.{BoundsAnswer-Numbered, Proper}
use Rattle.refused_run.specs.motion_chain.Chain.{Chain, ChainAnswer, built, ChainAnswer-refusal, Chain-new, Chain-transform_point, Chain-cover}
use Rattle.refused_run.specs.motion_chain.Built.{BuiltChain}
use Rattle.refused_run.specs.motion_chain.Times.{Chain-transform_points}
use Rattle.refused_run.specs.motion_chain.TimesAnswer.{PointsAnswer-Numbered}
use Rattle.chain_held.specs.built_poses.Poses.{Chain-is_rigid}
use Rattle.interpolate_kept.specs.chain_rows.Kept.{Moves-chain, Chain-pad, Moves-transform_point, Moves-pad, Moves-transform_points, Moves-cover}
use Rattle.chain_covers.specs.box_set.Set.{Chain-covers}
use Rattle.chain_covers.specs.box_set.Theorem.{SetAnswer-Numbered}
use Rattle.chain_covers.specs.Kept.{Moves-covers}
use Rattle.chain_trial.specs.changed_chain.Trial.{Chain-try}
use Rattle.chain_trial.specs.Try.{Moves-try}
use Rattle.chain_join.specs.Rows.{Moves-join_refusal}
use Rattle.reach_kept.specs.reached_rows.Rows.{rows_refusal}
use Rattle.cut_laws.specs.Cut.{cut_refusal}
use Rattle.reach_kept.specs.reach_laws.Reach.{Chain-reach_refusal}
use Rattle.reach_kept.specs.Kept.{Moves-reach_refusal}
use Rattle.refused_run.specs.Run.{shortest_run}
use Rattle.reach_kept.specs.window_times.declared.Window.{Window}
use Rattle.reach_kept.specs.chain_window.Cover.{Chain-window_cover}
use Rattle.reach_kept.specs.window_cover.Kept.{Moves-window_cover}
use Rattle.reach_kept.specs.window_meetings.Windows.{Chain-windows}
use Rattle.reach_kept.specs.window_meetings.Numbers.{WindowsAnswer-Numbered}
use Rattle.reach_kept.specs.window_pairs.Kept.{Moves-windows}
use Rattle.interpolate_kept.specs.Kept.{Chain-interpolate, Moves-interpolate}
use Rattle.chain_held.specs.Held.{Moves-held, Moves-pose_refusal}
use Rattle.refusal_numbers.specs.Numbers.{PadAnswer-Numbered, TransformAnswer-Numbered}
use Rattle.run_schedule.specs.Day.{Boom, day_refusal}

-- The number is one of those listed, and an answer whose number is 0 is a chain.
pub record ChainAnswer-Numbered (numbers : List ℕ) (a : ChainAnswer) : Type 0 where
  pub number : OneOf (ChainAnswer-refusal a) numbers
  pub none : ChainAnswer-refusal a ≡ 0 → (c : Chain) × (a ≡ built c)

-- 0 is none
abbrev pub building_numbers : Bool → List ℕ
building_numbers rigid = 0 ∷ 1 ∷ 2 ∷ 3 ∷ 4 ∷ 5 ∷ 12 ∷ 16 ∷ kind_numbers rigid

-- those of building the changed chain, of its cover, and 19 of the place
abbrev pub trial_numbers : Bool → List ℕ
trial_numbers rigid = 0 ∷ 1 ∷ 2 ∷ 3 ∷ 4 ∷ 5 ∷ 6 ∷ 7 ∷ 8 ∷ 10 ∷ 12 ∷ 16 ∷ 19 ∷ kind_numbers rigid

-- document 01's numbers, and document 02's: 12 and 16 of building, 17 and 18 of building as rigid, 13 of a list of times,
-- 14 of a set, of rows and of parts, 19 of a place, 20 of joining, 21 of ticks, 22 of a day
pub record EveryChainAnswer : Type 0 where
  pub building : (rigid : Bool) (poses : List Pose) → ChainAnswer-Numbered (building_numbers rigid) (Chain-new rigid poses)
  pub point : (c : Chain) (time : Float) (p : Point3f) → PointAnswer-Numbered (0 ∷ 5 ∷ 6 ∷ []) (Chain-transform_point c time p)
  pub pad : (c : Chain) (time : Float) → PadAnswer-Numbered (0 ∷ 5 ∷ 6 ∷ []) (Chain-pad c time)
  pub interpolate : (c : Chain) (time : Float) → TransformAnswer-Numbered (0 ∷ 4 ∷ 5 ∷ 6 ∷ []) (Chain-interpolate c time)
  pub points : (c : Chain) (times : List Float) (p : Point3f) (places : ℕ)
      → PointsAnswer-Numbered (0 ∷ 5 ∷ 6 ∷ 13 ∷ []) (Chain-transform_points c times p places)
  pub cover : (c : Chain) (b : Bounds3f) (depth : ℕ) → BoundsAnswer-Numbered (0 ∷ 5 ∷ 6 ∷ 7 ∷ 8 ∷ 10 ∷ []) (Chain-cover c b depth)
  pub proper : {c : Chain} → BuiltChain c → (b : Bounds3f) (depth : ℕ) → Proper (Chain-cover c b depth)
  pub set : (c : Chain) (boxes : List Bounds3f) (depth : ℕ) → SetAnswer-Numbered (0 ∷ 5 ∷ 6 ∷ 7 ∷ 8 ∷ 10 ∷ 14 ∷ []) (Chain-covers c boxes depth)
  pub trial : (c : Chain) (place : ℕ) (p : Pose) (b : Bounds3f) (depth : ℕ)
      → BoundsAnswer-Numbered (trial_numbers (Chain-is_rigid c)) (Chain-try c place p b depth)
  -- the shortest refused stretch, whatever the poses
  pub run : (rigid : Bool) (poses : List Pose) → OneOf (shortest_run rigid poses).refusal (0 ∷ 12 ∷ [])
  pub window-cover : (c : Chain) (b : Bounds3f) (depth : ℕ) (w : Window)
      → BoundsAnswer-Numbered (0 ∷ 5 ∷ 6 ∷ 7 ∷ 8 ∷ 10 ∷ 21 ∷ []) (Chain-window_cover c b depth w)
  pub windows : (c c' : Chain) (b b' : Bounds3f) (depth : ℕ) (ticks : List Float)
      → WindowsAnswer-Numbered (0 ∷ 5 ∷ 6 ∷ 7 ∷ 8 ∷ 10 ∷ 21 ∷ []) (Chain-windows c c' b b' depth ticks)
  -- the same queries of a kept chain, whatever its rows: no moves are 12
  pub rows-point : (rows : List Rows) (time : Float) (p : Point3f) → PointAnswer-Numbered (0 ∷ 5 ∷ 6 ∷ 12 ∷ []) (Moves-transform_point rows time p)
  pub rows-pad : (rows : List Rows) (time : Float) → PadAnswer-Numbered (0 ∷ 5 ∷ 6 ∷ 12 ∷ []) (Moves-pad rows time)
  pub rows-interpolate : (rows : List Rows) (time : Float) → TransformAnswer-Numbered (0 ∷ 4 ∷ 5 ∷ 6 ∷ 12 ∷ []) (Moves-interpolate rows time)
  -- what it holds
  pub rows-held : (rows : List Rows) → OneOf (Moves-held rows).refusal (0 ∷ 12 ∷ [])
  pub rows-pose : (rows : List Rows) (place : ℕ) → OneOf (Moves-pose_refusal rows place) (0 ∷ 12 ∷ 19 ∷ [])
  pub rows-points : (rows : List Rows) (times : List Float) (p : Point3f) (places : ℕ)
      → PointsAnswer-Numbered (0 ∷ 5 ∷ 6 ∷ 12 ∷ 13 ∷ []) (Moves-transform_points rows times p places)
  pub rows-cover : (rows : List Rows) (b : Bounds3f) (depth : ℕ) → BoundsAnswer-Numbered (0 ∷ 5 ∷ 6 ∷ 7 ∷ 8 ∷ 10 ∷ 12 ∷ []) (Moves-cover rows b depth)
  pub rows-set : (rows : List Rows) (boxes : List (List Float)) (depth : ℕ)
      → SetAnswer-Numbered (0 ∷ 5 ∷ 6 ∷ 7 ∷ 8 ∷ 10 ∷ 12 ∷ 14 ∷ []) (Moves-covers rows boxes depth)
  pub rows-trial : (rows : List Rows) (place : ℕ) (p : Pose) (b : Bounds3f) (depth : ℕ)
      → BoundsAnswer-Numbered (trial_numbers (Chain-is_rigid (Moves-chain rows))) (Moves-try rows place p b depth)
  pub rows_join : (first second : List Rows) → OneOf (Moves-join_refusal first second) (0 ∷ 12 ∷ 20 ∷ [])
  pub rows-window-cover : (rows : List Rows) (b : Bounds3f) (depth : ℕ) (w : Window)
      → BoundsAnswer-Numbered (0 ∷ 5 ∷ 6 ∷ 7 ∷ 8 ∷ 10 ∷ 12 ∷ 21 ∷ []) (Moves-window_cover rows b depth w)
  pub rows-windows : (rows rows' : List Rows) (b b' : Bounds3f) (depth : ℕ) (ticks : List Float)
      → WindowsAnswer-Numbered (0 ∷ 5 ∷ 6 ∷ 7 ∷ 8 ∷ 10 ∷ 12 ∷ 21 ∷ []) (Moves-windows rows rows' b b' depth ticks)
  -- a day of booms
  pub day : (booms : List Boom) → OneOf (day_refusal booms) (0 ∷ 6 ∷ 7 ∷ 22 ∷ [])
  -- the rows that a boom reaches
  pub reached : (cover : Bounds3f) (rows : List Bounds3f) → OneOf (rows_refusal cover rows) (0 ∷ 6 ∷ 7 ∷ 14 ∷ [])
  -- which rows, and when, of a chain and of a kept one, whatever its rows; a box in parts
  pub reach : (c : Chain) (boxes : List Bounds3f) (depth : ℕ) (ticks : List Float) (rows : List Bounds3f)
      → OneOf (Chain-reach_refusal c boxes depth ticks rows) (0 ∷ 5 ∷ 6 ∷ 7 ∷ 8 ∷ 10 ∷ 14 ∷ 21 ∷ [])
  pub rows-reach : (moves : List Rows) (boxes : List Bounds3f) (depth : ℕ) (ticks : List Float) (rows : List Bounds3f)
      → OneOf (Moves-reach_refusal moves boxes depth ticks rows) (0 ∷ 5 ∷ 6 ∷ 7 ∷ 8 ∷ 10 ∷ 12 ∷ 14 ∷ 21 ∷ [])
  pub cut : (b : Bounds3f) (n : ℕ) → OneOf (cut_refusal b n) (0 ∷ 6 ∷ 7 ∷ 14 ∷ [])
