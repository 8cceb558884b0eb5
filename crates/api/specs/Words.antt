-- The words that the contracts of `api` cite, passed on for those of `api_c`, which exports the same functions to C. No definition of its own.
pub use Rattle.file_reader.specs.bounds3.List.{Point3f-of_list, Bounds3f-of_list}
pub use Rattle.lent_arrays.specs.transform.Answer.{PointAnswer-refusal, BoundsAnswer-refusal}
pub use Rattle.animated_transform.specs.declared.AnimatedTransform.{AnimatedTransform}
pub use Rattle.motion_rows.specs.motion_point.TransformPoint.{AnimatedTransform-transform_point}
pub use Rattle.motion_bounds.specs.Answer.{MotionBoundsAnswer-refusal}
pub use Rattle.lent_arrays.specs.Arrays.{Pose-of_list, PointAnswer-left, TransformAnswer-left, BoundsAnswer-left}
pub use Rattle.file_reader.specs.matrix4x4.Rows.{Rows}
pub use Rattle.interpolate_kept.specs.interpolation.Interpolate.{AnimatedTransform-interpolate}
pub use Rattle.motion_rows.specs.Rows.{AnimatedTransform-to_rows, AnimatedTransformAnswer-left, transform_at}
pub use Rattle.motion_rows.specs.Holds.{Rows-Holds}
pub use Rattle.pad_query.specs.PadQuery.{AnimatedTransform-pad, Rows-pad, PadAnswer-refusal, PadAnswer-left}
pub use Rattle.chain_rows.specs.motion_chain.Chain.{Chain, built, ChainAnswer-refusal, Chain-new, Chain-transform_point}
pub use Rattle.chain_rows.specs.motion_chain.Times.{PointsAnswer-refusal, PointsAnswer-left, Chain-transform_points}
pub use Rattle.refused_run.specs.chain_poses.Poses.{Poses-of_lists}
pub use Rattle.chain_rows.specs.Kept.{Chain-to_rows, Chain-pad, Moves-pad}
pub use Rattle.moves_asked.specs.Asked.{Moves-asked}
pub use Rattle.chain_rows.specs.Theorem.{Moves-Holds, KeptChainContainsMotion}
pub use Rattle.chain_rows.specs.Finer.{KeptChainFiner}
pub use Rattle.interpolate_kept.specs.Kept.{Rows-interpolate, Chain-interpolate, Moves-interpolate}
pub use Rattle.interpolate_kept.specs.Theorem.{MovesPoints}
pub use Rattle.chain_held.specs.Held.{Moves-held, Moves-pose_refusal, Moves-pose_left}
pub use Rattle.chain_held.specs.Theorem.{HeldAsSet, PoseAsSet}
pub use Rattle.chain_trial.specs.changed_chain.Trial.{Chain-try}
pub use Rattle.chain_trial.specs.Theorem.{TrialContainsMotion}
pub use Rattle.chain_build.specs.Build.{ChainAnswer-left}
pub use Rattle.chain_join.specs.Rows.{Moves-join_refusal, Moves-join_left}
pub use Rattle.chain_join.specs.Theorem.{Joined}
pub use Rattle.cut_parts.specs.cut_laws.Cut.{cut_refusal, Bounds3f-cut}
pub use Rattle.cut_parts.specs.cut_laws.Theorem.{PartsWithin, PartsCover}
pub use Rattle.reach_kept.specs.Kept.{Moves-reach_refusal, Moves-reach_left, KeptReachDry, KeptReachDryAlways, KeptReachFiner, KeptReachCovered}
pub use Rattle.reached_rows.specs.Rows.{rows_refusal, reached_rows, rows_left}
pub use Rattle.reached_rows.specs.Theorem.{RowsApart, KeptRowsApart}
pub use Rattle.refused_run.specs.Run.{shortest_run}
pub use Rattle.refused_run.specs.Theorem.{ShortestRefused}
pub use Rattle.chain_covers.specs.box_set.Set.{SetAnswer-refusal}
pub use Rattle.chain_covers.specs.Kept.{Moves-covers, SetAnswer-covers_left, SetAnswer-union_left}
pub use Rattle.chain_covers.specs.Theorem.{KeptSetContainsMotion}
pub use Rattle.chain_covers.specs.Finer.{KeptSetFiner}
pub use Rattle.file_reader.specs.motion_file.Layout.{MoveFile-read, MoveFile-poses}
pub use Rattle.file_reader.specs.motion_file.Front.{front as poses_front}
pub use Rattle.chain_text.specs.Write.{TextAnswer-refusal, TextAnswer-length, TextAnswer-left}
pub use Rattle.chain_text.specs.Theorem.{WrittenBack}
pub use Rattle.run_starts.specs.run_schedule.Day.{day_refusal}
pub use Rattle.run_starts.specs.run_schedule.Theorem.{DayKeeps}
pub use Rattle.run_starts.specs.Booms.{Booms-of_lists, starts_left}
pub use Rattle.api.specs.Files.{MoveFile-bounds_left, Moves-written}
pub use Rattle.window_pairs.specs.window_meetings.Windows.{WindowsAnswer-refusal, WindowsAnswer-windows, WindowsAnswer-left}
pub use Rattle.window_pairs.specs.Kept.{KeptWindows, KeptWindowsApart, KeptWindowsFiner}
pub use Rattle.window_cover.specs.Kept.{KeptWindowContainsMotion, KeptWindowFiner}
pub use Rattle.api.specs.Chains.{layout_number, version_number, Moves-point, Moves-points, Moves-cover_of, Moves-try_of, Moves-window_cover_of, Moves-windows_of}
pub use Rattle.api.specs.Answers.{Rows-new, Rows-point, Rows-bound_point_motion, Rows-motion_bounds, Rows-cover}
pub use Rattle.api.specs.Examined.{MotionBoundsAnswer-left, MotionBoundsAnswer-examined_left}
pub use Rattle.api.specs.Kept.{KeptCoverContainsMotion, KeptCoverFiner, KeptCover, KeptWindowCover}
