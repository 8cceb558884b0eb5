-- `put_poses` puts a pose at each place in turn. The invariant: once those of the lines from the i-th on are put from place i on, all are.
use Prim.Native.Nat.{◌≤◌}
use mathlib.Core.Path.{◌≡◌}
use mathlib.Core.List.{map}
use lib.ListN.{length, replicate}
use lib.Seq.{sets}
use Rattle.motion_file.specs.Layout.{values, pose_of}
use Rattle.motion_file.specs.means.Place.{lines_through}
use Rattle.motion_file.proofs.Lines.{place_from, lines_from}
use Rattle.file_reader.proofs.put_poses.Given as goal

abbrev pub invariant-loop-pose : goal.invariant-loop-pose
invariant-loop-pose l =
    (place_from (values l.columns) l.s l.count l.pose-index l.place ≤ length l.s)
    × (sets l.pose-items l.pose-index (map pose_of (lines_from (values l.columns) l.s l.count l.pose-index l.place))
    ≡ sets l.initial.pose-items 0 (map pose_of (lines_through (replicate l.count (values l.columns)) l.s l.at)))
