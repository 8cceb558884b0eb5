-- A pose of its time, the rows of its matrix and its pad. No promise cites it. Definitions only.
use Rattle.std.specs.Prelude.{Float}
use Rattle.motion_rows.specs.matrix4x4.Rows.{Row}
use Rattle.motion_rows.specs.pose_pair.declared.Pose.{Pose}

abbrev pub pose : Float → Row → Row → Row → Row → Float → Pose
pose time r0 r1 r2 r3 pad = record { time = time; m = record { r0 = r0; r1 = r1; r2 = r2; r3 = r3 }; pad = pad }
