-- `join_groups` meets its contract. The invariant: the boxes of the first groups are joined, and the border where the next begins is known.
use Prim.Native.Nat.{◌*◌}
use mathlib.Core.Path.{◌≡◌}
use Rattle.pose_steps.specs.control_flow.Loop.{loop}
use Rattle.pose_steps.specs.unit_interval.Unit.{slice_end}
use Rattle.pose_steps.specs.Pose.{is_near}
use Rattle.cover_groups.specs.means.Groups.{Border-at, LanesVector-group}
use Rattle.cover_groups.proofs.join_groups.Given as goal

abbrev pub invariant-loop : goal.invariant-loop
invariant-loop l =
    (l.reached.union ≡ loop (LanesVector-group l.a l.second l.s0 l.s1 l.pad0 l.pad1 l.p l.h) l.counter l.initial.reached.union)
    × (l.reached.from ≡ Border-at (is_near l.a) l.a.theta (slice_end l.h (4 * l.counter)))
