-- `take_pose` meets its contract. The invariant: the pose is taken over the boxes before i.
use mathlib.Core.Path.{◌≡◌}
use Rattle.motion_piece.specs.means.Piece.{PaddedPose-judged}
use Rattle.box_front.proofs.Put.{Taking}
use Rattle.box_front.proofs.take_pose.Given as goal

abbrev pub invariant-loop-i : goal.invariant-loop-i
invariant-loop-i l =
    (l.n ≡ l.front.count) × Taking l.first (PaddedPose-judged l.pose) l.boxes l.front l.initial.places l.places l.i
