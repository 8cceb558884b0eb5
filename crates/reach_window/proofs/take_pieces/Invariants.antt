-- `take_pieces` meets its contract. The invariant: the poses of the pieces before k are taken.
use lib.ListN.{take}
use Rattle.reach_window.specs.means.Poses.{piece_poses}
use Rattle.reach_window.specs.means.Walk.{Walks}
use Rattle.reach_window.proofs.take_pieces.Given as goal

abbrev pub invariant-loop-k : goal.invariant-loop-k
invariant-loop-k l = Walks l.boxes l.rows (take l.k (piece_poses l.m l.d l.dt)) l.initial.reached l.reached l.initial.names l.names
