-- `take_moves` meets its contract. The invariant: what the moves before i bring is taken.
use Rattle.reach_window.specs.means.Poses.{stage_poses}
use Rattle.reach_window.proofs.Walk.{Passing}
use Rattle.reach_window.proofs.take_moves.Given as goal

abbrev pub invariant-loop-i : goal.invariant-loop-i
invariant-loop-i l = Passing l.boxes l.rows (stage_poses l.d l.w l.stage) l.moves l.initial.reached l.initial.names l.i l.reached l.names
