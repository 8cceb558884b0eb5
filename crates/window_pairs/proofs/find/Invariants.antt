-- `find` meets its contract. Its loop keeps that the windows found so far, with those that are left, are all of them.
use Rattle.window_cover.specs.Kept.{Moves-window_cover}
use Rattle.window_pairs.proofs.Loop.{Loop}
use Rattle.window_pairs.proofs.find.Given as goal

abbrev pub invariant-loop-i : goal.invariant-loop-i
invariant-loop-i l =
    Loop (Moves-window_cover l.moves l.b l.depth) (Moves-window_cover l.others l.other l.depth) l.ticks l.i l.found
