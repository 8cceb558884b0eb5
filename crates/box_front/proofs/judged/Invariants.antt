-- `judged` meets its contract. The invariant: what is counted, with the front of what is left from k on, is the whole.
use mathlib.Core.Path.{◌≡◌}
use Rattle.box_front.specs.means.Front.{Boxes-answers, Bounds3f-tested, Front-of}
use Rattle.box_front.proofs.Counted.{front_from}
use Rattle.box_front.proofs.judged.Given as goal

abbrev pub invariant-loop-k : goal.invariant-loop-k
invariant-loop-k l = front_from (Bounds3f-tested l.depth) l.boxes l.k ≡ Front-of (Boxes-answers (Bounds3f-tested l.depth) l.boxes)
