-- `put_parts` meets its contract. The invariant: the first i parts stand in the first places.
use Rattle.cut_parts.proofs.Tests.{Cutting}
use Rattle.cut_parts.proofs.put_parts.Given as goal

abbrev pub invariant-loop-i : goal.invariant-loop-i
invariant-loop-i l = Cutting l.b l.n l.initial.parts l.parts l.i
