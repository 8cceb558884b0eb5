-- `put`: what was written so far is the front of the text. Each turn writes one byte or more, so that it ends.
use Rattle.std.proofs.Common.{◌-◌, ◌≤◌, length, take}
use Rattle.std.specs.Io.KnownBytes.{Appends}
use Rattle.standard_streams.proofs.put.Given as goal

abbrev pub invariant-loop-at : goal.invariant-loop-at
invariant-loop-at g l = record {
  in_bounds : l.at ≤ length l.text;
  given : Appends (g.W.Write.contents l.initial.output) (g.W.Write.contents l.output) (take l.at l.text);
}

abbrev pub decreases-loop-at : goal.decreases-loop-at
decreases-loop-at g l = length l.text - l.at
