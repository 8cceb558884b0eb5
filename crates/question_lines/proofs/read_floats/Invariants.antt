-- `read_floats` reads float by float. The invariant: the rest of the text gives what the text gives.
use Prim.Native.Nat.{◌-◌}
use mathlib.Core.Path.{◌≡◌}
use Rattle.question_lines.specs.Words.{floats_from, stored_from}
use Rattle.question_lines.proofs.read_floats.Given as goal

abbrev pub invariant-loop-k : goal.invariant-loop-k
invariant-loop-k l = (floats_from (l.count - l.k) l.k l.text ≡ floats_from l.count 0 l.text)
    × (stored_from (l.count - l.k) l.k l.text l.values ≡ stored_from l.count 0 l.text l.initial.values)
