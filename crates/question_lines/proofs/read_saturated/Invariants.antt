-- `read_saturated` reads digit by digit and holds what is read below 2^32. The invariant: the rest of the word is digits where the word is, and with them
-- behind the value the same number is held.
use Prim.Native.Nat.{◌<◌}
use mathlib.Core.Path.{◌≡◌}
use lib.ListN.{drop}
use Rattle.question_lines.specs.Words.{Decimal-saturated, are_digits, number_from}
use Rattle.question_lines.proofs.read_saturated.Given as goal

abbrev pub invariant-loop-b : goal.invariant-loop-b
invariant-loop-b l =
    (l.value < 4294967296)
    × ((are_digits (drop l.b-index l.word) ≡ are_digits l.word)
    × (Decimal-saturated (number_from l.value (drop l.b-index l.word)) ≡ Decimal-saturated (number_from 0 l.word)))
