-- `read_decimal` reads digit by digit. The invariant: the rest of the word behind the value gives what the word gives.
use mathlib.Core.Path.{◌≡◌}
use lib.ListN.{drop}
use Rattle.question_lines.specs.Words.{append_all}
use Rattle.question_lines.proofs.read_decimal.Given as goal

abbrev pub invariant-loop-b : goal.invariant-loop-b
invariant-loop-b l = append_all l.value (drop l.b-index l.word) ≡ append_all 0 l.word
