-- `put_decimals` puts whole numbers one by one. The invariant: what is left from the k-th on, put from `end` on, makes the whole.
use lib.ListN.{take, drop}
use Rattle.answer_values.specs.Lines.{decimal_pieces}
use Rattle.answer_values.proofs.Lines.{Left}
use Rattle.answer_values.proofs.put_decimals.Given as goal

abbrev pub invariant-loop-n : goal.invariant-loop-n
invariant-loop-n l = Left (decimal_pieces (drop l.n-index (take l.count l.values))) (decimal_pieces (take l.count l.values)) l.initial.out l.out l.at l.end
