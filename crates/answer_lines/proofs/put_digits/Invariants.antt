-- `put_digits`: the digits of what is left and those that are written are the digits of the number.
use Rattle.std.proofs.Common.{◌≡◌, ◌^◌, ◌<◌, ◌++◌, length, drop}
use Rattle.answer_lines.specs.Pieces.{decimal}
use Rattle.answer_lines.proofs.Pieces.{digits_before}
use Rattle.answer_lines.proofs.put_digits.Given as goal

abbrev pub invariant-loop-rest : goal.invariant-loop-rest
invariant-loop-rest l = record {
  places : length l.digits ≡ 20;
  in_bounds : l.start < 20;
  few : l.rest < 10 ^ l.start;
  digits : decimal l.n ≡ digits_before l.start l.rest ++ drop l.start l.digits;
}

abbrev pub decreases-loop-rest : goal.decreases-loop-rest
decreases-loop-rest l = l.start
