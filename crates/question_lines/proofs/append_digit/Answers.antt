-- `append_digit` is `Decimal-append`, test by test.
use native.Mathlib.Omega.{arith}
use Rattle.question_lines.proofs.Decimals.{append-low, append-high, append-large, append-fits}
use Rattle.question_lines.proofs.append_digit.Goals as goal

pub returns-then-b-lt48 : goal.returns-then-b-lt48
returns-then-b-lt48 c = record { value = let a = c.args in append-low a.n a.b c.if-b-lt48.true }

pub returns-then-b-gt57 : goal.returns-then-b-gt57
returns-then-b-gt57 c = record { value = let a = c.args in append-high a.n a.b c.if-b-gt57.true }

pub returns-then-d-n : goal.returns-then-d-n
returns-then-d-n c = record { value = let a = c.args in append-large a.n a.b (omega arith) (omega arith) c.if-d-n.true }

pub returns : goal.returns
returns c = record { value = let a = c.args in append-fits a.n a.b (omega arith) (omega arith) c.if-d-n.false }
