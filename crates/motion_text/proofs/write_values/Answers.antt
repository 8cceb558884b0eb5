-- `write_values` writes a line of values in one piece (`wrote_one`).
use Prim.Native.Nat.{◌*◌, ◌<◌}
use native.Mathlib.Omega.{arith}
use mathlib.Core.Path.{sym}
use lib.ListN.{length}
use borrow.Author.Rules.{rules}
use Rattle.motion_text.proofs.Pastes.{front-short, length_in-short, wrote_one}
use Rattle.motion_text.proofs.Written.{values_line, length-values}
use Rattle.motion_text.proofs.write_values.Goals as goal

pub returns-then-out-values : goal.returns-then-out-values
returns-then-out-values c = let a = c.args in let short : length a.out.now < length (values_line a.values.now) = omega (arith, c.if-out-values.true, length-values a.values.now) in record { value = length_in-short (values_line a.values.now) a.out.now short; text = front-short (values_line a.values.now) a.out.now short }

pub returns : goal.returns
returns c = let a = c.args in let all = wrote_one (values_line a.values.now) a.out.now _ (9 * length a.values.now) (sym (length-values a.values.now)) (omega arith)
    c.put_values.ensures in record { value = all.0; text = all.1 }
