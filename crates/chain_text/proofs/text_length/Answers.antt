-- `text_length` adds the lengths of the lines.
use native.Mathlib.Omega.{arith}
use borrow.Author.Rules.{rules}
use Rattle.chain_text.proofs.text_length.Goals as goal

pub returns : goal.returns
returns c = omega arith
