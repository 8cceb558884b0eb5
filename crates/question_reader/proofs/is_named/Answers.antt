-- `is_named` compares the first word.
use Prim.Native.Nat.{ℕ}
use mathlib.Core.Path.{ap}
use lib.Dec.{eqb}
use Rattle.question_reader.proofs.is_named.Goals as goal

pub returns : goal.returns
returns c = record { value = ap (λ (n : ℕ). eqb n 0) (rw c.word_end-end.ensures.value at (rw c.part.ensures.value at c.position.ensures.value)) }
