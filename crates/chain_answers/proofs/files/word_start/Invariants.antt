-- `word_start` is safe and ends.
use Prim.Native.Nat.{◌≤◌}
use Rattle.chain_answers.proofs.files.word_start.Given as goal

abbrev pub invariant-loop-at : goal.invariant-loop-at
invariant-loop-at l = l.words ≤ l.at
