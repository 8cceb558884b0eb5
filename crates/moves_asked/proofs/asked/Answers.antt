-- `asked` is by its test.
use borrow.Author.Tests.{lt-ltb, le-ltb}
use Rattle.moves_asked.specs.Asked.{max_moves, Moves-asked}
use Rattle.moves_asked.proofs.asked.Goals as goal

pub returns-then-moves-gt-MAX_MOVES : goal.returns-then-moves-gt-MAX_MOVES
unfolding Moves-asked
returns-then-moves-gt-MAX_MOVES c = record { value = rw (lt-ltb max_moves _ c.if-moves-gt-MAX_MOVES.true) }

pub returns : goal.returns
unfolding Moves-asked
returns c = record { value = rw (le-ltb max_moves _ c.if-moves-gt-MAX_MOVES.false) }
