-- `write_refusal` is `Moves-write_refusal`, test by test.
use borrow.Author.Rules.{rules}
use Rattle.chain_text.proofs.Clauses.{none_number, some_number}
use Rattle.chain_text.proofs.write_refusal.Goals as goal

pub returns-then-moves-eq0 : goal.returns-then-moves-eq0
returns-then-moves-eq0 c = let a = c.args in none_number a.moves.now a.b a.size c.if-moves-eq0.true

pub returns : goal.returns
returns c =
    let a = c.args in
    some_number a.moves.now a.b a.size c.if-moves-eq0.false c.text_length.ensures
    c.refusal-judged.ensures.value c.room_refusal-room.ensures c.first_refusal.ensures.value
