-- `same_kind` compares what the two blocks say of their kind.
use borrow.Author.Rules.{rules}
use Rattle.chain_join.proofs.same_kind.Goals as goal

pub returns : goal.returns
returns c = record { value = rw (c.is_rigid.ensures.value, c.is_rigid-2.ensures.value) }
