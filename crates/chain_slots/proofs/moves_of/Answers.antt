-- `moves_of` is by its tests.
use borrow.Author.Tests.{lt-ltb, le-ltb}
use Rattle.chain_slots.specs.Slots.{moves_of}
use Rattle.chain_slots.proofs.moves_of.Goals as goal

pub returns-then-poses-fewest : goal.returns-then-poses-fewest
unfolding moves_of
returns-then-poses-fewest c =
    rw (lt-ltb _ _ c.if-poses-fewest.true)

pub returns-then-poses-lt2 : goal.returns-then-poses-lt2
unfolding moves_of
returns-then-poses-lt2 c =
    rw (le-ltb _ _ c.if-poses-fewest.false, lt-ltb _ 2 c.if-poses-lt2.true)

pub returns-else-poses-lt2 : goal.returns-else-poses-lt2
unfolding moves_of
returns-else-poses-lt2 c =
    rw (le-ltb _ _ c.if-poses-fewest.false, le-ltb _ 2 c.if-poses-lt2.false)
