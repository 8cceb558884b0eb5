-- `kept_moves` is the front of a slot.
use native.Mathlib.Omega.{arith}
use borrow.Author.Tests.{lt-ltb, le-ltb}
use Rattle.chain_slots.specs.Slots.{Slots-moves}
use Rattle.chain_slots.proofs.kept_moves.Goals as goal

pub returns-then-slot-gt3 : goal.returns-then-slot-gt3
unfolding Slots-moves
returns-then-slot-gt3 c = record { value = rw (le-ltb c.args.slot 4 (omega (arith, c.if-slot-gt3.true))) c.first_moves.ensures }

pub returns : goal.returns
unfolding Slots-moves
returns c = record { value = rw (lt-ltb c.args.slot 4 (omega (arith, c.if-slot-gt3.false))) (rw c.moves_of.ensures at c.first_moves-2.ensures) }
