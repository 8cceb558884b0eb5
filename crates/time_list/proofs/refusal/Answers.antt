-- `refusal` meets its contract: the two tests of the definition.
use Rattle.motion_chain.specs.Times.{list_refusal}
use Rattle.time_list.proofs.refusal.Goals as goal

pub returns-then-are_numbers-is_finite : goal.returns-then-are_numbers-is_finite
unfolding list_refusal
returns-then-are_numbers-is_finite c = record { value = rw (← c.are_numbers.ensures.value, ← c.is_finite.ensures.value, c.if-are_numbers-is_finite.true) }

pub returns-then-never_falls-places : goal.returns-then-never_falls-places
unfolding list_refusal
returns-then-never_falls-places c = record { value = rw (← c.are_numbers.ensures.value, ← c.is_finite.ensures.value, c.if-are_numbers-is_finite.false, ← c.never_falls.ensures.value, c.if-never_falls-places.true) }

pub returns : goal.returns
unfolding list_refusal
returns c = record { value = rw (← c.are_numbers.ensures.value, ← c.is_finite.ensures.value, c.if-are_numbers-is_finite.false, ← c.never_falls.ensures.value, c.if-never_falls-places.false) }
