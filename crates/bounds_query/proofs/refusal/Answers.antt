-- `refusal` meets its contract: the first test that fails gives the number.
use Rattle.bounds_query.specs.Query.{Bounds3f-refusal}
use Rattle.bounds_query.proofs.refusal.Goals as goal

pub returns-then-not-finite : goal.returns-then-not-finite
unfolding Bounds3f-refusal
returns-then-not-finite c = record { value = rw (← c.is_finite-finite.ensures.value, c.if-not-finite.true) }

pub returns-then-not-ordered : goal.returns-then-not-ordered
unfolding Bounds3f-refusal
returns-then-not-ordered c = record {
  value = rw (← c.is_finite-finite.ensures.value, ← c.is_ordered-ordered.ensures.value, c.if-not-finite.false, c.if-not-ordered.true);
}

pub returns : goal.returns
unfolding Bounds3f-refusal
returns c = record {
  value = rw (← c.is_finite-finite.ensures.value, ← c.is_ordered-ordered.ensures.value, c.if-not-finite.false, c.if-not-ordered.false);
}
