-- `union_axis` meets its contract: each arm is its case of the definition, and the search's number chooses in the first.
use borrow.Author.Tests.{eq-eqb, ne_eqb}
use Rattle.motion_bounds.specs.MotionBounds.{union_axis}
use Rattle.motion_bounds.proofs.Searched.{axis-zeros-stored}
use borrow.Author.Rules.{rules}
use Rattle.motion_bounds.proofs.union_axis.Goals as goal

pub returns-then-zeros-ne0 : goal.returns-then-zeros-ne0
unfolding union_axis
returns-then-zeros-ne0 c = record { value = rw (c.in-Bounds.is, ← c.axis_search-found.ensures.value, ne_eqb _ _ c.if-zeros-ne0.true) (rw c.axis_search-found.ensures.value) }

pub union_zeros-bounds-requires : goal.union_zeros-bounds-requires
union_zeros-bounds-requires c =
    rw c.axis_search-found.ensures.value (axis-zeros-stored _ _ _)

pub returns-else-zeros-ne0 : goal.returns-else-zeros-ne0
unfolding union_axis
returns-else-zeros-ne0 c = record {
  value = let told = c.in-Bounds.is in
      rw (told, ← c.axis_search-found.ensures.value, eq-eqb _ _ c.if-zeros-ne0.false, c.union_zeros-bounds.ensures.value, told) (rw c.axis_search-found.ensures.value);
}

pub returns-in-Refused : goal.returns-in-Refused
unfolding union_axis
returns-in-Refused c = record { value = rw c.in-Refused.is }
