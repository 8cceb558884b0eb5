-- `find_zeros` meets its contract, by the clauses of `search`. The counts add up to no more than 1023 (`few-examined`).
use Rattle.std.proofs.Common.{◌≤◌, sym, arith}
use Rattle.newton_method.proofs.OverTable.{newton-lent}
use Rattle.zero_search.proofs.Clauses.{search-excluded, search-newton, search-ends, search-halves}
use Rattle.zero_search.proofs.Examined.{few-examined}
use Rattle.zero_search.proofs.+find_zeros.Goals as goal

pub returns-then-excludes_zero : goal.returns-then-excludes_zero
returns-then-excludes_zero t c =
    let a = c.args in
    record { value = rw (sym c.excludes_zero.ensures.value, c.if-excludes_zero.true) (sym (search-excluded a.depth a.f a.i a.found)) }

pub returns-then-depth-eq0 : goal.returns-then-depth-eq0
returns-then-depth-eq0 t c =
    let a = c.args in
    record {
      value = rw (
        c.accept-zeros.ensures.value,
        newton-lent a.f c.entries.ensures.value 4 _ c.newton.ensures.value,
        c.midpoint-mid.ensures.value,
        sym c.excludes_zero.ensures.value,
        c.if-excludes_zero.false,
        c.if-depth-eq0.true,
        search-newton a.f a.i a.found,
      );
    }

pub overflow_add-examined : goal.overflow_add-examined
overflow_add-examined t c =
    let few : c.find_zeros-lower.result.examined ≤ 511 = rw c.find_zeros-lower.ensures.value (few-examined _ (omega (arith, c.requires.1)) _ _ _) in
    omega (arith, few)

pub returns-then-zeros-ne0 : goal.returns-then-zeros-ne0
returns-then-zeros-ne0 t c =
    let a = c.args in
    let found = rw (c.new.ensures.value, c.midpoint-mid.ensures.value) at c.find_zeros-lower.ensures.value in
    record {
      value = rw (sym c.excludes_zero.ensures.value, c.if-excludes_zero.false)
          (sym (search-ends a.depth a.f a.i a.found c.find_zeros-lower.result c.if-depth-eq0.false found c.if-zeros-ne0.true));
    }

pub overflow_add-examined-2 : goal.overflow_add-examined-2
overflow_add-examined-2 t c =
    let few : c.find_zeros-lower.result.examined ≤ 511 = rw c.find_zeros-lower.ensures.value (few-examined _ (omega (arith, c.requires.1)) _ _ _) in
    omega (arith, few)

pub overflow_add-examined-3 : goal.overflow_add-examined-3
overflow_add-examined-3 t c =
    let few : c.find_zeros-lower.result.examined ≤ 511 = rw c.find_zeros-lower.ensures.value (few-examined _ (omega (arith, c.requires.1)) _ _ _) in
    let few-2 : c.find_zeros-upper.result.examined ≤ 511 = rw c.find_zeros-upper.ensures.value (few-examined _ (omega (arith, c.requires.1)) _ _ _) in
    omega (arith, few, few-2)

pub returns : goal.returns
returns t c =
    let a = c.args in
    let found = rw (c.new.ensures.value, c.midpoint-mid.ensures.value) at c.find_zeros-lower.ensures.value in
    let found-2 = rw (c.new-2.ensures.value, c.midpoint-mid.ensures.value) at c.find_zeros-upper.ensures.value in
    record {
      value = rw (sym c.excludes_zero.ensures.value, c.if-excludes_zero.false)
          (sym (search-halves a.depth a.f a.i a.found c.find_zeros-lower.result c.find_zeros-upper.result
          c.if-depth-eq0.false found c.if-zeros-ne0.false found-2));
    }
