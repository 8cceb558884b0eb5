-- `inverse` meets its contract. The invariant is `Reached`: after i rounds the definition stands where the locals do.
use Prim.Native.Nat.{◌-◌}
use native.Mathlib.Omega.{arith}
use Rattle.matrix_inverse.proofs.Rounds.{reached-start, reached-next, reached-zero_pivot, reached-end}
use borrow.Author.Rules.{rules}
use Rattle.matrix_inverse.proofs.inverse.Goals as goal

pub loop-i-init : goal.loop-i-init
loop-i-init c = (search rules, reached-start _)

pub returns-then-s-icol : goal.returns-then-s-icol
returns-then-s-icol c = record {
  value = let found = c.search-p in
      let swapped = c.swap_rows-s in
      rw (reached-zero_pivot c.loop-i.invariant.1 found.result swapped.result found.ensures.value swapped.ensures.value (search rules) c.if-s-icol.true);
}

pub overflow_add-ipiv : goal.overflow_add-ipiv
overflow_add-ipiv c =
    omega (arith, c.loop-i.invariant.1.counts c.search-p.result.icol)

pub loop-i-preserved : goal.loop-i-preserved
loop-i-preserved c =
    let found = c.search-p in
    let swapped = c.swap_rows-s in (
      search rules,
      reached-next c.loop-i.invariant.1 found.result swapped.result found.ensures.value swapped.ensures.value
          c.eliminate-e.result found.ensures.in_range c.if-s-icol.false c.eliminate-e.ensures.value,
    )

pub restore_columns-requires : goal.restore_columns-requires
restore_columns-requires c = (c.loop-i.invariant.1.rows, c.loop-i.invariant.1.columns)

pub returns : goal.returns
returns c = record { value = rw (reached-end c.loop-i.invariant.1 (omega arith), ← c.restore_columns.ensures.value) c.judged.ensures.value }
