-- `add_digit` meets its contract: 2 to the k is exact, and the sum is below 2^64.
use Prim.Native.Nat.{ℕ, ◌+◌, ◌-◌, ◌≤◌, ◌<◌}
use mathlib.Core.Path.{◌≡◌, refl, sym, ap, ◌∙◌}
use native.Mathlib.Omega.{arith}
use borrow.Author.Rules.{rules}
use lib.ListN.{length}
use Prim.Native.Nat.{◌*◌, ◌%◌, ◌^◌}
use Rattle.reach_kept.specs.means.Masks.{added_mask}
use Rattle.reach_kept.proofs.Masks.{digit-exact, digit_room}
use borrow.Author.Rules.{rules}
use Rattle.reach_kept.proofs.add_digit.Goals as goal

pub overflow_add-result : goal.overflow_add-result
overflow_add-result c =
    let a = c.args in
    let h = digit_room a.mask a.k c.requires.k_bound c.requires.mask_bound in
    omega (arith, h)

pub returns-then-named : goal.returns-then-named
unfolding added_mask
returns-then-named c = record {
  value = let a = c.args in
      rw c.if-named.true (ap (λ n. a.mask + n) (digit-exact a.k c.requires.k_bound));
}

pub returns : goal.returns
unfolding added_mask
returns c = record { value = rw c.if-named.false }
