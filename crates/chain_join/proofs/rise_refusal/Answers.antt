-- `rise_refusal` asks the first's times from its start on, and then the second's from the first's last on: those of the poses of both (`joined-rise`).
use Prim.Native.Nat.{suc, ◌-◌}
use mathlib.Core.Path.{◌≡◌}
use native.Mathlib.Omega.{arith}
use borrow.Author.Rules.{rules}
use lib.ListN.{length}
use Rattle.chain_join.proofs.Rise.{joined-rise}
use Rattle.chain_join.proofs.rise_refusal.Goals as goal

pub returns : goal.returns
returns c = record {
  value = let first = c.args.first.now in
      let h = c.requires.first_nonzero in
      let last : suc (length first - 1) ≡ length first = omega (arith, h) in
      joined-rise first c.args.second.now (length first - 1) last c.requires.second_nonzero c.rise_from-before.ensures.value c.rise_from-after.ensures.value c.first_refusal.ensures.value;
}
