-- `first_moves` takes them, or all where there are fewer.
use Prim.Native.Nat.{ℕ, ◌-◌}
use native.Mathlib.Omega.{arith}
use mathlib.Core.Path.{◌≡◌, sym, ap}
use lib.ListN.{take}
use lib.Seq.{take_all}
use Rattle.chain_slots.proofs.first_moves.Goals as goal

pub returns-then-moves-n : goal.returns-then-moves-n
returns-then-moves-n c =
    sym (take_all c.args.n c.args.moves.now (omega (arith, c.if-moves-n.true)))

pub returns : goal.returns
returns c =
    let a = c.args in
    let all : a.n - 0 ≡ a.n = omega arith in
    ap (λ (k : ℕ). take k a.moves.now) all
