-- `put_three` meets its contract: three stores in sequence.
use Prim.Native.Nat.{suc, ◌+◌}
use mathlib.Core.Path.{◌≡◌}
use native.Mathlib.Omega.{arith}
use lib.ListN.{length-set}
use Rattle.stretch_points.proofs.put_three.Goals as goal

pub bounds-out-n-2 : goal.bounds-out-n-2
bounds-out-n-2 c = let h = c.requires in rw (length-set c.args.out.now c.args.n c.args.q.x) (omega (arith, h))

pub returns : goal.returns
returns c = record {
  left = let next : c.args.n + 1 ≡ suc c.args.n = omega arith in
      let third : c.args.n + 2 ≡ suc (suc c.args.n) = omega arith in
      rw (next, third);
}
