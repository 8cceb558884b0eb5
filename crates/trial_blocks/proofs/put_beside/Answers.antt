-- `put_beside` meets its contract: one test tells whether there are two.
use native.Mathlib.Omega.{arith}
use Rattle.trial_blocks.proofs.Blocks.{between, put_one, put_two}
use Rattle.trial_blocks.proofs.put_beside.Goals as goal

pub bounds-blocks-place : goal.bounds-blocks-place
bounds-blocks-place c =
    let h = (between c.args.place c.args.n c.if-place-n.true).1 in
    omega (arith, h)

pub returns-then-place-n : goal.returns-then-place-n
returns-then-place-n c = record {
  left = let a = c.args in
      let t = c.if-place-n.true in
      rw c.first_beside-first.ensures.value
      (put_two a.blocks.now a.beside.now a.n a.place t (between a.place a.n t).0);
}

pub returns-else-place-n : goal.returns-else-place-n
returns-else-place-n c = record {
  left = let a = c.args in
      rw c.first_beside-first.ensures.value (put_one a.blocks.now a.beside.now a.n a.place c.if-place-n.false);
}
