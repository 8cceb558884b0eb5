-- `start_waiting` meets its contract. The invariant: the booms before i are taken.
use mathlib.Core.Path.{◌∙◌}
use native.Mathlib.Omega.{arith}
use lib.ListN.{length-set}
use borrow.Author.Rules.{rules}
use Rattle.run_starts.proofs.Taken.{taking-first, taking_step, taking-last}
use Rattle.run_starts.proofs.start_waiting.Goals as goal

pub loop-i-init : goal.loop-i-init
loop-i-init c = let a = c.args in (search rules, taking-first a.count a.boxes.now a.lengths.now a.t a.ends)

pub loop-i-preserved : goal.loop-i-preserved
loop-i-preserved c =
    let a = c.args in
    let l = c.loop-i in (
      length-set l.now l.i c.end_taken.result ∙ l.invariant.0,
      rw c.end_taken.ensures.value
          (taking_step a.count a.boxes.now a.lengths.now c.requires.good_lengths a.t l.i a.ends l.now (omega arith) (omega (arith, l.invariant.0)) l.invariant.1),
    )

pub returns : goal.returns
returns c = record {
  value = let a = c.args in
      let l = c.loop-i in
      taking-last a.count a.boxes.now a.lengths.now a.t l.i a.ends l.now (omega arith) l.invariant.1;
}
