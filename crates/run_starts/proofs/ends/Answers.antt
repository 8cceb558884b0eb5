-- `ends` meets its contract. The invariant: `ends` tells what each boom has done before tick t. Between two stops nothing starts (`stop-next`).
use Prim.Native.Nat.{◌-◌}
use mathlib.Core.Path.{sym, ◌∙◌}
use native.Mathlib.Omega.{arith}
use Rattle.run_starts.specs.means.Ends.{last_tick}
use Rattle.run_starts.proofs.Stops.{Stop, all-few, stop-first, stop-next, stop-last}
use borrow.Author.Rules.{rules}
use Rattle.run_starts.proofs.ends.Goals as goal

pub loop-started-init : goal.loop-started-init
loop-started-init c = stop-first c.args.count c.args.boxes.now c.args.lengths.now c.requires.count_bound c.requires.good_lengths

pub start_waiting-started-requires : goal.start_waiting-started-requires
start_waiting-started-requires c = let a = c.args in let all = all-few a.count a.boxes.now a.lengths.now c.requires.count_bound c.requires.good_lengths in record { count_bound = c.requires.count_bound; good_lengths = c.requires.good_lengths; t_le_last_tick = omega (arith, c.loop-started.invariant.early, all) }

pub loop-started-smaller : goal.loop-started-smaller
loop-started-smaller c =
    let a = c.args in
    let l = c.loop-started in
    let waits = sym c.waits.ensures.value ∙ c.loop-started-test.true in
    let all = all-few a.count a.boxes.now a.lengths.now c.requires.count_bound c.requires.good_lengths in
    let s =
    stop-next a.count a.boxes.now a.lengths.now c.requires.count_bound c.requires.good_lengths l.t l.ends c.start_waiting-started.result
    c.next_stop-t.result l.invariant c.start_waiting-started.ensures.value c.next_stop-t.ensures.value waits in
    omega (arith, s.0, s.1.early, all)

pub loop-started-preserved : goal.loop-started-preserved
loop-started-preserved c =
    let a = c.args in
    let l = c.loop-started in
    let waits = sym c.waits.ensures.value ∙ c.loop-started-test.true in
    (stop-next a.count a.boxes.now a.lengths.now c.requires.count_bound c.requires.good_lengths l.t l.ends c.start_waiting-started.result
    c.next_stop-t.result l.invariant c.start_waiting-started.ensures.value c.next_stop-t.ensures.value waits).1

pub returns : goal.returns
returns c = record {
  value = let a = c.args in
      let l = c.loop-started in
      let waits = sym c.waits.ensures.value ∙ c.loop-started-test.false in
      stop-last a.count a.boxes.now a.lengths.now c.requires.count_bound c.requires.good_lengths l.t l.ends l.invariant waits;
}
