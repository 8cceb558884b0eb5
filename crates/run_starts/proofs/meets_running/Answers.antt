-- `meets_running` meets its contract: no boom before j runs and meets the box.
use mathlib.Core.Path.{refl, sym, ◌∙◌}
use Rattle.run_schedule.specs.Day.{some_below}
use Rattle.run_schedule.proofs.Places.{some-here}
use Rattle.run_starts.specs.means.Ends.{runs_and_meets}
use Rattle.run_starts.proofs.Loops.{some_next}
use Rattle.run_starts.proofs.meets_running.Goals as goal

pub loop-j-init : goal.loop-j-init
unfolding some_below
loop-j-init c = refl

pub returns-then-runs_and_meets : goal.returns-then-runs_and_meets
returns-then-runs_and_meets c = record {
  value = let a = c.args in
      let meets = sym c.runs_and_meets.ensures.value ∙ c.if-runs_and_meets.true in
      sym (some-here a.count (runs_and_meets a.boxes.now a.ends a.t a.i) c.loop-j.j c.loop-j-test.true meets);
}

pub loop-j-preserved : goal.loop-j-preserved
loop-j-preserved c =
    let a = c.args in
    some_next c.loop-j.j (runs_and_meets a.boxes.now a.ends a.t a.i) c.loop-j.invariant (sym c.runs_and_meets.ensures.value ∙ c.if-runs_and_meets.false)
