-- `runs_and_meets` meets its contract: the box is looked at where the boom runs.
use borrow.Author.Rules.{rules}
use Rattle.run_starts.proofs.runs_and_meets.Goals as goal

pub returns-then-is_running : goal.returns-then-is_running
returns-then-is_running c = record {
  value = rw (
    ← c.is_running.ensures.value,
    c.if-is_running.true,
    c.meets.ensures.value,
    c.bounds.ensures.value,
    c.bounds-then-is_running.ensures.value,
  );
}

pub returns : goal.returns
returns c = record { value = rw (← c.is_running.ensures.value, c.if-is_running.false) }
