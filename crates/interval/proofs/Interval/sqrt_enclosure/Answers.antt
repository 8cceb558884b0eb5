-- `Interval::sqrt_enclosure` meets its contract: the roots of both ends, judged after the interval that is rooted.
use Rattle.interval.specs.Enclosure.{Interval-sqrt_enclosure, Judged-sqrt_enclosure}
use Rattle.refusal.proofs.Outcome.{handed-on}
use Rattle.interval.proofs.Refusal.{refused-positive}
use Rattle.interval.proofs.Interval.sqrt_enclosure.Goals as goal

pub returns-in_err-judge_positive : goal.returns-in_err-judge_positive
unfolding Judged-sqrt_enclosure
returns-in_err-judge_positive c = record {
  value = rw (handed-on _ _ c.from_residual.ensures) (refused-positive _ c.args.self (Interval-sqrt_enclosure c.args.self) c.in_err-judge_positive.ensures.value);
}

pub returns : goal.returns
unfolding Interval-sqrt_enclosure Judged-sqrt_enclosure
returns c = record { value = rw (c.judge.ensures.value, ← c.in_ok-judge_positive.ensures.value, c.sqrt-2.ensures.value, c.sqrt.ensures.value) }
