-- `Interval::div_enclosure` meets its contract: the four values are the definition's, judged after the divisor.
use Rattle.interval.specs.Enclosure.{Interval-div_enclosure, Judged-div_enclosure}
use Rattle.refusal.proofs.Outcome.{handed-on}
use Rattle.interval.proofs.Refusal.{refused-positive}
use Rattle.interval.proofs.Interval.div_enclosure.Goals as goal

pub returns-in_err-judge_positive : goal.returns-in_err-judge_positive
unfolding Judged-div_enclosure
returns-in_err-judge_positive c = record {
  value = rw (handed-on _ _ c.from_residual.ensures) (refused-positive _ c.args.y (Interval-div_enclosure c.args.self c.args.y) c.in_err-judge_positive.ensures.value);
}

pub returns : goal.returns
unfolding Interval-div_enclosure Judged-div_enclosure
returns c = record { value = rw (c.judge.ensures.value, c.of_four-four.ensures.value, ← c.in_ok-judge_positive.ensures.value) }
