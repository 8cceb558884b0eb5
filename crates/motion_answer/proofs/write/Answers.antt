-- `write` meets its contract: each case of the answer has its text.
use Rattle.motion_answer.specs.Answer.{BoundsAnswer-text}
use Rattle.motion_answer.proofs.write.Goals as goal

pub returns-in-Bounds : goal.returns-in-Bounds
unfolding BoundsAnswer-text
returns-in-Bounds c =
    let text = c.write_bounds.ensures in
    record {
      value = rw (c.in-Bounds.is, ← c.bounds_values.ensures.value) text.value;
      text = rw (c.in-Bounds.is, ← c.bounds_values.ensures.value) text.text;
      counts = text.counts;
    }

pub returns-in-Refused : goal.returns-in-Refused
unfolding BoundsAnswer-text
returns-in-Refused c =
    let text = c.write_refusal.ensures in
    record { value = rw c.in-Refused.is text.value; text = rw c.in-Refused.is text.text; counts = text.counts }
