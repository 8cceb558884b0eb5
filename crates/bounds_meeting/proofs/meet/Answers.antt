-- `meet` meets its contract: the first number that isn't 0, or else the boxes compared.
use mathlib.Core.Path.{◌∙◌}
use Rattle.refusal.specs.First.{first_refusal}
use Rattle.bounds_overlap.specs.Meets.{Bounds3f-meets}
use Rattle.bounds_meeting.proofs.Joined.{after-refusal, both-answered}
use Rattle.bounds_meeting.proofs.meet.Goals as goal

pub returns-then-refusal-ne0 : goal.returns-then-refusal-ne0
returns-then-refusal-ne0 c = record {
  value = let a = c.args in
      after-refusal a.r a.s
      (c.first_refusal-refusal.ensures.value ∙ λ i. first_refusal (c.number.ensures.value i) (c.number-2.ensures.value i)) c.if-refusal-ne0.true;
}

pub returns : goal.returns
returns c = record {
  value = let a = c.args in
      both-answered a.r a.s
      (c.first_refusal-refusal.ensures.value ∙ λ i. first_refusal (c.number.ensures.value i) (c.number-2.ensures.value i)) c.if-refusal-ne0.false
      (c.meets.ensures.value ∙ λ i. Bounds3f-meets (c.corners.ensures.value i) (c.corners-2.ensures.value i));
}
