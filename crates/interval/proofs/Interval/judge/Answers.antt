-- `Interval::judge` meets its contract: each return is the case that the two tests chose.
use Rattle.std.proofs.Common.{◌≡◌, true, ◌&&◌}
use Rattle.interval.specs.Enclosure.{not_finite, Judged-judge}
use Rattle.interval.proofs.Interval.judge.Goals as goal

pub returns-then-is_finite : goal.returns-then-is_finite
unfolding not_finite Judged-judge
returns-then-is_finite c = record {
  value = let taken : (c.is_finite.result && c.is_finite-2.result) ≡ true = c.if-is_finite.true in
      rw (← c.is_finite.ensures.value, ← c.is_finite-2.ensures.value, taken);
}

pub returns-else-is_finite : goal.returns-else-is_finite
unfolding not_finite Judged-judge
returns-else-is_finite c = record { value = rw (← c.is_finite.ensures.value, ← c.is_finite-2.ensures.value, c.if-is_finite.false) }
