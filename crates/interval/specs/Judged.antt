-- An interval with its refusal number, 0 for none. Definitions only.
use Rattle.std.specs.Prelude.{ℕ, Result, Ok, Err}
use Rattle.std.specs.Float.{nan}
use Rattle.refusal.specs.Outcome.{outcome}
use Rattle.interval.specs.declared.Interval.{Interval}
use Rattle.interval.specs.Interval.{Interval-point}

pub record Judged : Type 0 where
  pub interval : Interval
  pub refusal : ℕ

-- As code gives it: after a refusal the interval means nothing.
abbrev pub Judged-outcome : Judged → Result Interval ℕ
Judged-outcome j = outcome j.interval j.refusal

-- And back.
abbrev pub Judged-from : Result Interval ℕ → Judged
Judged-from (Ok X) = record { interval = X; refusal = 0 }
Judged-from (Err n) = record { interval = Interval-point nan; refusal = n }
