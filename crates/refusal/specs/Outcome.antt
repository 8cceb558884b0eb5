-- A value beside a refusal's number, 0 for none, as a result: after a refusal the value means nothing. Definitions only.
use Rattle.std.specs.Prelude.{ℕ, zero, suc, Result, Ok, Err}

abbrev pub outcome : {A : Type 0} → A → ℕ → Result A ℕ
outcome a zero = Ok a
outcome a (suc n) = Err (suc n)

-- Goes on with the value, or hands the number on.
abbrev pub and_then : {A B : Type 0} → Result A ℕ → (A → Result B ℕ) → Result B ℕ
and_then (Ok a) k = k a
and_then (Err n) k = Err n
