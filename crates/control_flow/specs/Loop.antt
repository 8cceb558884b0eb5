-- A `for` loop as a function of what its body changes. Definitions only.
use Rattle.std.specs.Prelude.{ℕ, zero, suc}

-- s after `for k in 0..n { s = body(k, s); }`
unfoldable pub loop : {S : Type 0} → (ℕ → S → S) → ℕ → S → S
loop body zero s = s
loop body (suc k) s = body k (loop body k s)
