-- A step of the loops that look for a place: no test held so far, and so none up to here, `some_next`.
use Prim.Native.Nat.{ℕ, ◌+◌}
use mathlib.Core.Path.{◌≡◌}
use mathlib.Core.Bool.{Bool, false}
use native.Mathlib.Omega.{arith}
use Rattle.run_schedule.specs.Day.{some_below}
use Rattle.run_schedule.proofs.Places.{below_last, some-none, some-false}

pub some_next : (n : ℕ) (test : ℕ → Bool) → some_below n test ≡ false → test n ≡ false → some_below (n + 1) test ≡ false
some_next n test e f =
    some-none (n + 1) test (λ i h. below_last (λ (j : ℕ). test j ≡ false) n i (omega (arith, h)) (some-false n test e i) f)
