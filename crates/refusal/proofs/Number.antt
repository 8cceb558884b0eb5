-- No refusal has the number 0: `number-nonzero`, and as a test `number-tested`.
use mathlib.Core.Path.{◌≡◌}
use mathlib.Core.Bool.{false}
use borrow.Author.Tests.{ne_eqb}
use lib.Dec.{eqb}
use native.Mathlib.Omega.{arith}
use Rattle.refusal.specs.declared.Refusal.{Refusal}
use Rattle.refusal.specs.Number.{Refusal-number}

pub number-nonzero : (r : Refusal) → Refusal-number r ≡ 0 → ⊥
number-nonzero r = grind arith

pub number-tested : (r : Refusal) → eqb (Refusal-number r) 0 ≡ false
number-tested r = ne_eqb (Refusal-number r) 0 (number-nonzero r)
