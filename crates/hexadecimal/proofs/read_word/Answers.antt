-- `read_word` is `Word-read`: two halves of four digits (`read-halves`).
use native.Mathlib.Omega.{arith}
use Prim.Native.Nat.{ℕ, ◌<◌}
use mathlib.Core.Path.{◌≡◌}
use mathlib.Core.Bool.{true, ◌&&◌, and-eq-true_iff}
use lib.Dec.{ltb}
use borrow.Author.Tests.{ltb-true}
use Rattle.hexadecimal.proofs.Words.{read-halves, read_short}
use Rattle.hexadecimal.proofs.read_word.Goals as goal

both_below : (m n : ℕ) → (ltb m 65536 && ltb n 65536) ≡ true → (m < 65536) × (n < 65536)
both_below m n h =
    let tests = (and-eq-true_iff (ltb m 65536) (ltb n 65536)).0 h in
    (ltb-true m 65536 tests.0, ltb-true n 65536 tests.1)

pub returns-then-s-lt8 : goal.returns-then-s-lt8
returns-then-s-lt8 c = record { value = read_short _ _ (omega arith) }

pub returns-then-s-at : goal.returns-then-s-at
returns-then-s-at c = record { value = read_short _ _ (omega arith) }

pub overflow_mul-result : goal.overflow_mul-result
overflow_mul-result c = omega (arith, both_below c.read_half-high.result c.read_half-low.result c.if-high-low.true)

pub overflow_add-result : goal.overflow_add-result
overflow_add-result c = omega (arith, both_below c.read_half-high.result c.read_half-low.result c.if-high-low.true)

pub returns-then-high-low : goal.returns-then-high-low
returns-then-high-low c = record {
  value = let a = c.args in
      rw (← c.read_half-high.ensures.value, ← c.read_half-low.ensures.value, c.if-high-low.true) at (read-halves a.s.now a.at (omega arith));
}

pub returns : goal.returns
returns c = record {
  value = let a = c.args in
      rw (← c.read_half-high.ensures.value, ← c.read_half-low.ensures.value, c.if-high-low.false) at (read-halves a.s.now a.at (omega arith));
}
