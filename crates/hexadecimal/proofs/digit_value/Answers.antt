-- `digit_value` is `digit_value`: each return is the range of bytes that its tests say (`Digits.antt`).
use mathlib.Core.Bool.{and-eq-true_iff}
use mathlib.Core.Path.{◌≡◌}
use Prim.Native.Nat.{ℕ, ◌≤◌}
use native.Mathlib.Omega.{arith}
use borrow.Author.Tests.{leb-true}
use Rattle.hexadecimal.specs.Digit.{digit_value}
use Rattle.hexadecimal.proofs.Digits.{digit_value-decimal, digit_value-lower, digit_value-upper, digit_value-none, digit_value-bound}
use Rattle.hexadecimal.proofs.digit_value.Goals as goal

bounded : (b r : ℕ) → r ≡ digit_value b → (r ≡ digit_value b) × (r ≤ 16)
bounded b r e = (e, rw e (digit_value-bound b))

pub overflow_sub-result : goal.overflow_sub-result
overflow_sub-result c = leb-true _ _ ((and-eq-true_iff _ _).0 c.if-c.true).0

pub returns-then-c : goal.returns-then-c
returns-then-c c = let all = bounded _ _ (digit_value-decimal c.args.b c.ranges.b.fits c.if-c.true) in record { value = all.0; bound = all.1 }

pub overflow_sub-result-then-c-2 : goal.overflow_sub-result-then-c-2
overflow_sub-result-then-c-2 c =
    let low : 97 ≤ c.args.b = leb-true _ _ ((and-eq-true_iff _ _).0 c.if-c-2.true).0 in
    omega arith

pub returns-then-c-2 : goal.returns-then-c-2
returns-then-c-2 c = let all = bounded _ _ (digit_value-lower c.args.b c.ranges.b.fits c.if-c.false c.if-c-2.true) in record { value = all.0; bound = all.1 }

pub overflow_sub-result-then-c-3 : goal.overflow_sub-result-then-c-3
overflow_sub-result-then-c-3 c =
    let low : 65 ≤ c.args.b = leb-true _ _ ((and-eq-true_iff _ _).0 c.if-c-3.true).0 in
    omega arith

pub returns-then-c-3 : goal.returns-then-c-3
returns-then-c-3 c = let all = bounded _ _ (digit_value-upper c.args.b c.ranges.b.fits c.if-c.false c.if-c-2.false c.if-c-3.true) in record { value = all.0; bound = all.1 }

pub returns : goal.returns
returns c = let all = bounded _ _ (digit_value-none c.args.b c.ranges.b.fits c.if-c.false c.if-c-2.false c.if-c-3.false) in record { value = all.0; bound = all.1 }
