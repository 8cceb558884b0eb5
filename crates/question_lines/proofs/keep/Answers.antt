-- `keep` moves a part to the front.
use native.Mathlib.Omega.{arith}
use Prim.Native.Nat.{◌+◌, ◌-◌}
use mathlib.Core.Path.{◌≡◌}
use Rattle.question_lines.proofs.Kept.{kept-front, kept-none, kept-empty}
use Rattle.question_lines.proofs.keep.Goals as goal

pub returns-then-input-to : goal.returns-then-input-to
returns-then-input-to c = let a = c.args in let all = kept-none a.input.now a.from a.to a.most c.if-input-to.true in record { value = all.0; left = all.1 }

pub returns-then-to-from : goal.returns-then-to-from
returns-then-to-from c = let a = c.args in let all = kept-empty a.input.now a.from a.to a.most (omega arith) c.if-to-from.true in record { value = all.0; left = all.1 }

pub returns : goal.returns
returns c =
    let a = c.args in
    let least = c.least-size in
    let size : a.from + least.result - a.from ≡ least.result = omega arith in
    let moved = rw size at c.copy_within.ensures.after in
    let all = kept-front a.input.now c.copy_within.new.self a.from a.to a.most least.result (omega arith) (omega arith) least.ensures.value moved in
    record { value = all.0; left = all.1 }
