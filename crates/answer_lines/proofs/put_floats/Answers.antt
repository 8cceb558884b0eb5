-- `put_floats` puts a text of floats. The invariant: the first k of them stand in `out` from `at` on.
use native.Mathlib.Omega.{arith}
use mathlib.Core.Path.{◌≡◌}
use lib.ListN.{length, take}
use lib.Seq.{paste-zero, length-take-le}
use Rattle.answer_lines.proofs.Put.{Puts, put-empty, floats-few, floats-fit, floats-short, floats-turn}
use Rattle.answer_lines.specs.Pieces.{spaced_floats, floats_text}
use Rattle.answer_lines.proofs.put_floats.Goals as goal

pub returns-then-values-count : goal.returns-then-values-count
returns-then-values-count c = let a = c.args in
    let all : Puts (floats_text a.values.now a.count) a.out.now a.at a.out.now a.at = rw (floats-few a.values.now a.count c.if-values-count.true) (put-empty a.out.now a.at) in record { value = all.0; left = all.1 }

pub returns-then-out-at : goal.returns-then-out-at
returns-then-out-at c = let a = c.args in let all = floats-short a.values.now a.count (omega arith) a.out.now a.at (omega arith) in record { value = all.0; left = all.1 }

pub returns-then-out-at-2 : goal.returns-then-out-at-2
returns-then-out-at-2 c = let a = c.args in let all = floats-short a.values.now a.count (omega arith) a.out.now a.at (omega arith) in record { value = all.0; left = all.1 }

pub loop-k-init : goal.loop-k-init
loop-k-init c = let a = c.args in paste-zero a.out.now a.at (spaced_floats (take a.count a.values.now))

pub loop-k-preserved : goal.loop-k-preserved
loop-k-preserved c =
    let a = c.args in
    let l = c.loop-k in
    let xs = take a.count a.values.now in
    let size : length xs ≡ a.count = length-take-le a.count a.values.now (omega arith) in
    floats-turn xs l.k a.out.now l.out _ a.at (omega (arith, size)) (omega (arith, size)) l.invariant c.put_float.ensures

pub returns : goal.returns
returns c =
    let a = c.args in
    let l = c.loop-k in
    let size : length (take a.count a.values.now) ≡ a.count = length-take-le a.count a.values.now (omega arith) in
    let end : l.k ≡ a.count = omega (arith, size) in
    let all = floats-fit a.values.now a.count (omega arith) a.out.now a.at (omega arith) in
    record { value = all.0; left = rw (l.invariant, end) all.1 }
