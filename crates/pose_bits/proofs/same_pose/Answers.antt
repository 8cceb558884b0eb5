-- `same_pose` compares place by place. The invariant: all places so far have the same float.
use mathlib.Core.Path.{◌≡◌}
use native.Mathlib.Omega.{arith}
use borrow.Author.Rules.{rules}
use lib.ListN.{length}
use lib.Ieee.{nan}
use Rattle.std.proofs.lemmas.Slice.Zip.{zip_turn, zip_end}
use Rattle.pose_bits.proofs.Same.{place-differs, all_same}
use Rattle.pose_bits.proofs.same_pose.Goals as goal

pub returns-then-not-same_bits : goal.returns-then-not-same_bits
returns-then-not-same_bits c =
    let a = c.args in
    let l = c.loop-x in
    let (below, _, x, y) = zip_turn a.a.now a.b.now l.yielded _ _ c.next.new.self _ (search rules) (search rules) l.yielded_by _ c.in-Some.is c.next.ensures.steps in
    let all =
    place-differs a.a.now a.b.now (length l.yielded) (omega (arith, below)) (rw (← x nan, ← y nan) c.same_bits.ensures.value) c.if-not-same_bits.true in
    record { value = all.0; same = all.1 }

pub returns : goal.returns
returns c =
    let a = c.args in
    let l = c.loop-x in
    let end = zip_end a.a.now a.b.now l.yielded _ _ c.next.new.self _ (search rules) (search rules) l.yielded_by c.in-None.is c.next.ensures.steps in
    let n : length l.yielded ≡ 18 = omega (arith, end) in
    let all = all_same a.a.now a.b.now (rw (← n) l.invariant) in record { value = all.0; same = all.1 }
