-- `join` meets its contract, in the three ways that it ends (proofs/Clauses.antt).
use native.Mathlib.Omega.{arith}
use borrow.Author.Rules.{rules}
use Rattle.chain_join.proofs.Blocks.{two-fronts}
use Rattle.chain_join.proofs.Clauses.{some-blocks, no-moves, not-joined, has_room, all-joined}
use Rattle.chain_join.proofs.join.Goals as goal

pub returns-then-first-second : goal.returns-then-first-second
returns-then-first-second c = let a = c.args in let all = no-moves a.first.now a.second.now a.joined.now c.if-first-second.true in record { refusal = all.0; left = all.1.0; kept = all.1.1 }

pub mismatch_refusal-mismatch-requires : goal.mismatch_refusal-mismatch-requires
mismatch_refusal-mismatch-requires c = let all = some-blocks _ _ c.if-first-second.false in record { first_nonzero = all.0; second_nonzero = all.1 }

pub rise_refusal-rise-requires : goal.rise_refusal-rise-requires
rise_refusal-rise-requires c = let all = some-blocks _ _ c.if-first-second.false in record { first_nonzero = all.0; second_nonzero = all.1 }

pub returns-then-refusal-ne0 : goal.returns-then-refusal-ne0
returns-then-refusal-ne0 c = let a = c.args in let all = not-joined a.first.now a.second.now a.joined.now c.if-first-second.false
    c.mismatch_refusal-mismatch.ensures.value c.count_refusal-count.ensures.value c.rise_refusal-rise.ensures.value
    c.first_refusal-later.ensures.value c.first_refusal-refusal.ensures.value c.if-refusal-ne0.true in record { refusal = all.0; left = all.1.0; kept = all.1.1 }

pub with_blocks-front-requires : goal.with_blocks-front-requires
with_blocks-front-requires c =
    let a = c.args in
    let h =
    has_room a.first.now a.second.now a.joined.now c.if-first-second.false
    c.mismatch_refusal-mismatch.ensures.value c.count_refusal-count.ensures.value c.rise_refusal-rise.ensures.value
    c.first_refusal-later.ensures.value c.first_refusal-refusal.ensures.value c.if-refusal-ne0.false in
    omega (arith, h)

pub with_blocks-requires : goal.with_blocks-requires
with_blocks-requires c =
    let a = c.args in
    let h =
    has_room a.first.now a.second.now a.joined.now c.if-first-second.false
    c.mismatch_refusal-mismatch.ensures.value c.count_refusal-count.ensures.value c.rise_refusal-rise.ensures.value
    c.first_refusal-later.ensures.value c.first_refusal-refusal.ensures.value c.if-refusal-ne0.false in
    omega (arith, h)

pub returns : goal.returns
returns c = let some = c.if-first-second.false in let a = c.args in let first = a.first.now in let second = a.second.now in let old = a.joined.now in let h =
    has_room first second old some
    c.mismatch_refusal-mismatch.ensures.value c.count_refusal-count.ensures.value c.rise_refusal-rise.ensures.value
    c.first_refusal-later.ensures.value c.first_refusal-refusal.ensures.value c.if-refusal-ne0.false in let places = c.with_blocks-front.ensures.places in let all = all-joined first second old some
    c.mismatch_refusal-mismatch.ensures.value c.count_refusal-count.ensures.value c.rise_refusal-rise.ensures.value
    c.first_refusal-later.ensures.value c.first_refusal-refusal.ensures.value
    c.mismatch_refusal-mismatch.ensures.same c.if-refusal-ne0.false
    (two-fronts first second old (omega (arith, h, places)) c.with_blocks-front.ensures.value c.with_blocks.ensures.value) in record { refusal = all.0; left = all.1.0; kept = all.1.1 }
