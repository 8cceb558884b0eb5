-- `cover` meets its contract. Its loop keeps the union of all covers: what is taken with what is left from i on.
use mathlib.Core.Path.{sym, ◌∙◌}
use borrow.Author.Tests.{eq-eqb, ne_eqb}
use lib.ListN.{length}
use Rattle.chain_rows.specs.motion_chain.Chain.{Chain-cover}
use Rattle.chain_rows.specs.Kept.{Moves-chain, Moves-cover}
use Rattle.chain_rows.proofs.Contains.{cover-clauses}
use Rattle.chain_cover.proofs.Union.{covers-next, covers-end}
use Rattle.chain_cover.proofs.cover.Goals as goal

pub returns-then-moves-eq0 : goal.returns-then-moves-eq0
unfolding Moves-cover
returns-then-moves-eq0 c =
    let a = c.args in
    let all = cover-clauses a.moves.now a.b a.depth (rw (eq-eqb _ 0 c.if-moves-eq0.true)) in
    record { value = all.0; kept = all.1.0; contains_motion = all.1.1.0; finer = all.1.1.1 }

pub loop-i-preserved : goal.loop-i-preserved
loop-i-preserved c =
    let l = c.loop-i in
    let a = c.args in
    covers-next a.b a.depth l.r a.moves.now l.i c.loop-i-test.true c.union_move-r.ensures.value ∙ l.invariant

pub returns : goal.returns
unfolding Moves-cover Moves-chain Chain-cover
returns c =
    let l = c.loop-i in
    let a = c.args in
    let e = sym (covers-end a.b a.depth l.r a.moves.now l.i c.loop-i-test.false) ∙ l.invariant in
    let some = ne_eqb (length a.moves.now) 0 c.if-moves-eq0.false in
    let all = cover-clauses a.moves.now a.b a.depth (rw (some, ← c.from_rows.ensures.value, ← c.cover-r.ensures.value) e) in
    record { value = all.0; kept = all.1.0; contains_motion = all.1.1.0; finer = all.1.1.1 }
