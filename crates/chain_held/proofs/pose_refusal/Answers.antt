-- `pose_refusal` meets its contract: two tests choose.
use native.Mathlib.Omega.{arith}
use borrow.Author.Tests.{eq-eqb, ne_eqb, lt-ltb, le-ltb}
use Rattle.chain_held.proofs.pose_refusal.Goals as goal

pub returns-then-count-eq0 : goal.returns-then-count-eq0
returns-then-count-eq0 c = record { value = rw (eq-eqb _ 0 c.if-count-eq0.true); inside = λ z. absurd (omega (arith, z)) }

pub returns-then-place-count : goal.returns-then-place-count
returns-then-place-count c = record { value = rw (ne_eqb _ 0 c.if-count-eq0.false, lt-ltb _ _ c.if-place-count.true); inside = λ z. absurd (omega (arith, z)) }

pub returns : goal.returns
returns c = record { value = rw (ne_eqb _ 0 c.if-count-eq0.false, le-ltb _ _ c.if-place-count.false); inside = λ z. (omega (arith, c.if-count-eq0.false), omega (arith, c.if-place-count.false)) }
