-- `piece` meets its contract. The invariant: the piece that is asked for is one of what is left, which is halved n times more.
use Prim.Native.Nat.{◌-◌, ◌≤◌}
use mathlib.Core.Path.{ap}
use native.Mathlib.Omega.{arith}
use lib.Ieee.{Float}
use Rattle.motion_piece.specs.bounds_query.Query.{max_depth}
use Rattle.interval.specs.declared.Interval.{Interval}
use Rattle.motion_piece.proofs.motion_cover.Slices.{slice-count}
use Rattle.reach_window.proofs.Poses.{halving-first, halving-lower, halving-upper, halving-last}
use Rattle.reach_window.proofs.piece.Goals as goal

pub loop-n-init : goal.loop-n-init
loop-n-init c = halving-first _ c.requires.k_bound

pub overflow_shl-half : goal.overflow_shl-half
overflow_shl-half c = omega (arith, c.loop-n.auto.n, c.requires.d_le_max_depth)

pub loop-n-preserved-then-rest-half : goal.loop-n-preserved-then-rest-half
loop-n-preserved-then-rest-half c =
    let l = c.loop-n in
    let t = c.loop-n-test.true in
    let n = l.n - 1 in
    let less : n ≤ max_depth = omega (arith, l.auto.n, c.requires.d_le_max_depth) in
    let same = slice-count n less in
    let next = ap {B = Interval} (λ (m : Float). record { low = l.part.low; high = m }) c.midpoint-mid.ensures.value in
    halving-lower l.invariant (λ e. absurd (omega (arith, t, e))) (omega (arith, same)) c.if-rest-half.true next

pub loop-n-preserved : goal.loop-n-preserved
loop-n-preserved c =
    let l = c.loop-n in
    let t = c.loop-n-test.true in
    let n = l.n - 1 in
    let less : n ≤ max_depth = omega (arith, l.auto.n, c.requires.d_le_max_depth) in
    let same = slice-count n less in
    let next = ap {B = Interval} (λ (m : Float). record { low = m; high = l.part.high }) c.midpoint-mid.ensures.value in
    halving-upper l.invariant (λ e. absurd (omega (arith, t, e))) (omega (arith, same)) c.if-rest-half.false next

pub returns : goal.returns
returns c = record {
  value = let l = c.loop-n in
      halving-last l.invariant (omega (arith, c.loop-n-test.false));
}
