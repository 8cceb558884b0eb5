-- `boxes_refusal` meets its contract: no box before the index is refused, so that the number is that of the booms from there on.
use Prim.Native.Nat.{◌<◌}
use mathlib.Core.Path.{sym, ap, ◌∙◌}
use mathlib.Core.List.{[]}
use native.Mathlib.Omega.{arith}
use Rattle.std.proofs.lemmas.List.{get_or-take, length-take}
use Rattle.bounds_query.specs.Query.{Bounds3f-refusal}
use Rattle.run_starts.proofs.Booms.{refusal-here, refusal-next, refusal-none}
use Rattle.run_starts.proofs.boxes_refusal.Goals as goal

pub returns-then-number-ne0 : goal.returns-then-number-ne0
returns-then-number-ne0 c = record {
  value = let a = c.args in
      let l = c.loop-corners in
      let i = l.corners-index in
      let h : i < a.count = omega (arith, length-take a.count a.boxes.now) in
      let n = c.refusal-number.ensures.value ∙ ap Bounds3f-refusal (rw (get_or-take a.count a.boxes.now i [] h) at c.bounds.ensures.value) in
      sym (refusal-here a.count a.boxes.now a.lengths.now i c.refusal-number.result h n c.if-number-ne0.true) ∙ l.invariant;
}

pub loop-corners-preserved : goal.loop-corners-preserved
loop-corners-preserved c =
    let a = c.args in
    let l = c.loop-corners in
    let i = l.corners-index in
    let h : i < a.count = omega (arith, length-take a.count a.boxes.now) in
    let n = c.refusal-number.ensures.value ∙ ap Bounds3f-refusal (rw (get_or-take a.count a.boxes.now i [] h) at c.bounds.ensures.value) in
    refusal-next a.count a.boxes.now a.lengths.now i h (sym n ∙ c.if-number-ne0.false) ∙ l.invariant

pub returns : goal.returns
returns c = record {
  value = let a = c.args in
      let l = c.loop-corners in
      let all = length-take a.count a.boxes.now in
      sym (refusal-none a.count a.boxes.now a.lengths.now l.corners-index (omega (arith, all, c.told-boxes))) ∙ l.invariant;
}
