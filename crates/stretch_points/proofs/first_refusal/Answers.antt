-- `first_refusal` meets its contract. Its loop keeps the number of the times from the index on: that of all.
use mathlib.Core.Path.{◌∙◌}
use native.Mathlib.Omega.{arith}
use lib.Ieee.{Float}
use Rattle.transform.specs.Answer.{PointAnswer}
use Rattle.motion_rows.specs.TransformPoint.{Rows-transform_point}
use Rattle.stretch_points.proofs.Pass.{refusal-here, refusal-next, refusal-end}
use Rattle.stretch_points.proofs.first_refusal.Goals as goal

pub returns-then-times-eq0 : goal.returns-then-times-eq0
returns-then-times-eq0 c = record {
  value = let a = c.args in
      let f : Float → PointAnswer = λ t. Rows-transform_point a.motion.now t a.p in
      refusal-end f a.times.now 0 (let h = c.if-times-eq0.true in omega (arith, h));
}

pub point_at-requires : goal.point_at-requires
point_at-requires c = c.stretch_of-stretch.ensures.value

pub loop-time-preserved : goal.loop-time-preserved
loop-time-preserved c =
    let l = c.loop-time in
    let a = c.args in
    let f : Float → PointAnswer = λ t. Rows-transform_point a.motion.now t a.p in
    refusal-next f a.times.now l.time-index c.loop-time-test.true c.in-Ok.ensures.value ∙ l.invariant

pub returns-in-Err : goal.returns-in-Err
returns-in-Err c = record {
  value = let l = c.loop-time in
      let a = c.args in
      let f : Float → PointAnswer = λ t. Rows-transform_point a.motion.now t a.p in
      c.number.ensures.value ∙ (refusal-here f a.times.now l.time-index c.loop-time-test.true c.in-Err.ensures.value ∙ l.invariant);
}

pub returns : goal.returns
returns c = record {
  value = let l = c.loop-time in
      let a = c.args in
      let f : Float → PointAnswer = λ t. Rows-transform_point a.motion.now t a.p in
      refusal-end f a.times.now l.time-index c.loop-time-test.false ∙ l.invariant;
}
