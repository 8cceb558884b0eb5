-- `fill_stretch` meets its contract. Its loop keeps what the answers are once the points from time i on are put.
use Prim.Native.Nat.{◌*◌}
use mathlib.Core.Path.{refl, sym, ap, ◌∙◌}
use native.Mathlib.Omega.{arith}
use lib.Ieee.{Float}
use Rattle.transform.specs.Answer.{PointAnswer, PointAnswer-point}
use Rattle.motion_rows.specs.TransformPoint.{Rows-transform_point}
use Rattle.stretch_points.proofs.Fill.{put-length, filled_next, filled-end, filled-floats}
use Rattle.stretch_points.proofs.fill_stretch.Goals as goal

pub returns-then-times-eq0 : goal.returns-then-times-eq0
returns-then-times-eq0 c = record {
  left = let a = c.args in
      let f : Float → PointAnswer = λ t. Rows-transform_point a.motion.now t a.p in
      sym (filled-end f a.times.now a.answers.now 0 (let h = c.if-times-eq0.true in omega (arith, h)))
      ∙ filled-floats f a.times.now a.answers.now c.requires;
}

pub loop-i-init : goal.loop-i-init
loop-i-init c = (c.requires, refl)

pub point_at-requires : goal.point_at-requires
point_at-requires c = c.stretch_of-stretch.ensures.value

pub loop-i-preserved : goal.loop-i-preserved
loop-i-preserved c =
    let l = c.loop-i in
    let a = c.args in
    let put = c.put_three.ensures.left in
    let point = c.point_of-q.ensures.value in
    let f : Float → PointAnswer = λ t. Rows-transform_point a.motion.now t a.p in (
      put-length l.answers (3 * l.i) point put ∙ l.invariant.0,
      filled_next f a.times.now l.answers l.i c.loop-i-test.true (point ∙ ap PointAnswer-point c.point_at.ensures.value) put ∙ l.invariant.1,
    )

pub shape_of-answers : goal.shape_of-answers
shape_of-answers c = let e = c.loop-i.invariant.0 in let h = c.requires in e ∙ sym h

pub returns : goal.returns
returns c = record {
  left = let l = c.loop-i in
      let a = c.args in
      let f : Float → PointAnswer = λ t. Rows-transform_point a.motion.now t a.p in
      sym (filled-end f a.times.now l.answers l.i c.loop-i-test.false) ∙ (l.invariant.1 ∙ filled-floats f a.times.now a.answers.now c.requires);
}
