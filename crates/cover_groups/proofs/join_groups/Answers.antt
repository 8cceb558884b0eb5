-- `join_groups` meets its contract. The invariant: the boxes of the first groups are joined, and the border where the next begins is known.
use Prim.Native.Nat.{◌+◌, ◌*◌, ◌^◌, ◌≤◌}
use mathlib.Core.Path.{◌∙◌}
use native.Mathlib.Omega.{arith}
use Rattle.pose_steps.proofs.control_flow.Loop.{loop-start, loop-next, loop-end}
use Rattle.pose_steps.specs.unit_interval.Unit.{slice_end}
use Rattle.motion_cover.proofs.Slices.{slice-end}
use Rattle.pose_steps.specs.Pose.{is_near}
use Rattle.cover_groups.specs.means.Groups.{Border-last, LanesVector-pieces, LanesVector-group}
use Rattle.cover_groups.proofs.Lanewise.{border-own, steps-at, last-border, border-next}
use Rattle.cover_groups.proofs.join_groups.Goals as goal

pub loop-init : goal.loop-init
loop-init c =
    let a = c.args in
    (loop-start (LanesVector-group a.a a.second a.s0 a.s1 a.pad0 a.pad1 a.p a.h) a.start.union, c.requires.start)

pub reach_next-next-requires : goal.reach_next-next-requires
reach_next-next-requires c = let l = c.loop in let a = c.args.a in border-own (is_near a) a.theta c.args.h (slice_end c.args.h (4 * l.counter)) l.invariant.1

pub loop-preserved : goal.loop-preserved
unfolding LanesVector-group
loop-preserved c =
    let l = c.loop in
    let a = c.args in
    let next = c.reach_next-next in
    let near = is_near a.a in
    let theta = a.a.theta in
    let width = c.from_fixed-width.ensures.value ∙ slice-end a.h 1 c.requires.h_bound in
    let room : 4 * l.counter + 4 ≤ 2 ^ a.h = omega (arith, c.loop-test.true, c.requires.groups) in
    let steps = steps-at near theta a.h (4 * l.counter) c.requires.h_bound room width l.invariant.1 in (
      loop-next (LanesVector-group a.a a.second a.s0 a.s1 a.pad0 a.pad1 a.p a.h) a.start.union l.counter l.reached.union
          next.result.union l.invariant.0
          (next.ensures.joined
          ∙ λ i. LanesVector-pieces a.a a.second a.s0 a.s1 a.pad0 a.pad1 a.p (steps i) l.reached.union),
      next.ensures.next ∙ (λ i. Border-last (steps i)) ∙ last-border near theta a.h (4 * l.counter) ∙ border-next near theta a.h l.counter,
    )

pub returns : goal.returns
returns c = record {
  value = let l = c.loop in
      let a = c.args in
      loop-end (LanesVector-group a.a a.second a.s0 a.s1 a.pad0 a.pad1 a.p a.h) a.start.union a.n l.counter l.reached.union
      (omega (arith, c.loop-test.false, l.auto.counter-end)) l.invariant.0;
}
