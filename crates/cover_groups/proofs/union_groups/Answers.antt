-- `union_groups` meets its contract: what is computed once a cover, then all groups, lane by lane.
use Prim.Native.Nat.{ℕ, ◌*◌, ◌/◌, ◌%◌, ◌^◌, ◌≤◌}
use mathlib.Core.Path.{◌≡◌, sym, ap, ◌∙◌}
use native.Mathlib.Omega.{arith}
use borrow.Author.Rules.{rules}
use Rattle.pose_steps.specs.control_flow.Loop.{loop}
use Rattle.motion_cover.specs.bounds_query.Query.{max_depth}
use Rattle.pose_steps.proofs.unit_interval.Slices.{slice_end-first}
use Rattle.pose_steps.specs.Pose.{is_near}
use Rattle.pose_steps.specs.Enclose.{Bounds3f-intervals}
use Rattle.motion_cover.proofs.Slices.{slice-count}
use Rattle.lanes_box.specs.means.Boxes.{LanesVector-joined}
use Rattle.cover_groups.specs.means.Groups.{Border-at, LanesVector-group, Groups-union}
use Rattle.cover_groups.proofs.Lanewise.{groups-lanes}
use Rattle.cover_groups.proofs.union_groups.Goals as goal

pub join_groups-joined-requires : goal.join_groups-joined-requires
join_groups-joined-requires c = let a = c.args.a in let held = c.held_depth-h in let d = held.result in let h : d ≤ max_depth = omega (arith, held.ensures.value) in let start = c.border_at-from.ensures.value ∙ λ i. Border-at (is_near a) a.theta (sym (slice_end-first d) i) in record { h_bound = h; groups = omega (arith, slice-count d h); start = start }

pub returns : goal.returns
unfolding Groups-union
returns c = record {
  value = let a = c.args in
      let held = c.held_depth-h in
      let d = held.result in
      let h : d ≤ max_depth = omega (arith, held.ensures.value) in
      let count : 1 * 2 ^ d % 2 ^ 64 / 4 ≡ 2 ^ d / 4 = omega (arith, slice-count d h) in
      c.joined.ensures.value
      ∙ ap LanesVector-joined
      (c.join_groups-joined.ensures.value
      ∙ (λ i. loop (LanesVector-group a.a (c.second_quaternion-second.ensures.value i) a.s0 a.s1 a.pad0 a.pad1 (c.repeated-p.ensures.value i) d) (count i)
      (c.repeated-union.ensures.value i))
      ∙ groups-lanes a.a a.s0 a.s1 a.pad0 a.pad1 a.b d (2 ^ d / 4) (Bounds3f-intervals a.first))
      ∙ ap (λ (e : ℕ). Groups-union a.a a.s0 a.s1 a.pad0 a.pad1 a.b e (2 ^ e / 4) a.first) held.ensures.value;
}
