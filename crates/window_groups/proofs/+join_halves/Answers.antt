-- `join_halves` meets its contract, by the clauses of `fold_halves`. Each border that is handed on is the one at its dt (`between-at`).
use Rattle.std.proofs.Common.{◌-◌, sym, ap, ◌∙◌, arith}
use Rattle.pose_steps.specs.Pose.{is_near}
use Rattle.cover_groups.specs.means.Groups.{LanesVector-pieces}
use Rattle.window_groups.specs.means.Halves.{fold_halves, LanesVector-quarters}
use Rattle.window_groups.proofs.Lanewise.{between-dt, between-at, fold-whole, fold-halves}
use Rattle.window_groups.proofs.+join_halves.Goals as goal

pub returns-then-depth-eq0 : goal.returns-then-depth-eq0
unfolding LanesVector-quarters
returns-then-depth-eq0 t c =
    let a = c.args in
    record {
      value =
          c.join_pieces.ensures.value
          ∙ (λ i. LanesVector-pieces a.a a.second a.s0 a.s1 a.pad0 a.pad1 a.p (c.quarters-g.ensures.value i) a.union)
          ∙ sym (fold-whole (LanesVector-quarters a.a a.second a.s0 a.s1 a.pad0 a.pad1 a.p) a.from.dt a.to.dt a.union a.depth
          c.if-depth-eq0.true);
    }

pub join_halves-below-requires : goal.join_halves-below-requires
join_halves-below-requires t c =
    let a = c.args in
    let pre = c.requires in (
      omega arith,
      (pre.0, between-at (is_near a.a) a.a.theta a.from.dt a.to.dt c.border_between-mid.ensures.value),
    )

pub join_halves-requires : goal.join_halves-requires
join_halves-requires t c =
    let a = c.args in
    let pre = c.requires in (
      omega arith,
      (between-at (is_near a.a) a.a.theta a.from.dt a.to.dt c.border_between-mid.ensures.value, pre.1),
    )

pub returns : goal.returns
returns t c =
    let a = c.args in
    let f = LanesVector-quarters a.a a.second a.s0 a.s1 a.pad0 a.pad1 a.p in
    let mid = between-dt (is_near a.a) a.a.theta a.from.dt a.to.dt c.border_between-mid.ensures.value in
    record {
      value =
          c.join_halves.ensures.value
          ∙ (λ i. fold_halves f (a.depth - 1) (mid i) a.to.dt
          ((c.join_halves-below.ensures.value ∙ λ j. fold_halves f (a.depth - 1) a.from.dt (mid j) a.union) i))
          ∙ sym (fold-halves f a.from.dt a.to.dt a.union a.depth c.if-depth-eq0.false);
    }
