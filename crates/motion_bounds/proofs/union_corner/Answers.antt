-- `union_corner` meets its contract: each arm is its case of the union of two answers, and that is the next corner's (`next-corner`).
use Rattle.motion_bounds.specs.means.Steps.{MotionBoundsAnswer-union_bounds}
use Rattle.motion_bounds.proofs.Counts.{counted-few, next-corner}
use Rattle.motion_bounds.proofs.Searched.{few-below, point-examined, corners-examined}
use Prim.Native.Nat.{◌*◌, ◌≤◌}
use native.Mathlib.Omega.{arith}
use borrow.Author.Rules.{rules}
use Rattle.motion_bounds.proofs.union_corner.Goals as goal

pub add-requires : goal.add-requires
add-requires c =
    let a = c.args in
    let below : 511 * a.c ≤ 3577 = omega (arith, c.requires.0) in (
      counted-few _ c.requires.1 c.in-Bounds.is (few-below below (corners-examined a.m a.a a.b a.c)),
      counted-few _ c.point_bounds-s.ensures.value c.in-Bounds-s.is (point-examined a.m a.a _),
    )

pub returns-in-Bounds-s : goal.returns-in-Bounds-s
unfolding MotionBoundsAnswer-union_bounds
returns-in-Bounds-s c = record {
  value = let a = c.args in
      rw (
        next-corner a.m a.a a.b a.c,
        ← c.requires.1,
        ← c.corner.ensures.value,
        ← c.point_bounds-s.ensures.value,
        c.in-Bounds.is,
        c.in-Bounds-s.is,
        c.union_bounds.ensures.value,
        c.add.ensures.value,
      );
}

pub returns-in-Refused-s : goal.returns-in-Refused-s
unfolding MotionBoundsAnswer-union_bounds
returns-in-Refused-s c = record {
  value = let a = c.args in
      rw (
        next-corner a.m a.a a.b a.c,
        ← c.requires.1,
        ← c.corner.ensures.value,
        ← c.point_bounds-s.ensures.value,
        c.in-Bounds.is,
        c.in-Refused-s.is,
      );
}

pub returns-in-Refused : goal.returns-in-Refused
unfolding MotionBoundsAnswer-union_bounds
returns-in-Refused c = record {
  value = let a = c.args in
      rw (next-corner a.m a.a a.b a.c, ← c.requires.1, c.in-Refused.is);
}
