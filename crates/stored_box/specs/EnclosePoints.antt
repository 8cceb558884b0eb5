-- A stored transform over a box by interval steps. Definitions only.
use Rattle.std.specs.Prelude.{◌≡◌, ◌⊎◌, ℕ}
use Rattle.bounds_query.specs.bounds3.declared.Bounds3f.{Bounds3f}
use Rattle.bounds_query.specs.transform.declared.Transform.{Transform}
use Rattle.pose_steps.specs.Judged.{JudgedVector}
use Rattle.pose_steps.specs.Enclose.{IntervalMatrix-point, Pose-enclose_transform_point, Bounds3f-intervals}

-- document 01, Cover: "the start transform over the box, by the interval steps below"; "constants as equal ends, x, y, z from the box"
abbrev pub Transform-enclose_points : Transform → Bounds3f → JudgedVector
Transform-enclose_points t b = Pose-enclose_transform_point 0 (IntervalMatrix-point t.m) (Bounds3f-intervals b)

-- The numbers that it can give.
abbrev pub StoredNumber : ℕ → Type 0
StoredNumber n = (n ≡ 0) ⊎ (n ≡ 5)
