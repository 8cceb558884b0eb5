-- A box that meets what any of some boxes meets. What the code does: no promise cites it.
use Rattle.std.specs.Prelude.{List, T}
use Rattle.bounds3.specs.declared.Bounds3f.{Bounds3f}
use Rattle.bounds_overlap.specs.Meets.{Bounds3f-meets}
use Rattle.reach_rows.specs.Named.{met_by}

pub record Around (boxes : List Bounds3f) (union : Bounds3f) : Type 0 where
  pub meets : (row : Bounds3f) → T (met_by boxes row) → T (Bounds3f-meets union row)
