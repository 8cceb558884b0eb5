-- `corner` meets its contract: a coordinate of each of three calls of `index`.
use Rattle.bounds3.specs.Bounds3f.{Bounds3f-corner}
use Rattle.bounds3.proofs.Bounds3f.corner.Goals as goal

pub returns : goal.returns
unfolding Bounds3f-corner
returns c = record { value = rw (c.index.ensures, c.index-2.ensures, c.index-3.ensures) }
