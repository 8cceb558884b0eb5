-- Whether the four components of a quaternion are finite. Definitions only.
use Rattle.std.specs.Prelude.{Bool, ◌&&◌}
use Rattle.std.specs.Float.Ieee.Scale.{finite}
use Rattle.quaternion.specs.declared.Quaternion.{Quaternion}

-- document 01, Refusals, 5: a finished "quaternion .. holds a value that isn't finite"
unfoldable pub Quaternion-is_finite : Quaternion → Bool
Quaternion-is_finite q = finite q.v.x && finite q.v.y && finite q.v.z && finite q.w
