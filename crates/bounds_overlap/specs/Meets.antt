-- Whether two boxes meet, by IEEE 754's order on each axis. Definitions only.
-- A box with a NaN corner meets nothing; the two zeros are equal.
use Rattle.std.specs.Prelude.{Bool, ◌&&◌, Float}
use Rattle.std.specs.Float.Ieee.{le}
use Rattle.bounds3.specs.declared.Bounds3f.{Bounds3f}

-- The numbers from low to high and those from low' to high': neither range lies wholly above the other.
abbrev pub ranges_meet : Float → Float → Float → Float → Bool
ranges_meet low high low' high' = le low high' && le low' high

-- document 02, Two booms over one bay: two boxes "meet, touching included, on all three axes"
unfoldable pub Bounds3f-meets : Bounds3f → Bounds3f → Bool
Bounds3f-meets a b =
    ranges_meet a.p_min.x a.p_max.x b.p_min.x b.p_max.x
    && ranges_meet a.p_min.y a.p_max.y b.p_min.y b.p_max.y
    && ranges_meet a.p_min.z a.p_max.z b.p_min.z b.p_max.z
