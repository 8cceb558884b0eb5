-- Where two poses agree in every bit: `Pose-same_bits`. The quotation is of document 02, "Two chains made one". Definitions only.
-- There is one NaN (lib.Ieee), whose bits are 0x7fc00000; a built chain has none.
use Rattle.std.specs.Prelude.{Bool, ◌&&◌, eqb, Float}
use Rattle.std.specs.Float.{binary32}
use Rattle.std.specs.Float.Ieee.{to_bits}
use Rattle.lent_arrays.specs.matrix4x4.declared.Matrix4x4.{Matrix4x4}
use Rattle.lent_arrays.specs.matrix4x4.Rows.{Row, col}
use Rattle.lent_arrays.specs.pose_pair.declared.Pose.{Pose}

-- zeros of different signs have different bits
abbrev pub Float-same_bits : Float → Float → Bool
Float-same_bits x y = eqb (to_bits binary32 x) (to_bits binary32 y)

unfoldable pub Row-same_bits : Row → Row → Bool
Row-same_bits a b =
    Float-same_bits (col a 0) (col b 0) && Float-same_bits (col a 1) (col b 1) && Float-same_bits (col a 2) (col b 2) && Float-same_bits (col a 3) (col b 3)

-- all sixteen entries
unfoldable pub Matrix4x4-same_bits : Matrix4x4 → Matrix4x4 → Bool
Matrix4x4-same_bits a b = Row-same_bits a.r0 b.r0 && Row-same_bits a.r1 b.r1 && Row-same_bits a.r2 b.r2 && Row-same_bits a.r3 b.r3

-- "agree in time, matrix and pad bits"
unfoldable pub Pose-same_bits : Pose → Pose → Bool
Pose-same_bits p q = Float-same_bits p.time q.time && Matrix4x4-same_bits p.m q.m && Float-same_bits p.pad q.pad
