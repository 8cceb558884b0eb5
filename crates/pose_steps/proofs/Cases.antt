-- Cases of the definitions, by computing. A translation by 1 along x: half way it moves the origin by a half; over
-- all of dt near slerp meets a squared length that starts at zero, and over the first half it does not. A swing: a
-- sixth of a turn about z, with a stretch along z and a translation; the numbers are pbrt-rust's own answers.
use Rattle.std.specs.Prelude.{Ok}
use mathlib.Core.Path.{◌≡◌, refl}
use mathlib.Core.Bool.{false}
use mathlib.Core.List.{[], ◌∷◌}
use Prim.Native.Nat.{ℕ}
use lib.Ieee.{Float, binary32, of_bits}
use Rattle.matrix4x4.specs.float32.Operators.{one, half}
use Rattle.vector3.specs.declared.Vector3f.{Vector3f}
use Rattle.quaternion.specs.declared.Quaternion.{Quaternion}
use Rattle.matrix4x4.specs.declared.Matrix4x4.{Matrix4x4}
use Rattle.matrix4x4.specs.Rows.{positive_zero}
use Rattle.matrix4x4.specs.IsAffine.{bottom_row}
use Rattle.rotation.specs.bounds3.declared.Point3f.{Point3f}
use Rattle.rotation.specs.transform.Transform.{translation}
use Rattle.interval.specs.declared.Interval.{Interval}
use Rattle.interval.specs.Interval.{Interval-point}
use Rattle.unit_interval.specs.Unit.{unit_interval}
use Rattle.pose_steps.specs.declared.PoseConstants.{PoseConstants}
use Rattle.pose_steps.specs.declared.IntervalVector.{IntervalVector}
use Rattle.pose_steps.specs.Judged.{JudgedVector}
use Rattle.pose_steps.specs.Pose.{Pose-moved_point}
use Rattle.pose_steps.specs.Enclose.{Pose-enclose_point}
use Rattle.pose_steps.specs.means.Computing.{computing}

abbrev bits : ℕ → Float
bits n = of_bits binary32 n

abbrev point : ℕ → ℕ → ℕ → Point3f
point x y z = record { x = bits x; y = bits y; z = bits z }

abbrev vector : ℕ → ℕ → ℕ → Vector3f
vector x y z = record { x = bits x; y = bits y; z = bits z }

abbrev ◌to◌ : ℕ → ℕ → Interval
◌to◌ l h = record { low = bits l; high = bits h }

infix 60 ◌to◌
abbrev box : Interval → Interval → Interval → IntervalVector
box x y z = record { x = x; y = y; z = z }

abbrev judged : IntervalVector → ℕ → JudgedVector
judged w n = record { vector = w; refusal = n }

abbrev origin : IntervalVector
origin = let o = Interval-point positive_zero in box o o o

abbrev identity : Matrix4x4
identity = translation positive_zero positive_zero positive_zero

abbrev no_rotation : Quaternion
no_rotation = record { v = vector 0 0 0; w = one }

-- ---- a translation by 1 along x
abbrev along : PoseConstants
along = record { t0 = vector 0 0 0; t1 = vector 0x3f800000 0 0; r0 = no_rotation; r1 = no_rotation; cos_theta = one; theta = positive_zero; rigid = false }

along-half : Pose-moved_point along identity identity half (point 0 0 0) ≡ Ok (point 0x3f000000 0 0)
unfolding computing
along-half = refl

along-whole : (Pose-enclose_point along identity identity unit_interval origin).refusal ≡ 10
unfolding computing
along-whole = refl

along-first-half : Pose-enclose_point along identity identity (0 to 0x3f000000) origin ≡ judged
    (box (0 to 0x3f000000) (Interval-point positive_zero) (Interval-point positive_zero)) 0
unfolding computing
along-first-half = refl

-- ---- a swing
abbrev swing : PoseConstants
swing =
    record {
      t0 = vector 0 0 0;
      t1 = vector 0x40000000 0x3f000000 0xbf800000;
      r0 = no_rotation;
      r1 = record { v = vector 0 0 0x3f000000; w = bits 0x3f5db3d7 };
      cos_theta = bits 0x3f5db3d7;
      theta = bits 0x3f060a90;
      rigid = false;
    }

abbrev stretch : Matrix4x4
stretch =
    record {
      r0 = bits 0x3f800000 ∷ bits 0 ∷ bits 0 ∷ bits 0x3fb76cf6 ∷ [];
      r1 = bits 0xb3000000 ∷ bits 0x3f800000 ∷ bits 0 ∷ bits 0xbfbdb3d8 ∷ [];
      r2 = bits 0 ∷ bits 0 ∷ bits 0x3fc00000 ∷ bits 0xbf800000 ∷ [];
      r3 = bottom_row;
    }

swing-quarter : Pose-moved_point swing identity stretch (bits 0x3e800000)
    (point 0x3f800000 0x40000000 0xbf000000) ≡ Ok (point 0x3f72c300 0x401433f3 0xbf500000)
unfolding computing
swing-quarter = refl

swing-seventh-tenth : Pose-moved_point swing identity stretch (bits 0x3f333333)
    (point 0x3f800000 0x40000000 0xbf000000) ≡ Ok (point 0x3f4e0ce2 0x402058ce 0xbfb00000)
unfolding computing
swing-seventh-tenth = refl

-- The slice of depth 0, wider than the start box and the end box.
swing-whole : Pose-enclose_point swing identity stretch unit_interval (box (0x3f800000 to 0x3fc00000) (0x40000000 to 0x40100000) (0xbf000000 to 0x3f000000))
    ≡ judged (box (0xc08ffffe to 0x40a00000) (0xb3400000 to 0x40fffffe) (0xc0100000 to 0x3fa00000)) 0
unfolding computing
swing-whole = refl
