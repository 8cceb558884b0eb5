-- The number of a pose's kind is 0, and of a rigid move also 17 or 18: what holds of them holds of it (`kind-each`).
use Prim.Native.Nat.{ℕ}
use mathlib.Core.Bool.{Bool, true, false}
use lib.Dec.{T}
use Rattle.matrix4x4.specs.Rows.{Matrix4x4-to_rows}
use Rattle.rigid_pose.proofs.Numbers.{rigid-each}
use Rattle.pose_pair.specs.declared.Pose.{Pose}
use Rattle.pose_pair.specs.Pose.{Pose-kind_number}

pub kind-each : (P : ℕ → Type 0) (rigid : Bool) (p : Pose) → P 0 → (T rigid → P 17) → (T rigid → P 18) → P (Pose-kind_number rigid p)
unfolding Pose-kind_number
kind-each P true p none distorted mirrored = rigid-each P (Matrix4x4-to_rows p.m) none (distorted tt) (mirrored tt)
kind-each P false p none distorted mirrored = none
