-- Four vectors and four matrices side by side, a lane of each, and the matrices of four quaternions entry by entry. Definitions only.
use Rattle.lanes.specs.interval_unjudged.means.Ordered.{Interval-mul_ordered}
use Rattle.lanes_slerp.specs.pose_steps.declared.IntervalVector.{IntervalVector}
use Rattle.lanes_slerp.specs.pose_lean.means.Lean.{LinearPart, diagonal, twice_sum, twice_difference}
use Rattle.lanes.specs.declared.Lanes.{Lanes}
use Rattle.lanes.specs.means.Lanes.{Lane, Lanes-lane, Lanes-of, Lanes-zip}
use Rattle.lanes_slerp.specs.declared.LanesQuaternion.{LanesQuaternion}
use Rattle.lanes_rotation.specs.declared.LanesVector.{LanesVector}
use Rattle.lanes_rotation.specs.declared.LanesMatrix.{LanesMatrix}
use Rattle.lanes_rotation.specs.declared.LanesProducts.{LanesProducts}

-- ---- what the stages in lanes promise
unfoldable pub LanesVector-lane : Lane → LanesVector → IntervalVector
LanesVector-lane k v = record { x = Lanes-lane k v.x; y = Lanes-lane k v.y; z = Lanes-lane k v.z }

unfoldable pub LanesVector-of : (Lane → IntervalVector) → LanesVector
LanesVector-of f = record { x = Lanes-of (λ (k : Lane). (f k).x); y = Lanes-of (λ (k : Lane). (f k).y); z = Lanes-of (λ (k : Lane). (f k).z) }

unfoldable pub LanesMatrix-lane : Lane → LanesMatrix → LinearPart
LanesMatrix-lane k m = record { r0 = LanesVector-lane k m.r0; r1 = LanesVector-lane k m.r1; r2 = LanesVector-lane k m.r2 }

unfoldable pub LanesMatrix-of : (Lane → LinearPart) → LanesMatrix
LanesMatrix-of f =
    record { r0 = LanesVector-of (λ (k : Lane). (f k).r0); r1 = LanesVector-of (λ (k : Lane). (f k).r1); r2 = LanesVector-of (λ (k : Lane). (f k).r2) }

-- ---- how the code goes
infixl 80 ◌⊠◌
abbrev ◌⊠◌ : Lanes → Lanes → Lanes
◌⊠◌ a b = Lanes-zip Interval-mul_ordered a b

unfoldable pub LanesProducts-of : LanesQuaternion → LanesProducts
LanesProducts-of q =
    record {
      xx = q.x ⊠ q.x;
      yy = q.y ⊠ q.y;
      zz = q.z ⊠ q.z;
      xy = q.x ⊠ q.y;
      xz = q.x ⊠ q.z;
      yz = q.y ⊠ q.z;
      wx = q.x ⊠ q.w;
      wy = q.y ⊠ q.w;
      wz = q.z ⊠ q.w;
    }

unfoldable pub LanesMatrix-entries : LanesProducts → LanesMatrix
LanesMatrix-entries p =
    record {
      r0 = record { x = Lanes-zip diagonal p.yy p.zz; y = Lanes-zip twice_difference p.xy p.wz; z = Lanes-zip twice_sum p.xz p.wy };
      r1 = record { x = Lanes-zip twice_sum p.xy p.wz; y = Lanes-zip diagonal p.xx p.zz; z = Lanes-zip twice_difference p.yz p.wx };
      r2 = record { x = Lanes-zip twice_difference p.xz p.wy; y = Lanes-zip twice_sum p.yz p.wx; z = Lanes-zip diagonal p.xx p.yy };
    }
