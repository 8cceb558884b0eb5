-- Four quaternions side by side, and a lane of them. Definitions only.
use Rattle.pose_lean.specs.pose_steps.declared.IntervalQuaternion.{IntervalQuaternion}
use Rattle.lanes.specs.means.Lanes.{Lane, Lanes-lane, Lanes-of}
use Rattle.lanes_slerp.specs.declared.LanesQuaternion.{LanesQuaternion}

unfoldable pub LanesQuaternion-lane : Lane → LanesQuaternion → IntervalQuaternion
LanesQuaternion-lane k q = record { x = Lanes-lane k q.x; y = Lanes-lane k q.y; z = Lanes-lane k q.z; w = Lanes-lane k q.w }

unfoldable pub LanesQuaternion-of : (Lane → IntervalQuaternion) → LanesQuaternion
LanesQuaternion-of f =
    record {
      x = Lanes-of (λ (k : Lane). (f k).x);
      y = Lanes-of (λ (k : Lane). (f k).y);
      z = Lanes-of (λ (k : Lane). (f k).z);
      w = Lanes-of (λ (k : Lane). (f k).w);
    }
