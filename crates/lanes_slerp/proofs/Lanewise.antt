-- Slerp in lanes, stage after stage, is slerp lane by lane: `near_lanes`, `far-lanes`.
use mathlib.Core.Path.{◌≡◌, refl}
use mathlib.Core.Bool.{true, false}
use Rattle.quaternion.specs.float32.Operators.{one}
use Rattle.quaternion.specs.declared.Quaternion.{Quaternion}
use Rattle.lanes.specs.interval.Interval.{Interval-point}
use Rattle.lanes.specs.interval.Enclosure.{Interval-sub_enclosure}
use Rattle.lanes.specs.declared.Lanes.{Lanes}
use Rattle.lanes.specs.means.Lanes.{Lane, Lanes-lane, Lanes-of, Lanes-map, Lanes-chosen}
use Rattle.pose_lean.specs.means.Lean.{one_minus, turned, normalized, near, slerp_by}
use Rattle.lanes_slerp.specs.declared.LanesQuaternion.{LanesQuaternion}
use Rattle.lanes_slerp.specs.means.Quaternions.{LanesQuaternion-lane, LanesQuaternion-of}

-- ---- each stage in lanes, as its contract has it
unfoldable pub one_minus_lanes : Lanes → Lanes
one_minus_lanes dt = Lanes-map (Interval-sub_enclosure (Interval-point one)) dt

unfoldable pub turned_lanes : Quaternion → Quaternion → Lanes → Lanes → LanesQuaternion
turned_lanes q p c s = LanesQuaternion-of (λ (k : Lane). turned q p (Lanes-lane k c) (Lanes-lane k s))

unfoldable pub normalized_lanes : LanesQuaternion → LanesQuaternion
normalized_lanes q = LanesQuaternion-of (λ (k : Lane). normalized (LanesQuaternion-lane k q))

module _ (q p : Quaternion) (dt c s : Lanes) where
  pub near_lanes : normalized_lanes (turned_lanes q p (Lanes-chosen true (one_minus_lanes dt) c) (Lanes-chosen true dt s))
      ≡ LanesQuaternion-of (λ (k : Lane). slerp_by true q p (Lanes-lane k dt) (Lanes-lane k c) (Lanes-lane k s))
  unfolding normalized_lanes turned_lanes one_minus_lanes Lanes-chosen Lanes-lane Lanes-of Lanes-map LanesQuaternion-of LanesQuaternion-lane slerp_by near one_minus
  near_lanes = refl

  pub far-lanes : turned_lanes q p (Lanes-chosen false (one_minus_lanes dt) c) (Lanes-chosen false dt s)
      ≡ LanesQuaternion-of (λ (k : Lane). slerp_by false q p (Lanes-lane k dt) (Lanes-lane k c) (Lanes-lane k s))
  unfolding turned_lanes Lanes-chosen slerp_by
  far-lanes = refl
