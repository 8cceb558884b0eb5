-- The entries of the products in lanes are the matrix lane by lane: `rotation-lanes`.
use mathlib.Core.Path.{◌≡◌, refl}
use Rattle.lanes.specs.means.Lanes.{Lane, Lanes-lane, Lanes-of, Lanes-zip}
use Rattle.lanes_slerp.specs.declared.LanesQuaternion.{LanesQuaternion}
use Rattle.lanes_slerp.specs.means.Quaternions.{LanesQuaternion-lane}
use Rattle.lanes_slerp.specs.pose_lean.means.Lean.{rotation}
use Rattle.lanes_rotation.specs.means.Matrices.{LanesVector-of, LanesMatrix-of, LanesProducts-of, LanesMatrix-entries}

pub rotation-lanes : (q : LanesQuaternion) → LanesMatrix-entries (LanesProducts-of q) ≡ LanesMatrix-of (λ (k : Lane). rotation (LanesQuaternion-lane k q))
unfolding LanesMatrix-entries LanesProducts-of LanesMatrix-of LanesVector-of LanesQuaternion-lane Lanes-zip Lanes-of Lanes-lane rotation
rotation-lanes q = refl
