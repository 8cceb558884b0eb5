-- What passes the test of a move's parts is enclosable: `tested-enclosable`.
use mathlib.Core.Bool.{Bool, ◌&&◌}
use lib.Dec.{T}
use lib.Ieee.{Float, binary32, le, fits}
use lib.Ieee.Fits.{and_l, and_r}
use lib.Ieee.Scale.{finite}
use Rattle.dt_share.specs.float32.Operators.{positive_zero}
use Rattle.dt_share.specs.trig.Range.{quarter_turn_float}
use Rattle.pose_lean.specs.vector3.declared.Vector3f.{Vector3f}
use Rattle.pose_lean.specs.quaternion.IsFinite.{Quaternion-is_finite}
use Rattle.pose_lean.specs.matrix4x4.declared.Matrix4x4.{Matrix4x4}
use Rattle.pose_lean.specs.matrix4x4.Rows.{Row, col}
use Rattle.pose_lean.specs.pose_steps.declared.PoseConstants.{PoseConstants}
use Rattle.pose_lean.specs.pose_steps.Pose.{Vector3f-list, three}
use Rattle.pose_lean.specs.pose_steps.Promise.{AllFinite, PoseConstants-Valid, FiniteScale}
use Rattle.pose_lean.proofs.pose_steps.Finite.{quaternion-each}
use Rattle.bounds_answers.specs.animated_transform.Built.{Pad-Judged}
use Rattle.bounds_answers.specs.cover_depth.means.Piece.{Enclosable}
use Rattle.cover_lean.specs.means.Test.{Vector3f-is_finite, is_finite_front, is_finite_scale, is_quarter_angle, is_pad, PoseConstants-is_valid, Pose-is_enclosable}

-- Both of two.
both : (a b : Bool) → T (a && b) → T a × T b
both a b h = (and_l a b h, and_r a b h)

vector-tested : (v : Vector3f) → T (Vector3f-is_finite v) → AllFinite (Vector3f-list v)
unfolding Vector3f-is_finite
vector-tested v h =
    let (xy, z) = both (finite v.x && finite v.y) (finite v.z) h in
    let (x, y) = both (finite v.x) (finite v.y) xy in
    (x, (y, (z, tt)))

front-tested : (r : Row) → T (is_finite_front r) → AllFinite (three r)
unfolding is_finite_front
front-tested r h =
    let (xy, z) = both (finite (col r 0) && finite (col r 1)) (finite (col r 2)) h in
    let (x, y) = both (finite (col r 0)) (finite (col r 1)) xy in
    (x, (y, (z, tt)))

scale-tested : (s : Matrix4x4) → T (is_finite_scale s) → FiniteScale s
unfolding is_finite_scale
scale-tested s h =
    let (xy, z) = both (is_finite_front s.r0 && is_finite_front s.r1) (is_finite_front s.r2) h in
    let (x, y) = both (is_finite_front s.r0) (is_finite_front s.r1) xy in
    record { r0 = front-tested s.r0 x; r1 = front-tested s.r1 y; r2 = front-tested s.r2 z }

pad-tested : (pad : Float) → T (fits binary32 pad) → T (is_pad pad) → Pad-Judged pad
unfolding is_pad
pad-tested pad v h =
    let (f, z) = both (finite pad) (le positive_zero pad) h in
    record { finite = f; binary32 = v; at-least-zero = record { holds = z } }

constants-tested : (a : PoseConstants) → T (PoseConstants-is_valid a) → PoseConstants-Valid a
unfolding PoseConstants-is_valid is_quarter_angle
constants-tested a h =
    let t0 = Vector3f-is_finite a.t0 in
    let t1 = Vector3f-is_finite a.t1 in
    let r0 = Quaternion-is_finite a.r0 in
    let r1 = Quaternion-is_finite a.r1 in
    let c = finite a.cos_theta in
    let (h5, q) = both (t0 && t1 && r0 && r1 && c) (le positive_zero a.theta && le a.theta quarter_turn_float) h in
    let (h4, f) = both (t0 && t1 && r0 && r1) (c) h5 in
    let (h3, y) = both (t0 && t1 && r0) (r1) h4 in
    let (h2, x) = both (t0 && t1) (r0) h3 in
    let (v, w) = both t0 t1 h2 in
    let (l, k) = both (le positive_zero a.theta) (le a.theta quarter_turn_float) q in
    record {
      t0 = vector-tested a.t0 v;
      t1 = vector-tested a.t1 w;
      r0 = quaternion-each a.r0 x;
      r1 = quaternion-each a.r1 y;
      cos_theta = f;
      theta-from-zero = record { holds = l };
      theta-to-quarter = record { holds = k };
    }

pub tested-enclosable : (a : PoseConstants) (s0 s1 : Matrix4x4) (pad0 pad1 : Float) → T (fits binary32 pad0) → T (fits binary32 pad1)
    → T (Pose-is_enclosable a s0 s1 pad0 pad1) → Enclosable a s0 s1 pad0 pad1
unfolding Pose-is_enclosable
tested-enclosable a s0 s1 pad0 pad1 v w h =
    let c = PoseConstants-is_valid a in
    let x = is_finite_scale s0 in
    let y = is_finite_scale s1 in
    let (h3, q) = both (c && x && y && is_pad pad0) (is_pad pad1) h in
    let (h2, p) = both (c && x && y) (is_pad pad0) h3 in
    let (h1, k) = both (c && x) (y) h2 in
    let (f, j) = both c x h1 in
    record {
      constants = constants-tested a f;
      scale0 = scale-tested s0 j;
      scale1 = scale-tested s1 k;
      pad0-judged = pad-tested pad0 v p;
      pad1-judged = pad-tested pad1 w q;
    }
