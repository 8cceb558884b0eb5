-- What a move's constants have to be for a slice's promises, and the words for vectors and matrices. Definitions only.
-- A built move's constants are finite, and the angle between its rotations is at most a quarter turn, since the second was turned to the first's side.
use Rattle.std.specs.Prelude.{◌≡◌, ◌⊎◌, ℕ, zero, suc, List, [], ◌∷◌, get_or, T, Float, Ok}
use Rattle.std.specs.Float.Ieee.Scale.{finite}
use Rattle.matrix4x4.specs.rounding.Order.{◌≼◌}
use Rattle.interval.specs.trig.Range.{quarter_turn_float}
use Rattle.matrix4x4.specs.declared.Matrix4x4.{Matrix4x4}
use Rattle.matrix4x4.specs.Rows.{Row, Matrix4x4-to_rows, positive_zero}
use Rattle.rotation.specs.bounds3.declared.Point3f.{Point3f}
use Rattle.rotation.specs.bounds3.declared.Bounds3f.{Bounds3f}
use Rattle.rotation.specs.bounds3.List.{Point3f-list}
use Rattle.rotation.specs.transform.Answer.{PointAnswer}
use Rattle.interval.specs.declared.Interval.{Interval}
use Rattle.interval.specs.Contains.{Encloses, Refines}
use Rattle.formula.specs.Enclose.{enclosure}
use Rattle.formula.specs.Promise.{Pairwise, NarrowerAll}
use Rattle.pose_steps.specs.declared.PoseConstants.{PoseConstants}
use Rattle.pose_steps.specs.declared.PoseAnswer.{PoseAnswer}
use Rattle.pose_steps.specs.declared.IntervalVector.{IntervalVector}
use Rattle.pose_steps.specs.declared.IntervalRow.{IntervalRow}
use Rattle.pose_steps.specs.declared.IntervalMatrix.{IntervalMatrix}
use Rattle.pose_steps.specs.Judged.{JudgedVector}
use Rattle.pose_steps.specs.Judged.{JudgedQuaternion}
use Rattle.pose_steps.specs.Judged.{JudgedRow}
use Rattle.pose_steps.specs.Judged.{JudgedMatrix}
use Rattle.pose_steps.specs.Pose.{Vector3f-list, Quaternion-list, three, entries}
use Rattle.pose_steps.specs.Enclose.{IntervalVector-list, IntervalQuaternion-list, IntervalRow-list, IntervalRow-three}

-- Every number of a list is finite.
abbrev pub AllFinite : List Float → Type 0
AllFinite [] = Unit {0}
AllFinite (x ∷ l) = T (finite x) × AllFinite l

-- Finite constants, and an angle from 0 to a quarter turn.
pub record PoseConstants-Valid (a : PoseConstants) : Type 0 where
  pub t0 : AllFinite (Vector3f-list a.t0)
  pub t1 : AllFinite (Vector3f-list a.t1)
  pub r0 : AllFinite (Quaternion-list a.r0)
  pub r1 : AllFinite (Quaternion-list a.r1)
  pub cos_theta : T (finite a.cos_theta)
  pub theta-from-zero : positive_zero ≼ a.theta
  pub theta-to-quarter : a.theta ≼ quarter_turn_float

-- The nine entries of S that `interpolate` reads.
pub record FiniteScale (s : Matrix4x4) : Type 0 where
  pub r0 : AllFinite (three s.r0)
  pub r1 : AllFinite (three s.r1)
  pub r2 : AllFinite (three s.r2)

-- Where far slerp has an angle: theta from 0 to a quarter turn, as dt lies from 0 to 1.
abbrev pub quarter_interval : Interval
quarter_interval = record { low = positive_zero; high = quarter_turn_float }

-- The three upper rows of a matrix, by number.
abbrev pub IntervalMatrix-row : IntervalMatrix → ℕ → IntervalRow
IntervalMatrix-row M zero = M.r0
IntervalMatrix-row M (suc zero) = M.r1
IntervalMatrix-row M (suc (suc i)) = M.r2

abbrev pub Matrix4x4-row : Matrix4x4 → ℕ → Row
Matrix4x4-row m i = get_or (Matrix4x4-to_rows m) i []

-- R holds between each of the three upper rows of M and the row of m with the same number.
pub record EachRow {A B X Y : Type 0} (row : A → ℕ → X) (row' : B → ℕ → Y) (R : X → Y → Type 0) (M : A) (m : B) : Type 0 where
  pub r0 : R (row M 0) (row' m 0)
  pub r1 : R (row M 1) (row' m 1)
  pub r2 : R (row M 2) (row' m 2)

-- Each entry of the three upper rows is finite and lies in its interval.
abbrev pub EnclosesMatrix : IntervalMatrix → Matrix4x4 → Type 0
EnclosesMatrix = EachRow IntervalMatrix-row Matrix4x4-row (λ R r. Pairwise Encloses (IntervalRow-list R) (entries r))

-- The same of the nine entries that the scale's lerp reads.
abbrev pub EnclosesScale : IntervalMatrix → Matrix4x4 → Type 0
EnclosesScale = EachRow IntervalMatrix-row Matrix4x4-row (λ R r. Pairwise Encloses (IntervalRow-three R) (three r))

-- Each interval lies in its counterpart, which is finite.
abbrev pub RefinesMatrix : IntervalMatrix → IntervalMatrix → Type 0
RefinesMatrix = EachRow IntervalMatrix-row IntervalMatrix-row (λ R R'. Pairwise Refines (IntervalRow-list R) (IntervalRow-list R'))

abbrev pub RefinesScale : IntervalMatrix → IntervalMatrix → Type 0
RefinesScale = EachRow IntervalMatrix-row IntervalMatrix-row (λ R R'. Pairwise Refines (IntervalRow-three R) (IntervalRow-three R'))

-- Nothing is refused, and the matrix lies in M.
pub record EnclosesPose (M : IntervalMatrix) (r : PoseAnswer) : Type 0 where
  pub accepted : r.refusal ≡ 0
  pub encloses : EnclosesMatrix M r.m

-- A point is answered, and it lies in the box.
pub record EnclosesAnswer (P : IntervalVector) (r : PointAnswer) : Type 0 where
  pub point : Point3f
  pub moved : r ≡ Ok point
  pub encloses : Pairwise Encloses (IntervalVector-list P) (Point3f-list point)

-- ---- where the wider one was not refused, neither is the narrower one, and each interval lies in its counterpart
abbrev pub NarrowerVector : JudgedVector → JudgedVector → Type 0
NarrowerVector j j' = NarrowerAll (enclosure j.refusal (IntervalVector-list j.vector)) (enclosure j'.refusal (IntervalVector-list j'.vector))

abbrev pub NarrowerQuaternion : JudgedQuaternion → JudgedQuaternion → Type 0
NarrowerQuaternion j j' =
    NarrowerAll (enclosure j.refusal (IntervalQuaternion-list j.quaternion)) (enclosure j'.refusal (IntervalQuaternion-list j'.quaternion))

abbrev pub NarrowerRow : JudgedRow → JudgedRow → Type 0
NarrowerRow j j' = NarrowerAll (enclosure j.refusal (IntervalRow-list j.row)) (enclosure j'.refusal (IntervalRow-list j'.row))

abbrev pub NarrowerMatrix : JudgedMatrix → JudgedMatrix → Type 0
NarrowerMatrix j j' = j'.refusal ≡ 0 → (j.refusal ≡ 0) × RefinesMatrix j.matrix j'.matrix

-- The least corner is not above the greatest on any axis.
pub record InOrder (b : Bounds3f) : Type 0 where
  pub x : b.p_min.x ≼ b.p_max.x
  pub y : b.p_min.y ≼ b.p_max.y
  pub z : b.p_min.z ≼ b.p_max.z

-- The numbers that a slice can give.
abbrev pub SliceNumber : ℕ → Type 0
SliceNumber n = (n ≡ 0) ⊎ ((n ≡ 5) ⊎ (n ≡ 10))
