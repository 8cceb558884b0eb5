-- Intervals beside the first refusal number that was met, 0 for none. Definitions only.
use Rattle.std.specs.Prelude.{ℕ, Result}
use Rattle.interval.specs.refusal.Outcome.{outcome}
use Rattle.pose_steps.specs.declared.IntervalVector.{IntervalVector}
use Rattle.pose_steps.specs.declared.IntervalQuaternion.{IntervalQuaternion}
use Rattle.pose_steps.specs.declared.IntervalRow.{IntervalRow}
use Rattle.pose_steps.specs.declared.IntervalMatrix.{IntervalMatrix}

pub record JudgedVector : Type 0 where
  pub vector : IntervalVector
  pub refusal : ℕ

pub record JudgedQuaternion : Type 0 where
  pub quaternion : IntervalQuaternion
  pub refusal : ℕ

pub record JudgedRow : Type 0 where
  pub row : IntervalRow
  pub refusal : ℕ

pub record JudgedMatrix : Type 0 where
  pub matrix : IntervalMatrix
  pub refusal : ℕ

-- As code gives them: after a refusal the intervals mean nothing.
abbrev pub JudgedVector-outcome : JudgedVector → Result IntervalVector ℕ
JudgedVector-outcome j = outcome j.vector j.refusal

abbrev pub JudgedQuaternion-outcome : JudgedQuaternion → Result IntervalQuaternion ℕ
JudgedQuaternion-outcome j = outcome j.quaternion j.refusal

abbrev pub JudgedRow-outcome : JudgedRow → Result IntervalRow ℕ
JudgedRow-outcome j = outcome j.row j.refusal

abbrev pub JudgedMatrix-outcome : JudgedMatrix → Result IntervalMatrix ℕ
JudgedMatrix-outcome j = outcome j.matrix j.refusal
