-- The coefficients of the derivative for two poses' parts, judged; without rotation every coefficient is +0. Definitions only.
use Rattle.std.specs.Prelude.{ℕ, Bool, true, false, ◌&&◌, cond, Float, Result, Ok, Err}
use Rattle.std.specs.Float.Ieee.{neg}
use Rattle.float32.specs.Operators.{one}
use Rattle.float32.specs.Clamp.{clamp}
use Rattle.arc_cosine.specs.Acos.{acos}
use Rattle.vector3.specs.declared.Vector3f.{Vector3f}
use Rattle.quaternion.specs.declared.Quaternion.{Quaternion}
use Rattle.quaternion.specs.Quaternion.{Quaternion-normalize, Quaternion-sub, Quaternion-mul}
use Rattle.quaternion.specs.IsFinite.{Quaternion-is_finite}
use Rattle.matrix4x4.specs.declared.Matrix4x4.{Matrix4x4}
use Rattle.matrix4x4.specs.Rows.{Matrix4x4-to_rows}
use Rattle.coefficients.specs.declared.Coefficients.{Coefficients}
use Rattle.coefficients.specs.Coefficients.{Coefficients-new, Coefficients-zero}
use Rattle.coefficients.specs.IsFinite.{Coefficients-is_finite}
use Rattle.refusal.specs.declared.Refusal.{Refusal}
use Rattle.refusal.specs.Number.{Refusal-number}

-- A coefficient set beside a refusal's number, 0 for none: after a refusal every number is +0.
pub record CoefficientsAnswer : Type 0 where
  pub value : Coefficients
  pub refusal : ℕ

abbrev pub CoefficientsAnswer-of_result : Result Coefficients Refusal → CoefficientsAnswer
CoefficientsAnswer-of_result (Ok c) = record { value = c; refusal = 0 }
CoefficientsAnswer-of_result (Err r) = record { value = Coefficients-zero; refusal = Refusal-number r }

-- document 01, Refusals, 5: a finished "quaternion .., coefficient set .. holds a value that isn't finite"
unfoldable pub CoefficientsAnswer-judged : Quaternion → Coefficients → CoefficientsAnswer
CoefficientsAnswer-judged qperp c =
    cond (Quaternion-is_finite qperp && Coefficients-is_finite c) (record { value = c; refusal = 0 }) (record { value = Coefficients-zero; refusal = 5 })

-- the lines of `if res.has_rotation { .. }`
unfoldable pub rotation_coefficients : Vector3f → Vector3f → Quaternion → Quaternion → Matrix4x4 → Matrix4x4 → Float → CoefficientsAnswer
rotation_coefficients t0 t1 r0 r1 s0 s1 cosθ =
    let θ = acos (clamp cosθ (neg one) one) in
    let qperp = Quaternion-normalize (Quaternion-sub r1 (Quaternion-mul r0 cosθ)) in
    CoefficientsAnswer-judged qperp (Coefficients-new t0 t1 r0 qperp θ (Matrix4x4-to_rows s0) (Matrix4x4-to_rows s1))

-- A match and no `cond`, so that only the case that holds is computed.
unfoldable pub pair_coefficients : Bool → Vector3f → Vector3f → Quaternion → Quaternion → Matrix4x4 → Matrix4x4 → Float → CoefficientsAnswer
pair_coefficients true t0 t1 r0 r1 s0 s1 cosθ = rotation_coefficients t0 t1 r0 r1 s0 s1 cosθ
pair_coefficients false t0 t1 r0 r1 s0 s1 cosθ = record { value = Coefficients-zero; refusal = 0 }
