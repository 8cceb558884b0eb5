-- What an inverse's answer can be: its refusal is 0, 4 or 5 (`inverse-refusal`), and without one every entry is finite (`inverse-finite`).
use mathlib.Core.Path.{◌≡◌, refl}
use mathlib.Core.Bool.{Bool, true, false, cond}
use mathlib.Core.Logic.{◌⊎◌, inl, inr}
use native.Mathlib.Omega.{arith}
use lib.Dec.{T}
use Rattle.matrix4x4.specs.Rows.{Rows}
use Rattle.matrix4x4.specs.IsFinite.{Matrix4x4-is_finite}
use Rattle.control_flow.specs.Loop.{loop}
use Rattle.matrix_inverse.specs.RestoreColumns.{restore_columns}
use Rattle.matrix_inverse.specs.Inverse.{Elimination, zero_pivot, running, zeros, elimination_round}
use Rattle.matrix_inverse.specs.Inverse.{InverseAnswer, refused, InverseAnswer-judged, finish, Matrix4x4-inverse}

-- refused with one of the numbers, or finite
data Answered (r : InverseAnswer) : Type 0 where
  stopped : r.refusal ≡ 4 → Answered r
  overflowed : r.refusal ≡ 5 → Answered r
  accepted : r.refusal ≡ 0 → T (Matrix4x4-is_finite r.m) → Answered r

judged-answered : (m : Rows) → Answered (InverseAnswer-judged m)
unfolding InverseAnswer-judged
judged-answered m = go (Matrix4x4-is_finite m) (λ h. h)
  where
    go : (b : Bool) → (T b → T (Matrix4x4-is_finite m)) → Answered (cond b (record { m = m; refusal = 0 }) (refused 5))
    go true f = accepted refl (f tt)
    go false f = overflowed refl

finish-answered : (e : Elimination) → Answered (finish e)
unfolding finish
finish-answered zero_pivot = stopped refl
finish-answered (running m ipiv indxr indxc) = judged-answered (restore_columns m indxr indxc)

inverse-answered : (m : Rows) → Answered (Matrix4x4-inverse m)
unfolding Matrix4x4-inverse
inverse-answered m = finish-answered (loop elimination_round 4 (running m zeros zeros zeros))

pub inverse-refusal : (m : Rows) → ((Matrix4x4-inverse m).refusal ≡ 0) ⊎ (((Matrix4x4-inverse m).refusal ≡ 4) ⊎ ((Matrix4x4-inverse m).refusal ≡ 5))
inverse-refusal m = go (Matrix4x4-inverse m) (inverse-answered m)
  where
    go : (r : InverseAnswer) → Answered r → (r.refusal ≡ 0) ⊎ ((r.refusal ≡ 4) ⊎ (r.refusal ≡ 5))
    go r (accepted e f) = inl e
    go r (stopped e) = inr (inl e)
    go r (overflowed e) = inr (inr e)

pub inverse-finite : (m : Rows) → (Matrix4x4-inverse m).refusal ≡ 0 → T (Matrix4x4-is_finite (Matrix4x4-inverse m).m)
inverse-finite m h = go (Matrix4x4-inverse m) h (inverse-answered m)
  where
    go : (r : InverseAnswer) → r.refusal ≡ 0 → Answered r → T (Matrix4x4-is_finite r.m)
    go r h (accepted e f) = f
    go r h (stopped e) = absurd (omega arith)
    go r h (overflowed e) = absurd (omega arith)
