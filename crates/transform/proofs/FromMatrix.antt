-- A transform made from one matrix is refused with its inverse's number (`from-matrix-refusal`), so with 4 or 5 alone (`from-matrix-numbers`).
-- Where the inverse is not refused, it is the pair of the two (`from-matrix-accepted`), and the inverse is finite (`from-matrix-finite`).
use mathlib.Core.Path.{◌≡◌, refl, sym, ◌∙◌}
use mathlib.Core.Bool.{Bool, true, false, cond}
use mathlib.Core.Logic.{◌⊎◌}
use Prim.Native.Nat.{ℕ}
use borrow.Author.Tests.{eq-eqb}
use lib.Dec.{T, eqb, eqb→eq}
use Rattle.matrix4x4.specs.Rows.{Rows, Matrix4x4-from_rows, Matrix4x4-to_rows}
use Rattle.matrix4x4.specs.IsFinite.{Matrix4x4-is_finite}
use Rattle.matrix_inverse.specs.Inverse.{Matrix4x4-inverse}
use Rattle.matrix_inverse.proofs.Refusal.{inverse-refusal, inverse-finite}
use Rattle.transform.specs.Transform.{TransformAnswer}
use Rattle.transform.specs.Transform.{TransformAnswer-refused, Transform-from_matrix}

pub from-matrix-refusal : (m : Rows) → (Transform-from_matrix m).refusal ≡ (Matrix4x4-inverse m).refusal
unfolding Transform-from_matrix
from-matrix-refusal m = go (Matrix4x4-inverse m).refusal (eqb (Matrix4x4-inverse m).refusal 0) (eqb→eq (Matrix4x4-inverse m).refusal 0) _ refl
  where
    go : (n : ℕ) (b : Bool) → (T b → n ≡ 0) → (a : TransformAnswer) → a.refusal ≡ 0 → (cond b a (TransformAnswer-refused n)).refusal ≡ n
    go n true h a e = e ∙ sym (h tt)
    go n false h a e = refl

pub from-matrix-numbers : (m : Rows) → ((Transform-from_matrix m).refusal ≡ 0) ⊎ (((Transform-from_matrix m).refusal ≡ 4) ⊎ ((Transform-from_matrix m).refusal ≡ 5))
from-matrix-numbers m = rw (from-matrix-refusal m) (inverse-refusal m)

pub from-matrix-accepted : (m : Rows) → (Matrix4x4-inverse m).refusal ≡ 0
    → Transform-from_matrix m ≡ record { transform = record { m = Matrix4x4-from_rows m; m_inv = Matrix4x4-from_rows (Matrix4x4-inverse m).m }; refusal = 0 }
unfolding Transform-from_matrix
from-matrix-accepted m e = rw (eq-eqb (Matrix4x4-inverse m).refusal 0 e)

-- the inverse as the transform holds it
pub from-matrix-finite : (m : Rows) → (Matrix4x4-inverse m).refusal ≡ 0 → T (Matrix4x4-is_finite (Matrix4x4-to_rows (Matrix4x4-from_rows (Matrix4x4-inverse m).m)))
unfolding Matrix4x4-is_finite
from-matrix-finite m e = inverse-finite m e
