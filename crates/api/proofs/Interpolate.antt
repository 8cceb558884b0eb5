-- The transform of a kept move is the move's own (`kept-interpolate`). Eight rows that hold an answered transform move a point as it does (`left-moves`).
use Prim.Native.Nat.{ℕ}
use mathlib.Core.Path.{◌≡◌, refl, sym, ap, subst, ◌∙◌}
use mathlib.Core.List.{List}
use lib.Ieee.{Float}
use Rattle.file_reader.specs.matrix4x4.Rows.{Rows}
use Rattle.lent_arrays.specs.transform.declared.Transform.{Transform}
use Rattle.std.specs.Prelude.{Result, Ok, Err, IfOk}
use Rattle.animated_transform.specs.refusal.declared.Refusal.{Refusal}
use Rattle.animated_transform.proofs.refusal.Number.{number-nonzero}
use Rattle.lent_arrays.specs.transform.Transform.{TransformAnswer, TransformAnswer-of_result}
use Rattle.animated_transform.specs.declared.AnimatedTransform.{AnimatedTransform}
use Rattle.interpolate_kept.specs.interpolation.Interpolate.{AnimatedTransform-interpolate}
use Rattle.lent_arrays.specs.Arrays.{TransformAnswer-left}
use Rattle.motion_rows.specs.Rows.{AnimatedTransform-to_rows, transform_at}
use Rattle.interpolate_kept.specs.Kept.{Rows-interpolate}
use Rattle.interpolate_kept.specs.Theorem.{MovesPoints}
use Rattle.interpolate_kept.proofs.Kept.{interpolate-kept}

pub kept-interpolate : (rows : Rows) (m : AnimatedTransform) (time : Float) → rows ≡ AnimatedTransform-to_rows m
    → Rows-interpolate rows time ≡ AnimatedTransform-interpolate m time
kept-interpolate rows m time e = ap (λ (r : Rows). Rows-interpolate r time) e ∙ interpolate-kept m time

left-transform : (a : TransformAnswer) (old : Rows) → a.refusal ≡ 0 → transform_at (TransformAnswer-left a old) 0 ≡ a.transform
unfolding transform_at TransformAnswer-left
left-transform a old z = rw z

pub left-moves : (rows : List Rows) (time : Float) (a : Result Transform Refusal) (old : Rows) {new : Rows} {r : ℕ}
    → IfOk a (MovesPoints rows time) → r ≡ (TransformAnswer-of_result a).refusal → new ≡ TransformAnswer-left (TransformAnswer-of_result a) old
    → r ≡ 0 → MovesPoints rows time (transform_at new 0)
left-moves rows time (Ok t) old {new} {r} moves number left z =
    subst (MovesPoints rows time) (sym (ap (λ (l : Rows). transform_at l 0) left ∙ left-transform (record { transform = t; refusal = 0 }) old refl)) moves
left-moves rows time (Err n) old {new} {r} moves number left z = absurd (number-nonzero n (sym number ∙ z))
