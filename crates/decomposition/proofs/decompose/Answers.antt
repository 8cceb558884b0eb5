-- `decompose` meets its contract. The invariant: after `counter` rounds the definition stands at `r`, unsettled.
use mathlib.Core.Path.{refl, sym, ◌∙◌}
use Rattle.std.proofs.lemmas.Result.{err_from_is_err_and}
use Rattle.refusal.specs.Number.{Refusal-number}
use Rattle.refusal.proofs.Number.{number-nonzero}
use Rattle.matrix_inverse.specs.Inverse.{refused}
use Prim.Native.Nat.{◌-◌}
use Rattle.matrix_inverse.specs.control_flow.Loop.{loop}
use borrow.Author.Rules.{rules}
use Rattle.decomposition.proofs.Rounds.{inverse-refuses, matrix-refuses, turn_last, turn-next}
use Rattle.decomposition.proofs.decompose.Goals as goal

pub loop-rit-init : goal.loop-rit-init
unfolding loop
loop-rit-init c = record { low = search rules; state = rw c.linear_part-r.ensures.value }

pub returns-in_err-rit : goal.returns-in_err-rit
returns-in_err-rit c =
    let gave = err_from_is_err_and c.from_residual.result c.from_residual.ensures.1 in
    record {
      value = rw (gave.1, gave.2) (sym
          (inverse-refuses c.loop-rit.invariant (refused (Refusal-number c.in_err-rit.field-0.0)) (rw (← c.transpose.ensures.value) c.in_err-rit.ensures.value) _ (number-nonzero c.in_err-rit.field-0.0)));
    }

pub returns-then-not-is_finite : goal.returns-then-not-is_finite
returns-then-not-is_finite c = record {
  value = let rnext = c.mean-rnext in
      sym
      (matrix-refuses c.loop-rit.invariant _ (rw (← c.transpose.ensures.value) c.in_ok-rit.ensures.value) refl
      rnext.result rnext.ensures.value _ (sym c.is_finite.ensures.value ∙ c.if-not-is_finite.true));
}

pub loop-rit-preserved : goal.loop-rit-preserved
loop-rit-preserved c =
    let rnext = c.mean-rnext in
    turn-next c.loop-rit.invariant _ (rw (← c.transpose.ensures.value) c.in_ok-rit.ensures.value) refl
    rnext.result rnext.ensures.value
    (sym c.is_finite.ensures.value ∙ c.if-not-is_finite.false) (rw c.distance-norm.ensures.value at c.if-counter-norm.false)

pub returns : goal.returns
returns c = record {
  value = let rnext = c.mean-rnext in
      c.parts.ensures.value ∙
      sym
      (turn_last c.loop-rit.invariant _ (rw (← c.transpose.ensures.value) c.in_ok-rit.ensures.value) refl
      rnext.result rnext.ensures.value
      (sym c.is_finite.ensures.value ∙ c.if-not-is_finite.false) _ (rw c.distance-norm.ensures.value at c.if-counter-norm.true));
}
