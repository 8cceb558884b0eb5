-- The promise of the normalized vector: `normalize-encloses`. It is the one law of formulas (`stage-extends`); the formula has no proof of its own.
-- Its steps stop at the first refusal: `normalize-steps`.
use mathlib.Core.Path.{◌≡◌, ap, ap₂, subst, ◌∙◌}
use Prim.Native.Nat.{ℕ}
use mathlib.Core.List.{List}
use Rattle.std.specs.Prelude.{Result, Ok}
use Rattle.interval.specs.declared.Interval.{Interval}
use Rattle.interval.specs.refusal.Outcome.{and_then}
use Rattle.interval.proofs.refusal.Outcome.{outcome-value, outcome-accepted}
use Rattle.formula.specs.Program.{var}
use Rattle.formula.specs.Enclose.{enclosure, Program-enclose}
use Rattle.formula.specs.Stop.{Program-enclose_or_stop}
use Rattle.formula.proofs.Stop.{program-stops}
use Rattle.formula.proofs.Stage.{stage-extends}
use Rattle.formula_example.specs.declared.IntervalVector2.{IntervalVector2}
use Rattle.formula_example.specs.Normalize.{normalize, Vector2-list, IntervalVector2-list, JudgedVector2, JudgedVector2-outcome, JudgedVector2-of}
use Rattle.formula_example.specs.Normalize.{Vector2-normalize_enclosure, EnclosesNormalized}

pub normalize-encloses : (v r : IntervalVector2) → Ok r ≡ JudgedVector2-outcome (Vector2-normalize_enclosure 0 v) → EnclosesNormalized v (record { value = r; refusal = 0 })
normalize-encloses v r e =
    let j = Vector2-normalize_enclosure 0 v in
    let (f, z) = outcome-accepted j.value r j.refusal e in
    let same : j ≡ record { value = r; refusal = 0 } = ap₂ (λ (x : IntervalVector2) (n : ℕ). record { value = x; refusal = n }) f z in
    subst (EnclosesNormalized v) same
    (λ w a. stage-extends (normalize (var 0) (var 1)) (enclosure 0 (IntervalVector2-list v)) (Vector2-list w) tt (λ z. a))

pub normalize-steps : (v : IntervalVector2) → JudgedVector2-outcome (Vector2-normalize_enclosure 0 v)
    ≡ and_then (Program-enclose_or_stop (IntervalVector2-list v) (normalize (var 0) (var 1))) (λ (l : List Interval). Ok (JudgedVector2-of (enclosure 0 l)).value)
normalize-steps v =
    let value : List Interval → IntervalVector2 = λ l. (JudgedVector2-of (enclosure 0 l)).value in
    let c = Program-enclose (enclosure 0 (IntervalVector2-list v)) (normalize (var 0) (var 1)) in
    outcome-value value c.intervals c.refusal
    ∙ ap (λ (r : Result (List Interval) ℕ). and_then r (λ (l : List Interval). Ok (value l))) (program-stops (normalize (var 0) (var 1)) (IntervalVector2-list v))
