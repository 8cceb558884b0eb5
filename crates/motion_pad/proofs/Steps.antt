-- The pad over an interval of dt, stopping at the first refusal: `pad-steps`.
use mathlib.Core.Path.{◌≡◌, refl, ap, ◌∙◌}
use mathlib.Core.List.{List, [], ◌∷◌}
use Prim.Native.Nat.{ℕ}
use Rattle.std.specs.Prelude.{Result, Ok, Err}
use lib.Ieee.{Float}
use Rattle.interval.specs.declared.Interval.{Interval}
use Rattle.interval.specs.refusal.Outcome.{and_then}
use Rattle.interval.proofs.refusal.Outcome.{outcome-value}
use Rattle.interval.specs.Judged.{Judged-outcome}
use Rattle.interval_unjudged.specs.formula.Enclose.{enclosure, Program-enclose}
use Rattle.interval_unjudged.specs.formula.Stop.{Expr-enclose_or_stop}
use Rattle.interval_unjudged.proofs.formula.Stop.{program-stops}
use Rattle.interval_unjudged.specs.formula.Program.{var}
use Rattle.pose_steps.specs.Stages.{lerp}
use Rattle.motion_pad.specs.Pad.{pad_stage, Pad-inputs, Judged-of, Pad-enclose}

-- One interval as a list, and back.
single : (r : Result Interval ℕ)
    → and_then (and_then r (λ (X : Interval). Ok (X ∷ []))) (λ (l : List Interval). Ok (Judged-of (enclosure 0 l)).interval) ≡ r
single (Ok X) = refl
single (Err n) = refl

pub pad-steps : (pad0 pad1 : Float) (D : Interval)
    → Judged-outcome (Pad-enclose pad0 pad1 D) ≡ Expr-enclose_or_stop (Pad-inputs pad0 pad1 D) (lerp (var 2) (var 0) (var 1))
unfolding Pad-enclose
pad-steps pad0 pad1 D =
    let value : List Interval → Interval = λ l. (Judged-of (enclosure 0 l)).interval in
    let c = Program-enclose (enclosure 0 (Pad-inputs pad0 pad1 D)) pad_stage in
    outcome-value value c.intervals c.refusal
    ∙ ap (λ (r : Result (List Interval) ℕ). and_then r (λ (l : List Interval). Ok (value l))) (program-stops pad_stage (Pad-inputs pad0 pad1 D))
    ∙ single (Expr-enclose_or_stop (Pad-inputs pad0 pad1 D) (lerp (var 2) (var 0) (var 1)))
