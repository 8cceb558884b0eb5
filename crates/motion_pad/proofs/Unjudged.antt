-- Where dt, one less it, and what comes out without judging are finite, this is the pad, and nothing is refused: `pad-tested`, as the code has it.
use mathlib.Core.Path.{◌≡◌, sym, ap, ◌∙◌}
use mathlib.Core.Bool.{Bool, true}
use mathlib.Core.List.{[], ◌∷◌}
use lib.Dec.{T}
use lib.Ieee.{Float, of_bits}
use lib.Ieee.Scale.{finite}
use Rattle.float32.specs.Operators.{◌⊕◌, one}
use Rattle.interval.specs.declared.Interval.{Interval}
use Rattle.interval.specs.Contains.{Finite}
use Rattle.interval.specs.Interval.{Interval-point}
use Rattle.interval.specs.Enclosure.{Interval-sub_enclosure}
use Rattle.interval_unjudged.specs.means.Ordered.{Interval-mul_ordered, Interval-ends_sum}
use Rattle.interval_unjudged.specs.means.Unjudged.{Expr-unjudged, Expr-unjudged_all, Program-unjudged}
use Rattle.interval_unjudged.proofs.Finite.{add-finite, add-operands, right-point, ends-finite}
use Rattle.interval_unjudged.proofs.Unjudged.{program-unjudged}
use Rattle.motion_pad.specs.Pad.{pad_stage, Pad-inputs, Judged-of, Pad-enclose}
use Rattle.motion_pad.specs.means.Unjudged.{Pad-unjudged}

abbrev rest : Interval → Interval
rest dt = Interval-sub_enclosure (Interval-point one) dt

pad-unjudged : (pad0 pad1 : Float) (dt : Interval) → Finite dt → Finite (rest dt) → Finite (Pad-unjudged pad0 pad1 dt)
    → record { interval = Pad-unjudged pad0 pad1 dt; refusal = 0 } ≡ Pad-enclose pad0 pad1 dt
unfolding Pad-enclose Pad-unjudged Program-unjudged Expr-unjudged_all Expr-unjudged of_bits
pad-unjudged pad0 pad1 dt d s f =
    let g = add-operands (Interval-mul_ordered (rest dt) (Interval-point pad0)) (Interval-mul_ordered dt (Interval-point pad1)) f in
    let p = right-point (rest dt) pad0 g.0 in
    let q = right-point dt pad1 g.1 in
    sym (ap Judged-of (program-unjudged pad_stage 0 (Pad-inputs pad0 pad1 dt) (p, (q, (d, tt))) tt (f, (s, tt)) tt))

-- t is the test of the sum.
pub pad-tested : (pad0 pad1 : Float) (dt : Interval) {s w : Interval} {A B C : Float} {t : Bool}
    → s ≡ rest dt → w ≡ Pad-unjudged pad0 pad1 dt
    → A ≡ Interval-ends_sum dt → B ≡ Interval-ends_sum s → C ≡ Interval-ends_sum w → t ≡ finite (A ⊕ B ⊕ C) → t ≡ true
    → record { interval = w; refusal = 0 } ≡ Pad-enclose pad0 pad1 dt
pad-tested pad0 pad1 dt es ew ea eb ec et h =
    let w = Pad-unjudged pad0 pad1 dt in
    let ends : T (finite (Interval-ends_sum dt ⊕ Interval-ends_sum (rest dt) ⊕ Interval-ends_sum w)) = rw (← es, ← ew, ← ea, ← eb, ← ec, sym et ∙ h) tt in
    let (ab, c) = add-finite (Interval-ends_sum dt ⊕ Interval-ends_sum (rest dt)) (Interval-ends_sum w) ends in
    let (a, b) = add-finite (Interval-ends_sum dt) (Interval-ends_sum (rest dt)) ab in
    rw ew (pad-unjudged pad0 pad1 dt (ends-finite dt a) (ends-finite (rest dt) b) (ends-finite w c))
