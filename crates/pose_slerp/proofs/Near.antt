-- Where t, one less it, the combination, its length and the quotient are finite, and the length is positive,
-- near slerp worked without judging is near slerp, and the number met before stands: `near-unjudged`.
use mathlib.Core.Path.{◌≡◌, sym, ap, ◌∙◌}
use mathlib.Core.Bool.{Bool, true, ◌&&◌}
use Prim.Native.Nat.{ℕ}
use mathlib.Core.List.{[], ◌∷◌, ◌++◌}
use lib.Dec.{T}
use lib.Ieee.{Float, binary32, of_bits, lt}
use lib.Ieee.Bits.{is_true}
use lib.Ieee.Fits.{and_l, and_r}
use lib.Ieee.Scale.{finite}
use Rattle.float32.specs.Operators.{◌⊕◌, one}
use Rattle.quaternion.specs.declared.Quaternion.{Quaternion}
use Rattle.interval.specs.declared.Interval.{Interval}
use Rattle.interval.specs.Contains.{Finite}
use Rattle.interval.specs.Interval.{Interval-point}
use Rattle.interval.specs.Enclosure.{Interval-sub_enclosure, Interval-sqrt_enclosure}
use Rattle.interval_unjudged.specs.means.Ordered.{Interval-ends_sum}
use Rattle.interval_unjudged.specs.means.Unjudged.{Expr-unjudged, Expr-unjudged_all, Program-unjudged, All, Positive}
use Rattle.interval_unjudged.proofs.Finite.{add-finite, ends-finite}
use Rattle.interval_unjudged.proofs.Unjudged.{all_append, program-unjudged}
use Rattle.pose_steps.specs.declared.IntervalQuaternion.{IntervalQuaternion}
use Rattle.pose_steps.specs.Stages.{slerp_near_stage}
use Rattle.pose_steps.specs.Enclose.{IntervalQuaternion-list, IntervalQuaternion-point, JudgedQuaternion-of, Pose-enclose_slerp_near}
use Rattle.pose_ends.specs.means.Ends.{IntervalQuaternion-ends_sum}
use Rattle.pose_ends.proofs.Finite.{three-finite, quaternion-finite}
use Rattle.pose_slerp.specs.means.Unjudged.{IntervalQuaternion-combination, IntervalQuaternion-squared, IntervalQuaternion-quotient}
use Rattle.pose_slerp.proofs.Combination.{combination-points, positive-interval, positive-interval-finite, squared-positive}

abbrev 𝟏 : Interval
𝟏 = Interval-point one

module _ (m : ℕ) (q1 q2 : Quaternion) (t : Interval) where
  abbrev rest : Interval
  rest = Interval-sub_enclosure 𝟏 t

  abbrev sum : IntervalQuaternion
  sum = IntervalQuaternion-combination (IntervalQuaternion-point q1) (IntervalQuaternion-point q2) rest t

  abbrev norm : Interval
  norm = Interval-sqrt_enclosure (IntervalQuaternion-squared sum)

  near-unjudged : Finite t → Finite rest → All Finite (IntervalQuaternion-list sum)
      → Positive norm → All Finite (IntervalQuaternion-list (IntervalQuaternion-quotient sum norm))
      → record { quaternion = IntervalQuaternion-quotient sum norm; refusal = m }
      ≡ Pose-enclose_slerp_near m (IntervalQuaternion-point q1) (IntervalQuaternion-point q2) t
  unfolding Pose-enclose_slerp_near Program-unjudged Expr-unjudged_all Expr-unjudged IntervalQuaternion-combination IntervalQuaternion-squared
      IntervalQuaternion-quotient of_bits
  near-unjudged ft fs fq pn f =
      let a = IntervalQuaternion-list (IntervalQuaternion-point q1) in
      let b = IntervalQuaternion-list (IntervalQuaternion-point q2) in
      let g = combination-points q1 q2 rest t fq in
      let pd = squared-positive (IntervalQuaternion-squared sum) pn in
      sym
      (ap JudgedQuaternion-of
      (program-unjudged slerp_near_stage m (a ++ b ++ t ∷ []) (all_append Finite (a ++ b) (t ∷ []) (all_append Finite a b g.0 g.1) (ft, tt)) tt (
        fs,
        (
          fq.0,
          (
            fq.1.0,
            (
              fq.1.1.0,
              (
                fq.1.1.1.0,
                (
                  positive-interval-finite norm pn,
                  (
                    positive-interval-finite (IntervalQuaternion-squared sum) pd,
                    (f.0, (f.1.0, (f.1.1.0, (f.1.1.1.0, tt)))),
                  ),
                ),
              ),
            ),
          ),
        ),
      )
      (pd, (pn, (pn, (pn, (pn, tt)))))))

-- As the code has it: r is the test of the sum.
pub near-tested : (m : ℕ) (q1 q2 : Quaternion) (t : Interval) {s : Interval} {q : IntervalQuaternion}
    {d n : Interval} {v : IntervalQuaternion} {A B C D E : Float} {r : Bool}
    → s ≡ Interval-sub_enclosure 𝟏 t → q ≡ IntervalQuaternion-combination (IntervalQuaternion-point q1) (IntervalQuaternion-point q2) s t
    → d ≡ IntervalQuaternion-squared q → n ≡ Interval-sqrt_enclosure d → v ≡ IntervalQuaternion-quotient q n
    → A ≡ Interval-ends_sum t → B ≡ Interval-ends_sum s → C ≡ Interval-ends_sum n → D ≡ IntervalQuaternion-ends_sum q → E ≡ IntervalQuaternion-ends_sum v
    → r ≡ finite (A ⊕ B ⊕ C ⊕ D ⊕ E) → (r && lt (of_bits binary32 0) n.low && lt (of_bits binary32 0) n.high) ≡ true
    → record { quaternion = v; refusal = m } ≡ Pose-enclose_slerp_near m (IntervalQuaternion-point q1) (IntervalQuaternion-point q2) t
near-tested m q1 q2 t {s} {q} {d} {n} {v} {A} {B} {C} {D} {E} {r} es eq ed en ev ea eb ec eD eE er h =
    let S = Interval-sub_enclosure 𝟏 t in
    let Q = sum m q1 q2 t in
    let N = norm m q1 q2 t in
    let eQ : q ≡ Q = eq ∙ ap (λ (x : Interval). IntervalQuaternion-combination (IntervalQuaternion-point q1) (IntervalQuaternion-point q2) x t) es in
    let eN : n ≡ N = en ∙ ap Interval-sqrt_enclosure (ed ∙ ap IntervalQuaternion-squared eQ) in
    let eV : v ≡ IntervalQuaternion-quotient Q N =
    ev ∙ ap (λ (x : IntervalQuaternion). IntervalQuaternion-quotient x n) eQ ∙ ap (IntervalQuaternion-quotient Q) eN in
    let low = lt (of_bits binary32 0) n.low in
    let high = lt (of_bits binary32 0) n.high in
    let k : T ((r && low) && high) = rw h tt in
    let l : T (r && low) = and_l (r && low) high k in
    let f : T (finite (A ⊕ B ⊕ C ⊕ D ⊕ E)) = rw (← er) (and_l r low l) in
    let g = add-finite (A ⊕ B ⊕ C ⊕ D) E f in
    let i = add-finite (A ⊕ B ⊕ C) D g.0 in
    let j = three-finite A B C i.0 in
    let fn : Finite n = ends-finite n (rw (← ec) j.1.1) in
    let pn : Positive N = rw (← eN) (positive-interval n fn (is_true low (and_r r low l)) (is_true high (and_r (r && low) high k))) in
    rw eV
    (near-unjudged m q1 q2 t (ends-finite t (rw (← ea) j.0)) (ends-finite S (rw (← es, ← eb) j.1.0)) (quaternion-finite Q (rw (← eQ, ← eD) i.1)) pn
    (quaternion-finite (IntervalQuaternion-quotient Q N) (rw (← eV, ← eE) g.1)))
