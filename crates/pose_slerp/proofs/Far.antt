-- Where t, the angle, its sine and cosine, the length and the combination are finite, and the length is positive, far slerp worked without judging
-- is far slerp, and the number met before stands: `far-unjudged`. What does not depend on t has equal ends there, so that it is worked in floats.
use mathlib.Core.Path.{◌≡◌, refl, sym, ap, ap₂, ◌∙◌, subst}
use mathlib.Core.Bool.{Bool, true, ◌&&◌}
use Prim.Native.Nat.{ℕ}
use mathlib.Core.List.{[], ◌∷◌, ◌++◌}
use lib.Dec.{T}
use lib.Ieee.{Float, binary32, of_bits, lt}
use lib.Ieee.Bits.{is_true}
use lib.Ieee.Fits.{and_l, and_r}
use lib.Ieee.Scale.{finite}
use lib.Ieee.Positive.{positive}
use Rattle.square_root.specs.SquareRoot.{sqrt}
use Rattle.float32.specs.Operators.{◌⊕◌, ◌⊖◌, ◌⊗◌, ◌⊘◌}
use Rattle.quaternion.specs.declared.Quaternion.{Quaternion}
use Rattle.interval.specs.declared.Interval.{Interval}
use Rattle.interval.specs.declared.EndAngle.{EndAngle}
use Rattle.interval.specs.Contains.{Finite}
use Rattle.interval.specs.Interval.{Interval-point}
use Rattle.interval.specs.Enclosure.{Interval-add_enclosure, Interval-sub_enclosure, Interval-sqrt_enclosure, Interval-sin_enclosure, Interval-cos_enclosure}
use Rattle.interval.specs.means.EndAngle.{EndAngle-new, EndAngle-sin_range, EndAngle-cos_range}
use Rattle.interval.proofs.Places.{sin-range, cos-range}
use Rattle.interval.proofs.Points.{add-point, sub-point, sqrt-point}
use Rattle.interval_unjudged.specs.means.Ordered.{Interval-mul_ordered, Interval-div_ordered, Interval-ends_sum}
use Rattle.interval_unjudged.specs.means.Unjudged.{Expr-unjudged, Expr-unjudged_all, Program-unjudged, All, Positive}
use Rattle.interval_unjudged.proofs.Finite.{add-finite, sub-finite, mul-finite, div-finite, left-point, ends-finite}
use Rattle.interval_unjudged.proofs.Positive.{above_zero, positive-finite, rooted-positive}
use Rattle.interval_unjudged.proofs.Points.{mul-ordered-point, div-ordered-point, mul-ordered-rising}
use Rattle.interval_unjudged.proofs.Unjudged.{all_append, program-unjudged}
use Rattle.pose_steps.specs.declared.IntervalQuaternion.{IntervalQuaternion}
use Rattle.pose_steps.specs.Stages.{slerp_far_stage}
use Rattle.pose_steps.specs.Enclose.{IntervalQuaternion-list, IntervalQuaternion-point, JudgedQuaternion-of, Pose-enclose_slerp_far}
use Rattle.pose_ends.specs.means.Ends.{IntervalQuaternion-ends_sum}
use Rattle.pose_ends.proofs.Finite.{three-finite, quaternion-finite}
use Rattle.pose_slerp.specs.declared.Perpendicular.{Perpendicular}
use Rattle.pose_slerp.specs.means.Unjudged.{weighed, squares, length, IntervalQuaternion-combination, Perpendicular-of}
use Rattle.pose_slerp.proofs.Combination.{combination-points}

-- ---- intervals of one number
abbrev component : Interval → Interval → Interval → Interval
component b a c = Interval-sub_enclosure b (Interval-mul_ordered a c)

component-point : (b a c : Float) → component (Interval-point b) (Interval-point a) (Interval-point c) ≡ Interval-point (b ⊖ a ⊗ c)
component-point b a c = ap (Interval-sub_enclosure (Interval-point b)) (mul-ordered-point a c) ∙ sub-point b (a ⊗ c)

squares-point : (x y z w : Float)
    → squares (Interval-point x) (Interval-point y) (Interval-point z) (Interval-point w) ≡ Interval-point (x ⊗ x ⊕ y ⊗ y ⊕ z ⊗ z ⊕ w ⊗ w)
squares-point x y z w =
    rw (
      mul-ordered-point x x,
      mul-ordered-point y y,
      mul-ordered-point z z,
      mul-ordered-point w w,
      add-point (x ⊗ x) (y ⊗ y),
      add-point (x ⊗ x ⊕ y ⊗ y) (z ⊗ z),
    ) (add-point (x ⊗ x ⊕ y ⊗ y ⊕ z ⊗ z) (w ⊗ w))

abbrev point-finite : (x : Float) → T (finite x) → Finite (Interval-point x)
point-finite x f = record { low = f; high = f }

-- a component of the perpendicular that is finite is made of finite numbers
parts : (b a c n : Float) → T (finite ((b ⊖ a ⊗ c) ⊘ n)) → T (finite (b ⊖ a ⊗ c)) × (T (finite b) × (T (finite a) × T (finite c)))
parts b a c n h =
    let f = div-finite (b ⊖ a ⊗ c) n h in
    let g = sub-finite b (a ⊗ c) f in
    let k = mul-finite a c g.1 in
    (f, (g.0, (k.0, k.1)))

module _ (m : ℕ) (q1 q2 : Quaternion) (cosθ θ : Float) (t : Interval) where
  abbrev angle : Interval
  angle = Interval-mul_ordered (Interval-point θ) t

  abbrev perp : Perpendicular
  perp = Perpendicular-of q1 q2 cosθ

  abbrev turned : IntervalQuaternion
  turned = IntervalQuaternion-combination (IntervalQuaternion-point q1)
      (IntervalQuaternion-point perp.q) (Interval-cos_enclosure angle) (Interval-sin_enclosure angle)

  far-unjudged : Finite t → Finite angle → Finite (Interval-cos_enclosure angle) → Finite (Interval-sin_enclosure angle) → T (positive perp.length)
      → All Finite (IntervalQuaternion-list turned)
      → record { quaternion = turned; refusal = m }
      ≡ Pose-enclose_slerp_far m (IntervalQuaternion-point q1) (IntervalQuaternion-point q2) (Interval-point cosθ) (Interval-point θ) t
  unfolding Pose-enclose_slerp_far Program-unjudged Expr-unjudged_all Expr-unjudged IntervalQuaternion-combination Perpendicular-of
  far-unjudged ft fa fc fs p f =
      let C = Interval-cos_enclosure angle in
      let S = Interval-sin_enclosure angle in
      let c = Interval-point cosθ in
      let x = q2.v.x ⊖ q1.v.x ⊗ cosθ in
      let y = q2.v.y ⊖ q1.v.y ⊗ cosθ in
      let z = q2.v.z ⊖ q1.v.z ⊗ cosθ in
      let w = q2.w ⊖ q1.w ⊗ cosθ in
      let n = length x y z w in
      let X = component (Interval-point q2.v.x) (Interval-point q1.v.x) c in
      let Y = component (Interval-point q2.v.y) (Interval-point q1.v.y) c in
      let Z = component (Interval-point q2.v.z) (Interval-point q1.v.z) c in
      let W = component (Interval-point q2.w) (Interval-point q1.w) c in
      let eX : X ≡ Interval-point x = component-point q2.v.x q1.v.x cosθ in
      let eY : Y ≡ Interval-point y = component-point q2.v.y q1.v.y cosθ in
      let eZ : Z ≡ Interval-point z = component-point q2.v.z q1.v.z cosθ in
      let eW : W ≡ Interval-point w = component-point q2.w q1.w cosθ in
      let d = x ⊗ x ⊕ y ⊗ y ⊕ z ⊗ z ⊕ w ⊗ w in
      let D = squares X Y Z W in
      let eD : D ≡ Interval-point d = rw (eX, eY, eZ, eW) (squares-point x y z w) in
      let N = Interval-sqrt_enclosure D in
      let eN : N ≡ Interval-point n = ap Interval-sqrt_enclosure eD ∙ sqrt-point d in
      let eX' : Interval-div_ordered X N ≡ Interval-point (x ⊘ n) = ap₂ Interval-div_ordered eX eN ∙ div-ordered-point x n in
      let eY' : Interval-div_ordered Y N ≡ Interval-point (y ⊘ n) = ap₂ Interval-div_ordered eY eN ∙ div-ordered-point y n in
      let eZ' : Interval-div_ordered Z N ≡ Interval-point (z ⊘ n) = ap₂ Interval-div_ordered eZ eN ∙ div-ordered-point z n in
      let eW' : Interval-div_ordered W N ≡ Interval-point (w ⊘ n) = ap₂ Interval-div_ordered eW eN ∙ div-ordered-point w n in
      let g = combination-points q1 perp.q C S f in
      let hx = parts q2.v.x q1.v.x cosθ n g.1.0.low in
      let hy = parts q2.v.y q1.v.y cosθ n g.1.1.0.low in
      let hz = parts q2.v.z q1.v.z cosθ n g.1.1.1.0.low in
      let hw = parts q2.w q1.w cosθ n g.1.1.1.1.0.low in
      let pd : T (positive d) = rooted-positive d p in
      let fD : Finite D = subst Finite (sym eD) (point-finite d (positive-finite d pd)) in
      let pD : Positive D = subst Positive (sym eD) (record { low = pd; high = pd }) in
      let fN : Finite N = subst Finite (sym eN) (point-finite n (positive-finite n p)) in
      let pN : Positive N = subst Positive (sym eN) (record { low = p; high = p }) in
      let a = IntervalQuaternion-list (IntervalQuaternion-point q1) in
      let inputs : All Finite (a ++ IntervalQuaternion-list (IntervalQuaternion-point q2) ++ c ∷ Interval-point θ ∷ t ∷ []) = (
        g.0.0,
        (
          g.0.1.0,
          (
            g.0.1.1.0,
            (
              g.0.1.1.1.0,
              (
                point-finite q2.v.x hx.1.0,
                (
                  point-finite q2.v.y hy.1.0,
                  (
                    point-finite q2.v.z hz.1.0,
                    (
                      point-finite q2.w hw.1.0,
                      (point-finite cosθ hx.1.1.1, (left-point θ t fa, (ft, tt))),
                    ),
                  ),
                ),
              ),
            ),
          ),
        ),
      ) in
      let same : ◌≡◌ {A = IntervalQuaternion}
      (record { x = Interval-div_ordered X N; y = Interval-div_ordered Y N; z = Interval-div_ordered Z N; w = Interval-div_ordered W N })
      (IntervalQuaternion-point perp.q) =
      rw (eX', eY', eZ', eW') in
      ap (λ (v : IntervalQuaternion). record { quaternion = IntervalQuaternion-combination (IntervalQuaternion-point q1) v C S; refusal = m }) (sym same)
      ∙ sym
      (ap JudgedQuaternion-of
      (program-unjudged slerp_far_stage m (a ++ IntervalQuaternion-list (IntervalQuaternion-point q2) ++ c ∷ Interval-point θ ∷ t ∷ []) inputs tt (
        fa,
        (
          subst Finite (sym eX) (point-finite x hx.0),
          (
            subst Finite (sym eY) (point-finite y hy.0),
            (
              subst Finite (sym eZ) (point-finite z hz.0),
              (
                subst Finite (sym eW) (point-finite w hw.0),
                (
                  fN,
                  (
                    fD,
                    (
                      subst Finite (sym eX') g.1.0,
                      (
                        subst Finite (sym eY') g.1.1.0,
                        (
                          subst Finite (sym eZ') g.1.1.1.0,
                          (
                            subst Finite (sym eW') g.1.1.1.1.0,
                            (
                              fc,
                              (
                                fs,
                                (
                                  subst (λ (v : Interval). Finite (weighed (Interval-point q1.v.x) C v S)) (sym eX') f.0,
                                  (
                                    subst (λ (v : Interval). Finite (weighed (Interval-point q1.v.y) C v S)) (sym eY') f.1.0,
                                    (
                                      subst (λ (v : Interval). Finite (weighed (Interval-point q1.v.z) C v S)) (sym eZ') f.1.1.0,
                                      (subst (λ (v : Interval). Finite (weighed (Interval-point q1.w) C v S)) (sym eW') f.1.1.1.0, tt),
                                    ),
                                  ),
                                ),
                              ),
                            ),
                          ),
                        ),
                      ),
                    ),
                  ),
                ),
              ),
            ),
          ),
        ),
      )
      (pD, (pN, (pN, (pN, (pN, tt)))))))

-- As code has it that keeps the angles at both ends of t and the perpendicular: r is the test of the sum.
pub far-tested : (m : ℕ) (q1 q2 : Quaternion) (cosθ θ : Float) (t : Interval) {from to : EndAngle}
    {p : Perpendicular} {c s : Interval} {v : IntervalQuaternion} {A C D E : Float} {r : Bool}
    → from ≡ EndAngle-new (θ ⊗ t.low) → to ≡ EndAngle-new (θ ⊗ t.high) → p ≡ Perpendicular-of q1 q2 cosθ
    → c ≡ EndAngle-cos_range from to → s ≡ EndAngle-sin_range from to
    → v ≡ IntervalQuaternion-combination (IntervalQuaternion-point q1) (IntervalQuaternion-point p.q) c s
    → A ≡ Interval-ends_sum t → C ≡ Interval-ends_sum c → D ≡ Interval-ends_sum s → E ≡ IntervalQuaternion-ends_sum v
    → r ≡ finite (A ⊕ from.angle ⊕ to.angle ⊕ C ⊕ D ⊕ p.length ⊕ E)
    → (r && lt (of_bits binary32 0) p.length && lt from.angle to.angle) ≡ true
    → record { quaternion = v; refusal = m }
    ≡ Pose-enclose_slerp_far m (IntervalQuaternion-point q1) (IntervalQuaternion-point q2) (Interval-point cosθ) (Interval-point θ) t
unfolding EndAngle-new
far-tested m q1 q2 cosθ θ t {from} {to} {p} {c} {s} {v} {A} {C} {D} {E} {r} ef et ep ec es ev eA eC eD eE er h =
    let K = angle m q1 q2 cosθ θ t in
    let P = Perpendicular-of q1 q2 cosθ in
    let U = turned m q1 q2 cosθ θ t in
    let x = θ ⊗ t.low in
    let y = θ ⊗ t.high in
    let ex : from.angle ≡ x = ap (λ (a : EndAngle). a.angle) ef in
    let ey : to.angle ≡ y = ap (λ (a : EndAngle). a.angle) et in
    let long = lt (of_bits binary32 0) p.length in
    let rising = lt from.angle to.angle in
    let k : T (r && long && rising) = rw h tt in
    let eK : K ≡ record { low = x; high = y } =
    mul-ordered-rising θ t (rw (← ex, ← ey) (is_true rising (and_r (r && long) rising k))) in
    let eC' : c ≡ Interval-cos_enclosure K = ec ∙ ap₂ EndAngle-cos_range ef et ∙ cos-range x y ∙ ap Interval-cos_enclosure (sym eK) in
    let eS' : s ≡ Interval-sin_enclosure K = es ∙ ap₂ EndAngle-sin_range ef et ∙ sin-range x y ∙ ap Interval-sin_enclosure (sym eK) in
    let eU : v ≡ U = ev ∙ rw (eC', eS', ep) in
    let f : T (finite (A ⊕ from.angle ⊕ to.angle ⊕ C ⊕ D ⊕ p.length ⊕ E)) = rw (← er) (and_l r long (and_l (r && long) rising k)) in
    let g = three-finite (A ⊕ from.angle ⊕ to.angle ⊕ C ⊕ D) p.length E f in
    let i = three-finite (A ⊕ from.angle ⊕ to.angle) C D g.0 in
    let l = three-finite A from.angle to.angle i.0 in
    let fK : Finite K = subst Finite (sym eK) (record { low = rw (← ex) l.1.0; high = rw (← ey) l.1.1 }) in
    let pl : T (positive P.length) = rw (← ep) (above_zero p.length g.1.0 (is_true long (and_r r long (and_l (r && long) rising k)))) in
    rw eU
    (far-unjudged m q1 q2 cosθ θ t (ends-finite t (rw (← eA) l.0)) fK
    (ends-finite (Interval-cos_enclosure K) (rw (← eC', ← eC) i.1.0)) (ends-finite (Interval-sin_enclosure K) (rw (← eS', ← eD) i.1.1))
    pl (quaternion-finite U (rw (← eU, ← eE) g.1.1)))
