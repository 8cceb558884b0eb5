-- A stored transform over a box, by interval steps and by pbrt's `transform_bounds`: the same box, a zero's sign aside (`stored-box-same`), and the same number
-- (`stored-box-refusal`), which is 0 or 5 (`stored-box-number`). The transform is affine and finite; the box is one that a query takes, finite and in order.
-- Each moved corner lies in the interval box, which encloses every moved point; each end of an interval is a moved corner's coordinate (`row-picks`).
use mathlib.Core.Path.{◌≡◌, refl, sym, ap, ◌∙◌}
use mathlib.Core.Logic.{inl, inr}
use mathlib.Core.Bool.{Bool}
use mathlib.Core.List.{List}
use Prim.Native.Nat.{ℕ}
use native.Mathlib.Omega.{arith}
use lib.Dec.{T}
use Rattle.bounds_query.specs.rounding.Order.{◌≼◌}
use Rattle.bounds_query.proofs.rounding.Order.{≼_refl, number-left, number-right}
use Rattle.bounds_query.specs.matrix4x4.Rows.{Matrix4x4-to_rows}
use Rattle.bounds_query.specs.matrix4x4.IsFinite.{Matrix4x4-is_finite}
use Rattle.bounds_query.specs.matrix4x4.IsAffine.{Matrix4x4-is_affine}
use Rattle.bounds_query.specs.bounds3.declared.Point3f.{Point3f}
use Rattle.bounds_query.specs.bounds3.declared.Bounds3f.{Bounds3f}
use Rattle.bounds_query.specs.bounds3.Finite.{Finite}
use Rattle.bounds_query.specs.bounds3.Inside.{Inside, Subset}
use Rattle.bounds_query.specs.bounds3.List.{Point3f-list}
use Rattle.bounds_query.specs.transform.declared.Transform.{Transform}
use Rattle.bounds_query.specs.transform.declared.BoundsAnswer.{BoundsAnswer}
use Rattle.bounds_query.specs.transform.declared.BoundsAnswer.TheVariants.{Bounds, Refused}
use Rattle.bounds_query.specs.transform.Answer.{BoundsAnswer-refusal}
use Rattle.bounds_query.specs.transform.TransformBounds.{Transform-transform_bounds}
use Rattle.bounds_query.proofs.transform.Judged.{transform-bounds-judged}
use Rattle.bounds_query.specs.Query.{Bounds3f-refusal}
use Rattle.bounds_query.proofs.Accepted.{refusal-accepted}
use Rattle.pose_steps.specs.interval.declared.Interval.{Interval}
use Rattle.pose_steps.specs.interval.Contains.{Encloses}
use Rattle.pose_steps.specs.formula.Promise.{Pairwise}
use Rattle.pose_steps.specs.Enclose.{IntervalVector-list, IntervalVector-bounds, Bounds3f-intervals}
use Rattle.pose_steps.proofs.Finite.{stored-encloses}
use Rattle.pose_steps.proofs.Extends.{transform_point-extends}
use Rattle.pose_steps.proofs.Box.{inside-encloses, encloses-inside, point-finite}
use Rattle.stored_box.specs.EnclosePoints.{Transform-enclose_points, StoredNumber}
use Rattle.stored_box.proofs.Row.{end, end-picks, corner, rows-subset, rows-accepted, rows-number}
use Rattle.stored_box.proofs.Corners.{All, Hull, Spans, moved_corner, moved_corners, corners-all, corners-each, corners-span}

-- ---- an answer that spans points
answer-hull : (qs : List Point3f) (r : BoundsAnswer) (c : Bounds3f) → Spans qs r → r ≡ Bounds c → Hull qs c
answer-hull qs r c s e = (rw e at s).1

answer-accepted : (qs : List Point3f) (r : BoundsAnswer) → Spans qs r → All Finite qs → (c : Bounds3f) × (r ≡ Bounds c)
answer-accepted qs (Bounds c) s f = (c, refl)
answer-accepted qs (Refused n) s f = absurd (s.1 f)

answer-finite : (qs : List Point3f) (r : BoundsAnswer) → Spans qs r → BoundsAnswer-refusal r ≡ 0 → All Finite qs
answer-finite qs (Bounds c) s z = s.0
answer-finite qs (Refused n) s z = let five = s.0 in absurd (omega arith)

same_number : {m n : ℕ} → StoredNumber m → StoredNumber n → (m ≡ 0 → n ≡ 0) → (n ≡ 0 → m ≡ 0) → m ≡ n
same_number (inl p) j f g = p ∙ sym (f p)
same_number (inr p) (inl q) f g = g q ∙ sym q
same_number (inr p) (inr q) f g = p ∙ sym q

end-between : (X : Interval) → X.low ≼ X.high → (e : Bool) → (X.low ≼ end e X) × (end e X ≼ X.high)
end-between X o e =
    end-picks (λ v. (X.low ≼ v) × (v ≼ X.high)) X (≼_refl X.low (number-left o), o) (o, ≼_refl X.high (number-right o)) e

-- ---- the interval steps over a box, and `transform_bounds`
pub stored-box-number : (t : Transform) (b : Bounds3f) → StoredNumber (Transform-enclose_points t b).refusal
stored-box-number t b = rows-number 0 t.m (Bounds3f-intervals b) (inl refl)

module _ (t : Transform) (b : Bounds3f) (affine : T (Matrix4x4-is_affine (Matrix4x4-to_rows t.m))) (stored : T (Matrix4x4-is_finite (Matrix4x4-to_rows t.m)))
    (accepted : Bounds3f-refusal b ≡ 0) where
  corner-inside : (i j k : Bool) → Inside b (corner (Bounds3f-intervals b) i j k)
  corner-inside i j k =
      let (f, x, y, z) = refusal-accepted b accepted in
      let B = Bounds3f-intervals b in
      record { x = end-between B.x x i; y = end-between B.y y j; z = end-between B.z z k }

  corner-enclosed : (Transform-enclose_points t b).refusal ≡ 0 → (i j k : Bool)
      → Pairwise Encloses (IntervalVector-list (Transform-enclose_points t b).vector) (Point3f-list (moved_corner t b i j k))
  corner-enclosed z i j k =
      transform_point-extends 0 (stored-encloses t.m stored) (inside-encloses b (refusal-accepted b accepted).0 (corner-inside i j k)) z

  corner-finite : (Transform-enclose_points t b).refusal ≡ 0 → (i j k : Bool) → Finite (moved_corner t b i j k)
  corner-finite z i j k =
      point-finite (Transform-enclose_points t b).vector (moved_corner t b i j k) (corner-enclosed z i j k)

  spans : Spans (moved_corners t b) (Transform-transform_bounds t b)
  spans = corners-span t b affine (refusal-accepted b accepted).0

  pub stored-box-same : (c : Bounds3f) → (Transform-enclose_points t b).refusal ≡ 0 → Transform-transform_bounds t b ≡ Bounds c
      → Subset (IntervalVector-bounds (Transform-enclose_points t b).vector) c × Subset c (IntervalVector-bounds (Transform-enclose_points t b).vector)
  stored-box-same c z e =
      let W = (Transform-enclose_points t b).vector in
      let d = IntervalVector-bounds W in
      let h = answer-hull (moved_corners t b) (Transform-transform_bounds t b) c spans e in (
        rows-subset 0 t.m (Bounds3f-intervals b) c (corners-each t b (Inside c) h.inside),
        h.least d (corners-all t b (Inside d) (λ i j k. encloses-inside W (moved_corner t b i j k) (corner-enclosed z i j k))),
      )

  -- Where the interval steps are accepted, so is `transform_bounds`.
  pub stored-box-accepted : (Transform-enclose_points t b).refusal ≡ 0 → (c : Bounds3f) × (Transform-transform_bounds t b ≡ Bounds c)
  stored-box-accepted z = answer-accepted (moved_corners t b) (Transform-transform_bounds t b) spans (corners-all t b Finite (corner-finite z))

  steps-accepted : BoundsAnswer-refusal (Transform-transform_bounds t b) ≡ 0 → (Transform-enclose_points t b).refusal ≡ 0
  steps-accepted z =
      rows-accepted 0 t.m (Bounds3f-intervals b) refl
      (corners-each t b Finite (answer-finite (moved_corners t b) (Transform-transform_bounds t b) spans z))

  pub stored-box-refusal : (Transform-enclose_points t b).refusal ≡ BoundsAnswer-refusal (Transform-transform_bounds t b)
  stored-box-refusal =
      same_number (stored-box-number t b) (transform-bounds-judged t b).number (λ z. ap BoundsAnswer-refusal (stored-box-accepted z).1) steps-accepted
