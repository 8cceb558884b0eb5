-- pbrt's `transform_bounds` of an affine transform and a finite box: the smallest box round the eight moved corners, refused
-- with 5 where one of them is not finite (`corners-span`). Rests on the unions of `bounds3`, and on wp being 1 (`point-affine`).
use Rattle.std.specs.Prelude.{Ok, Err}
use mathlib.Core.Path.{◌≡◌, refl}
use mathlib.Core.Bool.{Bool, true, false, cond}
use mathlib.Core.List.{List, [], ◌∷◌}
use lib.Dec.{T}
use lib.Ieee.{Float}
use lib.Ieee.Scale.{finite}
use Rattle.bounds_query.specs.matrix4x4.Rows.{Matrix4x4-to_rows}
use Rattle.bounds_query.specs.matrix4x4.IsAffine.{Matrix4x4-is_affine}
use Rattle.bounds_query.specs.bounds3.declared.Point3f.{Point3f}
use Rattle.bounds_query.specs.bounds3.declared.Bounds3f.{Bounds3f}
use Rattle.bounds_query.specs.bounds3.Bounds3f.{Bounds3f-union_point}
use Rattle.bounds_query.specs.bounds3.Finite.{Point3f-is_finite, Bounds3f-is_finite, Finite}
use Rattle.bounds_query.specs.bounds3.Inside.{Inside, Subset}
use Rattle.bounds_query.proofs.bounds3.Finite.{test-finite, finite-test, low-finite, high-finite}
use Rattle.bounds_query.proofs.bounds3.Union.{from-point-inside, union-least, union-point-box, union-point-inside, union-point-keeps, inside-subset}
use Rattle.bounds_query.specs.transform.declared.Transform.{Transform}
use Rattle.bounds_query.specs.transform.Answer.{PointAnswer}
use Rattle.bounds_query.specs.transform.declared.BoundsAnswer.{BoundsAnswer}
use Rattle.bounds_query.specs.transform.declared.BoundsAnswer.TheVariants as bounds
use Rattle.bounds_query.specs.transform.TransformPoint.{PointAnswer-judged, Transform-transform_point}
use Rattle.bounds_query.specs.transform.TransformBounds.{BoundsAnswer-from_moved, BoundsAnswer-union_moved, union_corner, Transform-transform_bounds}
use Rattle.pose_steps.specs.Pose.{Pose-transform_point}
use Rattle.pose_steps.specs.Enclose.{Bounds3f-intervals}
use Rattle.pose_steps.proofs.Composition.{point-affine}
use Rattle.stored_box.proofs.Row.{end-picks, corner}

abbrev pub All : (Point3f → Type 0) → List Point3f → Type 0
All P [] = Unit {0}
All P (q ∷ qs) = P q × All P qs

all_map : {P Q : Point3f → Type 0} → ((q : Point3f) → P q → Q q) → (qs : List Point3f) → All P qs → All Q qs
all_map h [] a = tt
all_map h (q ∷ qs) a = (h q a.0, all_map h qs a.1)

-- c holds the points, and lies in every box that does.
pub record Hull (qs : List Point3f) (c : Bounds3f) : Type 0 where
  pub inside : All (Inside c) qs
  pub least : (d : Bounds3f) → All (Inside d) qs → Subset c d

-- The smallest box round the points where all are finite, refused with 5 otherwise.
abbrev pub Spans : List Point3f → BoundsAnswer → Type 0
Spans qs (bounds.Bounds c) = All Finite qs × Hull qs c
Spans qs (bounds.Refused n) = (n ≡ 5) × (All Finite qs → ⊥)

-- ---- one point more
union-hull : (c : Bounds3f) (qs : List Point3f) {q : Point3f} → Finite q → Hull qs c → Hull (q ∷ qs) (Bounds3f-union_point c q)
union-hull c qs {q} f h =
    record {
      inside = (union-point-inside c f, all_map (λ p i. union-point-keeps q i) qs h.inside);
      least = λ d a. rw (union-point-box c q) (union-least (h.least d a.1) (inside-subset a.0));
    }

first-spans : (q : Point3f) {a : PointAnswer} → a ≡ PointAnswer-judged q → Spans (q ∷ []) (BoundsAnswer-from_moved a)
unfolding PointAnswer-judged BoundsAnswer-from_moved
first-spans q e = rw e (go (Point3f-is_finite q) (test-finite q) finite-test)
  where
    go : (b : Bool) → (T b → Finite q) → (Finite q → T b) → Spans (q ∷ []) (BoundsAnswer-from_moved (cond b (Ok q) (Err 5)))
    go true f g = ((f tt, tt), record { inside = (from-point-inside (f tt), tt); least = λ d a. inside-subset a.0 })
    go false f g = (refl, λ a. g a.0)

union-spans : (q : Point3f) {a : PointAnswer} (qs : List Point3f) (r : BoundsAnswer)
    → a ≡ PointAnswer-judged q → Spans qs r → Spans (q ∷ qs) (BoundsAnswer-union_moved r a)
unfolding PointAnswer-judged BoundsAnswer-union_moved
union-spans q qs (bounds.Refused n) e s = (s.0, λ a. s.1 a.1)
union-spans q qs (bounds.Bounds c) e s = rw e (go (Point3f-is_finite q) (test-finite q) finite-test)
  where
    go : (b : Bool) → (T b → Finite q) → (Finite q → T b)
        → Spans (q ∷ qs) (BoundsAnswer-union_moved (bounds.Bounds c) (cond b (Ok q) (Err 5)))
    go true f g = ((f tt, s.0), union-hull c qs (f tt) s.1)
    go false f g = (refl, λ a. g a.0)

-- ---- the eight corners
module _ (t : Transform) (b : Bounds3f) where
  -- The corner at the ends i of x, j of y and k of z, moved.
  abbrev pub moved_corner : Bool → Bool → Bool → Point3f
  moved_corner i j k = Pose-transform_point t.m (corner (Bounds3f-intervals b) i j k)

  -- In the order of `transform_bounds`, the last met first.
  abbrev pub moved_corners : List Point3f
  moved_corners =
      let l = false in
      let h = true in
      moved_corner h h h ∷ moved_corner h l h ∷ moved_corner h h l ∷ moved_corner l h h
      ∷ moved_corner l l h ∷ moved_corner l h l ∷ moved_corner h l l ∷ moved_corner l l l ∷ []

  pub corners-all : (P : Point3f → Type 0) → ((i j k : Bool) → P (moved_corner i j k)) → All P moved_corners
  corners-all P f = (
    f true true true,
    (
      f true false true,
      (f true true false, (f false true true, (f false false true, (f false true false, (f true false false, (f false false false, tt)))))),
    ),
  )

  pub corners-each : (P : Point3f → Type 0) → All P moved_corners → (i j k : Bool) → P (moved_corner i j k)
  corners-each P a true true true = a.0
  corners-each P a true false true = a.1.0
  corners-each P a true true false = a.1.1.0
  corners-each P a false true true = a.1.1.1.0
  corners-each P a false false true = a.1.1.1.1.0
  corners-each P a false true false = a.1.1.1.1.1.0
  corners-each P a true false false = a.1.1.1.1.1.1.0
  corners-each P a false false false = a.1.1.1.1.1.1.1.0

  module _ (a : T (Matrix4x4-is_affine (Matrix4x4-to_rows t.m))) (f : T (Bounds3f-is_finite b)) where
    corner-finite : (i j k : Bool) → Finite (corner (Bounds3f-intervals b) i j k)
    corner-finite i j k =
        let l = low-finite b f in
        let h = high-finite b f in
        let B = Bounds3f-intervals b in
        let F : Float → Type 0 = λ v. T (finite v) in
        record { x = end-picks F B.x l.x h.x i; y = end-picks F B.y l.y h.y j; z = end-picks F B.z l.z h.z k }

    corner-moved : (i j k : Bool) → Transform-transform_point t (corner (Bounds3f-intervals b) i j k) ≡ PointAnswer-judged (moved_corner i j k)
    corner-moved i j k = point-affine t (corner (Bounds3f-intervals b) i j k) a (corner-finite i j k)

    pub corners-span : Spans moved_corners (Transform-transform_bounds t b)
    unfolding Transform-transform_bounds union_corner
    corners-span =
        let c = moved_corner in
        union-spans (c true true true) (c true false true ∷ c true true false ∷ c false true true ∷ c false false true ∷ c false true false ∷ c true false false ∷ c false false false ∷ []) _ (corner-moved true true true)
        (union-spans (c true false true) (c true true false ∷ c false true true ∷ c false false true ∷ c false true false ∷ c true false false ∷ c false false false ∷ []) _ (corner-moved true false true)
        (union-spans (c true true false) (c false true true ∷ c false false true ∷ c false true false ∷ c true false false ∷ c false false false ∷ []) _ (corner-moved true true false)
        (union-spans (c false true true) (c false false true ∷ c false true false ∷ c true false false ∷ c false false false ∷ []) _ (corner-moved false true true)
        (union-spans (c false false true) (c false true false ∷ c true false false ∷ c false false false ∷ []) _ (corner-moved false false true)
        (union-spans (c false true false) (c true false false ∷ c false false false ∷ []) _ (corner-moved false true false)
        (union-spans (c true false false) (c false false false ∷ []) _ (corner-moved true false false)
        (first-spans (c false false false) (corner-moved false false false))))))))
