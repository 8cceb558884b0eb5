-- The guarantee, `cover-contains`: an accepted cover of a built move holds every point of the box at every time but NaN.
-- A stored transform over the box holds what that transform moves (`stored-contains`), and a piece of the move what every pose
-- of its dt moves (`piece-contains`), since the interval steps enclose the float steps; grown by no less than the pad, they
-- hold the moved point less and plus the pad too (`grow-holds`). dt lies in some slice, and a union holds what its parts hold.
use Rattle.std.specs.Prelude.{Ok}
use Prim.Native.Nat.{ℕ, zero, suc, ◌<◌, ◌≤◌, ◌^◌}
use mathlib.Core.Path.{◌≡◌, refl, sym, ap, subst, ◌∙◌}
use mathlib.Core.Bool.{Bool, true, false, not, cond}
use native.Mathlib.Omega.{arith}
use lib.Dec.{T, eqb, ltb}
use borrow.Author.Tests.{eqb-true, eqb-false, ltb-false}
use lib.Ieee.{Float, is_nan, le, lt}
use lib.Ieee.Bits.{is_true, is_false}
use Rattle.stored_box.specs.rounding.Order.{◌≼◌, Number}
use Rattle.stored_box.proofs.rounding.Order.{≼_refl, finite_number, not-lt-≼}
use Rattle.stored_box.specs.float32.MinMax.{max_num}
use Rattle.stored_box.proofs.float32.MinMax.{max-picks}
use Rattle.stored_box.specs.interval.declared.Interval.{Interval}
use Rattle.stored_box.specs.interval.Judged.{Judged}
use Rattle.stored_box.specs.interval.Contains.{Contains, Subset, Encloses}
use Rattle.stored_box.specs.bounds3.declared.Point3f.{Point3f}
use Rattle.stored_box.specs.bounds3.declared.Bounds3f.{Bounds3f}
use Rattle.stored_box.specs.bounds3.Finite.{Point3f-is_finite, Bounds3f-is_finite}
use Rattle.stored_box.proofs.bounds3.Finite.{finite-test, box-finite}
use Rattle.stored_box.specs.bounds3.Inside.{Inside, Subset as Subset3}
use Rattle.stored_box.specs.bounds3.List.{Point3f-list}
use Rattle.stored_box.proofs.bounds3.Union.{union-inside-left, union-inside-right, subset-inside}
use Rattle.stored_box.specs.transform.declared.Transform.{Transform}
use Rattle.stored_box.specs.transform.declared.BoundsAnswer.{BoundsAnswer}
use Rattle.stored_box.specs.transform.declared.BoundsAnswer.TheVariants.{Bounds, Refused}
use Rattle.stored_box.specs.transform.Answer.{PointAnswer, PointAnswer-refusal, PointAnswer-point, BoundsAnswer-bounds}
use Rattle.stored_box.specs.transform.TransformPoint.{Transform-transform_point}
use Rattle.stored_box.proofs.transform.Judged.{judged-moved}
use Rattle.stored_box.specs.bounds_query.Query.{Bounds3f-refusal, BoundsAnswer-union_bounds, max_depth, cover_refusal}
use Rattle.stored_box.proofs.bounds_query.Accepted.{refusal-accepted}
use Rattle.stored_box.specs.bounds_query.Zeros.{Bounds3f-positive_zeros, BoundsAnswer-positive_zeros}
use Rattle.stored_box.proofs.bounds_query.Zeros.{zeros-accepted}
use Rattle.stored_box.proofs.bounds_query.Union.{refused-bounds, bounds-same, union-accepted}
use Rattle.stored_box.specs.unit_interval.Unit.{unit_interval, slice, dt}
use Rattle.stored_box.proofs.unit_interval.Slices.{slice-unit, slice-covers}
use Rattle.stored_box.proofs.unit_interval.DtUnit.{dt-unit}
use Rattle.stored_box.specs.pose_steps.declared.PoseConstants.{PoseConstants}
use Rattle.stored_box.specs.formula.Promise.{Pairwise}
use Rattle.stored_box.specs.pose_steps.declared.IntervalVector.{IntervalVector}
use Rattle.stored_box.specs.pose_steps.Judged.{JudgedVector}
use Rattle.stored_box.specs.pose_steps.Pose.{Pose-transform_point, Pose-moved_point}
use Rattle.stored_box.specs.pose_steps.Enclose.{IntervalVector-list, Pose-enclose_point, Bounds3f-intervals, IntervalVector-bounds}
use Rattle.stored_box.specs.pose_steps.Promise.{PoseConstants-Valid, FiniteScale, EnclosesAnswer}
use Rattle.stored_box.proofs.pose_steps.Finite.{stored-encloses}
use Rattle.stored_box.proofs.pose_steps.Extends.{transform_point-extends, moved_point-extends}
use Rattle.stored_box.proofs.pose_steps.Composition.{point-affine}
use Rattle.stored_box.proofs.pose_steps.Box.{inside-encloses, encloses-inside, point-finite}
use Rattle.stored_box.specs.EnclosePoints.{Transform-enclose_points}
use Rattle.motion_point.specs.animated_transform.declared.AnimatedTransform.{AnimatedTransform}
use Rattle.motion_point.specs.animated_transform.Built.{StoredPose, Pad-Judged, Built}
use Rattle.motion_point.proofs.animated_transform.Built.{built-judged}
use Rattle.motion_point.specs.TransformPoint.{AnimatedTransform-constants, AnimatedTransform-moved_point, AnimatedTransform-transform_point}
use Rattle.motion_point.proofs.Built.{built-valid, built-scales}
use Rattle.motion_point.proofs.Query.{moved-point-start, moved-point-end, moved-point-between, transform-point-accepted}
use Rattle.motion_cover.specs.Cover.{BoundsAnswer-from_enclosure, Transform-enclose_bounds, Transform-enclose_padded, AnimatedTransform-enclose_bounds}
use Rattle.motion_cover.specs.Cover.{AnimatedTransform-enclose_ends, union_slices, AnimatedTransform-enclose_motion, AnimatedTransform-cover}
use Rattle.motion_cover.specs.Theorem.{MovedInside, CoverContainsMotion}
use Rattle.motion_point.specs.PadAt.{AnimatedTransform-pad_at}
use Rattle.motion_point.proofs.PadAt.{pad-at-equal, pad-at-start, pad-at-end, pad-at-between}
use Rattle.motion_pad.specs.Pad.{Pad-at, Pad-enclose, Pad-stored}
use Rattle.motion_pad.specs.Grow.{Point3f-less, Point3f-plus, BoundsAnswer-grow, PaddedInside}
use Rattle.motion_pad.proofs.Pad.{pad-within}
use Rattle.motion_pad.proofs.Box.{Binary32, PadWithin, grow-padded, grow-accepted}
use Rattle.motion_cover.proofs.Values.{pose-values, stored-values}
use Rattle.motion_cover.proofs.Zeros.{motion-valued, zeros_within, zeros-around}
use Rattle.motion_cover.proofs.NonZero.{cover-answered}

-- Where the answer r is a box, that box holds the point, by itself and less and plus the pad.
pub record Holds (r : BoundsAnswer) (pad : Float) (point : PointAnswer) : Type 0 where
  pub holds : (box : Bounds3f) → r ≡ Bounds box → MovedInside box pad point

-- Where the answer r is a box, it is finite and holds the point, whose coordinates are values of binary32: what growing asks for.
pub record Moves (r : BoundsAnswer) (answer : PointAnswer) : Type 0 where
  pub point : (box : Bounds3f) → r ≡ Bounds box → Point3f
  pub moved : (box : Bounds3f) (e : r ≡ Bounds box) → answer ≡ Ok (point box e)
  pub inside : (box : Bounds3f) (e : r ≡ Bounds box) → Inside box (point box e)
  pub finite : (box : Bounds3f) → r ≡ Bounds box → T (Bounds3f-is_finite box)
  pub values : (q : Point3f) → answer ≡ Ok q → Binary32 q

moved_inside : {box : Bounds3f} {pad : Float} {answer : PointAnswer} (point : Point3f)
    → answer ≡ Ok point → PaddedInside box pad point → MovedInside box pad answer
moved_inside {box} {pad} point e i = record { accepted = ap PointAnswer-refusal e; inside = subst (PaddedInside box pad) (sym (ap PointAnswer-point e)) i }

-- A box that holds whatever another holds.
padded-wider : {a b : Bounds3f} {pad : Float} {q : Point3f} → ((q : Point3f) → Inside a q → Inside b q) → PaddedInside a pad q → PaddedInside b pad q
padded-wider {pad = pad} {q = q} f i =
    record { point = f q i.point; less = f (Point3f-less q pad) i.less; plus = f (Point3f-plus q pad) i.plus }

-- So of a moved point, in a box that another lies in.
pub moved-wider : {a b : Bounds3f} {pad : Float} {answer : PointAnswer} → Subset3 a b → MovedInside a pad answer → MovedInside b pad answer
moved-wider s h = record { accepted = h.accepted; inside = padded-wider (λ q i. subset-inside s i) h.inside }

-- ---- a box that has grown
pub grow-holds : (pad : Judged) (r : BoundsAnswer) {here : Float} {answer : PointAnswer} → (pad.refusal ≡ 0 → PadWithin here pad.interval.high)
    → Moves r answer → Holds (BoundsAnswer-grow pad r) here answer
grow-holds pad r {here} w m = record {
  holds = λ box e.
      let g = grow-accepted pad r box e in
      let q = m.point g.before g.worked in
      let moved = m.moved g.before g.worked in
      moved_inside q moved
      (subst (λ (b : Bounds3f). PaddedInside b here q) g.grown
      (grow-padded (w g.accepted) (m.finite g.before g.worked) (m.inside g.before g.worked) (m.values q moved)));
}

-- ---- an enclosure as an answer
pub record FromEnclosure (j : JudgedVector) (box : Bounds3f) : Type 0 where
  pub accepted : j.refusal ≡ 0
  pub bounds : IntervalVector-bounds j.vector ≡ box

pub from-enclosure-accepted : (j : JudgedVector) (box : Bounds3f) → BoundsAnswer-from_enclosure j ≡ Bounds box → FromEnclosure j box
unfolding BoundsAnswer-from_enclosure
from-enclosure-accepted j box = go (eqb j.refusal 0) (eqb-true j.refusal 0)
  where
    go : (b : Bool) → (b ≡ true → j.refusal ≡ 0)
        → cond b (Bounds (IntervalVector-bounds j.vector)) (Refused j.refusal) ≡ Bounds box → FromEnclosure j box
    go true f e = record { accepted = f refl; bounds = bounds-same (IntervalVector-bounds j.vector) box e }
    go false f e = absurd (refused-bounds j.refusal box e)

encloses-finite : (W : IntervalVector) (p : Point3f) → Pairwise Encloses (IntervalVector-list W) (Point3f-list p)
    → T (Bounds3f-is_finite (IntervalVector-bounds W))
encloses-finite W p (x, (y, (z, e))) =
    box-finite (IntervalVector-bounds W)
    (record { x = x.finite.low; y = y.finite.low; z = z.finite.low })
    (record { x = x.finite.high; y = y.finite.high; z = z.finite.high })

enclosure-moves : {answer : PointAnswer} (j : JudgedVector)
    → (j.refusal ≡ 0 → EnclosesAnswer j.vector answer) → ((q : Point3f) → answer ≡ Ok q → Binary32 q)
    → Moves (BoundsAnswer-from_enclosure j) answer
enclosure-moves j f v = record {
  point = λ box e. (f (from-enclosure-accepted j box e).accepted).point;
  moved = λ box e. (f (from-enclosure-accepted j box e).accepted).moved;
  inside = λ box e.
      let g = from-enclosure-accepted j box e in
      let a = f g.accepted in
      subst (λ (b : Bounds3f). Inside b a.point) g.bounds (encloses-inside j.vector a.point a.encloses);
  finite = λ box e.
      let g = from-enclosure-accepted j box e in
      let a = f g.accepted in
      subst (λ (b : Bounds3f). T (Bounds3f-is_finite b)) g.bounds (encloses-finite j.vector a.point a.encloses);
  values = v;
}

-- ---- unions
union-holds-left : {pad : Float} {point : PointAnswer} (r s : BoundsAnswer) → Holds r pad point → Holds (BoundsAnswer-union_bounds r s) pad point
union-holds-left r s h = record {
  holds = λ box e.
      let j = union-accepted r s box e in
      let a = h.holds j.left j.left-accepted in
      record {
        accepted = a.accepted;
        inside = padded-wider (λ q i. subst (λ (b : Bounds3f). Inside b q) j.union (union-inside-left j.right i)) a.inside;
      };
}

union-holds-right : {pad : Float} {point : PointAnswer} (r s : BoundsAnswer) → Holds s pad point → Holds (BoundsAnswer-union_bounds r s) pad point
union-holds-right r s h = record {
  holds = λ box e.
      let j = union-accepted r s box e in
      let a = h.holds j.right j.right-accepted in
      record {
        accepted = a.accepted;
        inside = padded-wider (λ q i. subst (λ (b : Bounds3f). Inside b q) j.union (union-inside-right j.left i)) a.inside;
      };
}

-- ---- pieces
module _ (m : AnimatedTransform) (a : PoseConstants) (v : PoseConstants-Valid a) (f : FiniteScale m.s0)
    (g : FiniteScale m.s1) (h : Pad-Judged m.pad0) (k : Pad-Judged m.pad1)
    (b : Bounds3f) (p : Point3f) (fb : T (Bounds3f-is_finite b)) (i : Inside b p) where
  pub piece-contains : (D : Interval) (t : Float) → Subset D unit_interval → Contains D t
      → Holds (AnimatedTransform-enclose_bounds m a D b) (Pad-at m.pad0 m.pad1 t) (Pose-moved_point a m.s0 m.s1 t p)
  unfolding AnimatedTransform-enclose_bounds
  piece-contains D t u c =
      let j = Pose-enclose_point a m.s0 m.s1 D (Bounds3f-intervals b) in
      grow-holds (Pad-enclose m.pad0 m.pad1 D) (BoundsAnswer-from_enclosure j)
      (pad-within m.pad0 m.pad1 h.finite k.finite h.at-least-zero k.at-least-zero u c)
      (enclosure-moves j (moved_point-extends v f g u c (inside-encloses b fb i)) (pose-values a m.s0 m.s1 t p))

-- ---- a stored transform
pub pad-itself : {pad : Float} → Pad-Judged pad → PadWithin pad pad
pad-itself {pad} h = record { high-finite = h.finite; from_zero = h.at-least-zero; most = ≼_refl pad (finite_number pad h.finite) }

module _ {pad : Float} (w : Pad-Judged pad) (t : Transform) (s : StoredPose t)
    (b : Bounds3f) (p : Point3f) (fb : T (Bounds3f-is_finite b)) (i : Inside b p) where
  pub stored-contains : Holds (Transform-enclose_padded pad t b) pad (Transform-transform_point t p)
  unfolding Transform-enclose_padded Transform-enclose_bounds
  stored-contains =
      let B = Bounds3f-intervals b in
      let j = Transform-enclose_points t b in
      let q = Pose-transform_point t.m p in
      let e = inside-encloses b fb i in
      let h : j.refusal ≡ 0 → EnclosesAnswer j.vector (Transform-transform_point t p) =
      λ z.
      let w = transform_point-extends 0 (stored-encloses t.m s.matrix) e z in
      record {
        point = q;
        moved = point-affine t p s.affine (point-finite B p e)
            ∙ judged-moved q (finite-test (point-finite j.vector q w));
        encloses = w;
      } in
      grow-holds (Pad-stored pad) (BoundsAnswer-from_enclosure j) (λ _. pad-itself w) (enclosure-moves j h (stored-values t p))

-- ---- slices
module _ (m : AnimatedTransform) (a : PoseConstants) (b : Bounds3f) (d : ℕ) (r : BoundsAnswer) {pad : Float} {point : PointAnswer} where
  slices-hold-before : Holds r pad point → (n : ℕ) → Holds (union_slices m a b d r n) pad point
  unfolding union_slices
  slices-hold-before h zero = h
  slices-hold-before h (suc n) = union-holds-left (union_slices m a b d r n) (AnimatedTransform-enclose_bounds m a (slice d n) b) (slices-hold-before h n)

  slices-hold : (k n : ℕ) → k < n → Holds (AnimatedTransform-enclose_bounds m a (slice d k) b) pad point → Holds (union_slices m a b d r n) pad point
  unfolding union_slices
  slices-hold k zero l h = absurd (omega (arith, l))
  slices-hold k (suc n) l h = go (eqb k n) (eqb-true k n) (eqb-false k n) (λ (l' : k < n). slices-hold k n l' h)
    where
      go : (c : Bool) → (c ≡ true → k ≡ n) → (c ≡ false → k ≡ n → ⊥) → (k < n → Holds (union_slices m a b d r n) pad point)
          → Holds (BoundsAnswer-union_bounds (union_slices m a b d r n) (AnimatedTransform-enclose_bounds m a (slice d n) b)) pad point
      go true f g earlier =
          union-holds-right (union_slices m a b d r n) (AnimatedTransform-enclose_bounds m a (slice d n) b)
          (subst (λ (x : ℕ). Holds (AnimatedTransform-enclose_bounds m a (slice d x) b) pad point) (f refl) h)
      go false f g earlier = union-holds-left (union_slices m a b d r n) (AnimatedTransform-enclose_bounds m a (slice d n) b) (earlier (omega (arith, l, g refl)))

-- ---- the three times of a move
le-false : (x y : Float) → Number x → Number y → le x y ≡ false → T (lt y x)
le-false x y n k e = go (lt y x) (λ t. not-lt-≼ x y n k t)
  where
    go : (b : Bool) → (T (not b) → x ≼ y) → T b
    go true f = tt
    go false f = absurd (subst T e (f tt).holds)

-- ---- the work, by whether the poses are equal
holds_same : {r r' : BoundsAnswer} {pad pad' : Float} {q q' : PointAnswer} → r ≡ r' → pad ≡ pad' → q ≡ q' → Holds r' pad' q' → Holds r pad q
holds_same e f g h = rw (e, f, g) h

-- The larger of two pads.
pub larger-judged : {x y : Float} → Pad-Judged x → Pad-Judged y → Pad-Judged (max_num x y)
larger-judged {x} {y} = max-picks Pad-Judged x y

module _ (m : AnimatedTransform) (b : Bounds3f) (d : ℕ) where
  pub motion-stored : m.actually_animated ≡ false
      → AnimatedTransform-enclose_motion m b d ≡ Transform-enclose_padded (max_num m.pad0 m.pad1) m.start_transform b
  unfolding AnimatedTransform-enclose_motion
  motion-stored e = ap (λ (c : Bool). cond c (union_slices m (AnimatedTransform-constants m) b d (AnimatedTransform-enclose_ends m b) (2 ^ d))
      (Transform-enclose_padded (max_num m.pad0 m.pad1) m.start_transform b)) e

  pub motion-slices : m.actually_animated ≡ true
      → AnimatedTransform-enclose_motion m b d ≡ union_slices m (AnimatedTransform-constants m) b d (AnimatedTransform-enclose_ends m b) (2 ^ d)
  unfolding AnimatedTransform-enclose_motion
  motion-slices e = ap (λ (c : Bool). cond c (union_slices m (AnimatedTransform-constants m) b d (AnimatedTransform-enclose_ends m b) (2 ^ d))
      (Transform-enclose_padded (max_num m.pad0 m.pad1) m.start_transform b)) e

module _ {m : AnimatedTransform} (built : Built m) (b : Bounds3f) (p : Point3f) (fb : T (Bounds3f-is_finite b)) (i : Inside b p) (d : ℕ) where
  before-contains : Holds (AnimatedTransform-enclose_ends m b) m.pad0 (Transform-transform_point m.start_transform p)
  unfolding AnimatedTransform-enclose_ends
  before-contains =
      union-holds-left (Transform-enclose_padded m.pad0 m.start_transform b) (Transform-enclose_padded m.pad1 m.end_transform b)
      (stored-contains (built-judged built).pad0 m.start_transform (built-judged built).start b p fb i)

  after-contains : Holds (AnimatedTransform-enclose_ends m b) m.pad1 (Transform-transform_point m.end_transform p)
  unfolding AnimatedTransform-enclose_ends
  after-contains =
      union-holds-right (Transform-enclose_padded m.pad0 m.start_transform b) (Transform-enclose_padded m.pad1 m.end_transform b)
      (stored-contains (built-judged built).pad1 m.end_transform (built-judged built).end b p fb i)

  during-contains : (time : Float) → T (not (is_nan time)) → le time m.start_time ≡ false → le m.end_time time ≡ false
      → Holds (union_slices m (AnimatedTransform-constants m) b d (AnimatedTransform-enclose_ends m b) (2 ^ d))
      (Pad-at m.pad0 m.pad1 (dt m.start_time m.end_time time))
      (Pose-moved_point (AnimatedTransform-constants m) m.s0 m.s1 (dt m.start_time m.end_time time) p)
  during-contains time n e f =
      let j = built-judged built in
      let S = finite_number m.start_time j.start-time in
      let E = finite_number m.end_time j.end-time in
      let u = dt-unit m.start_time m.end_time time j.start-time j.start-binary32 j.end-time j.end-binary32 j.duration
      (le-false time m.start_time n S e) (le-false m.end_time time E n f) in
      let s = slice-covers d u in
      let (s0, s1) = built-scales built in
      slices-hold m (AnimatedTransform-constants m) b d (AnimatedTransform-enclose_ends m b) s.index (2 ^ d) s.below
      (piece-contains m (AnimatedTransform-constants m) (built-valid built) s0 s1 j.pad0 j.pad1 b p fb i
      (slice d s.index) (dt m.start_time m.end_time time) (slice-unit d s.index s.below) s.contains)

  -- The work holds the point that the work of the point query moves.
  motion-contains : (time : Float) → T (not (is_nan time))
      → Holds (AnimatedTransform-enclose_motion m b d) (AnimatedTransform-pad_at m time) (AnimatedTransform-moved_point m (AnimatedTransform-constants m) time p)
  motion-contains time n = go m.actually_animated (le time m.start_time) (le m.end_time time) refl refl refl
    where
      go : (x y z : Bool) → m.actually_animated ≡ x → le time m.start_time ≡ y → le m.end_time time ≡ z
          → Holds (AnimatedTransform-enclose_motion m b d) (AnimatedTransform-pad_at m time)
          (AnimatedTransform-moved_point m (AnimatedTransform-constants m) time p)
      go false y z e f g =
          holds_same (motion-stored m b d e) (pad-at-equal m time e) (moved-point-start m (AnimatedTransform-constants m) time p (rw e))
          (stored-contains (larger-judged (built-judged built).pad0 (built-judged built).pad1) m.start_transform (built-judged built).start b p fb i)
      go true true z e f g =
          holds_same (motion-slices m b d e) (pad-at-start m time e f) (moved-point-start m (AnimatedTransform-constants m) time p (rw (e, f)))
          (slices-hold-before m (AnimatedTransform-constants m) b d (AnimatedTransform-enclose_ends m b) before-contains (2 ^ d))
      go true false true e f g =
          holds_same (motion-slices m b d e) (pad-at-end m time e f g) (moved-point-end m (AnimatedTransform-constants m) time p (rw (e, f)) g)
          (slices-hold-before m (AnimatedTransform-constants m) b d (AnimatedTransform-enclose_ends m b) after-contains (2 ^ d))
      go true false false e f g =
          holds_same (motion-slices m b d e) (pad-at-between m time e f g)
          (moved-point-between m (AnimatedTransform-constants m) time p (rw (e, f)) g) (during-contains time n f g)

-- ---- the query
-- The box as it was worked out, and with its zeros +0: each lies in the other.
pub record Accepted (m : AnimatedTransform) (b : Bounds3f) (d : ℕ) (box : Bounds3f) : Type 0 where
  pub arguments : cover_refusal b d ≡ 0
  pub worked : Bounds3f
  pub motion : AnimatedTransform-enclose_motion m b d ≡ Bounds worked
  pub zeros : Bounds3f-positive_zeros worked ≡ box
  pub within : Subset3 box worked
  pub around : Subset3 worked box

pub cover-accepted : (m : AnimatedTransform) (b : Bounds3f) (d : ℕ) (box : Bounds3f) → AnimatedTransform-cover m b d ≡ Bounds box → Accepted m b d box
unfolding AnimatedTransform-cover
cover-accepted m b d box = go (eqb (cover_refusal b d) 0) (eqb-true (cover_refusal b d) 0)
  where
    go : (c : Bool) → (c ≡ true → cover_refusal b d ≡ 0)
        → cond c (BoundsAnswer-positive_zeros (AnimatedTransform-enclose_motion m b d)) (Refused (cover_refusal b d)) ≡ Bounds box → Accepted m b d box
    go true f e =
        let z = zeros-accepted (AnimatedTransform-enclose_motion m b d) box e in
        let v = (motion-valued m b d).values z.before z.worked in
        record {
          arguments = f refl;
          worked = z.before;
          motion = z.worked;
          zeros = z.zeros;
          within = subst (λ (x : Bounds3f). Subset3 x z.before) z.zeros (zeros_within v);
          around = subst (Subset3 z.before) z.zeros (zeros-around v);
        }
    go false f e = absurd (refused-bounds (cover_refusal b d) box e)

-- The box of an accepted cover has passed its own tests, and the depth is at most 12.
pub cover-box : (b : Bounds3f) (d : ℕ) → cover_refusal b d ≡ 0 → Bounds3f-refusal b ≡ 0
unfolding cover_refusal
cover-box b d = go (eqb (Bounds3f-refusal b) 0) (eqb-true (Bounds3f-refusal b) 0)
  where
    go : (c : Bool) → (c ≡ true → Bounds3f-refusal b ≡ 0) → cond c (cond (ltb max_depth d) 8 0) (Bounds3f-refusal b) ≡ 0 → Bounds3f-refusal b ≡ 0
    go true f e = f refl
    go false f e = e

pub cover-depth : (b : Bounds3f) (d : ℕ) → cover_refusal b d ≡ 0 → d ≤ max_depth
unfolding cover_refusal
cover-depth b d = go (eqb (Bounds3f-refusal b) 0) (ltb max_depth d) (eqb-false (Bounds3f-refusal b) 0) (ltb-false max_depth d)
  where
    go : (s t : Bool) → (s ≡ false → Bounds3f-refusal b ≡ 0 → ⊥) → (t ≡ false → d ≤ max_depth) → cond s (cond t 8 0) (Bounds3f-refusal b) ≡ 0 → d ≤ max_depth
    go true true f g e = absurd (eqb-false 8 0 refl e)
    go true false f g e = g refl
    go false t f g e = absurd (f refl e)

-- Of a point of the box the query answers what its work gives.
pub query-accepted : (m : AnimatedTransform) (b : Bounds3f) (d : ℕ) (box : Bounds3f) (time : Float) (p : Point3f)
    → AnimatedTransform-cover m b d ≡ Bounds box → T (not (is_nan time)) → Inside b p
    → AnimatedTransform-transform_point m time p ≡ AnimatedTransform-moved_point m (AnimatedTransform-constants m) time p
query-accepted m b d box time p e n i =
    let f = (refusal-accepted b (cover-box b d (cover-accepted m b d box e).arguments)).0 in
    let q = finite-test (point-finite (Bounds3f-intervals b) p (inside-encloses b f i)) in
    transform-point-accepted m time p (is_false (is_nan time) n) (is_true (Point3f-is_finite p) q)

pub cover-contains : (m : AnimatedTransform) (b : Bounds3f) (d : ℕ) → CoverContainsMotion m b (AnimatedTransform-cover m b d)
cover-contains m b d time p built e n i =
    let box = BoundsAnswer-bounds (AnimatedTransform-cover m b d) in
    let a = cover-answered m b d e in
    let c = cover-accepted m b d box a in
    let f = (refusal-accepted b (cover-box b d c.arguments)).0 in
    rw (query-accepted m b d box time p a n i) (moved-wider c.around ((motion-contains built b p f i d time n).holds c.worked c.motion))

-- Both clauses of the query's contract, from the first.
pub cover-clauses : {r : BoundsAnswer} (m : AnimatedTransform) (b : Bounds3f) (d : ℕ)
    → r ≡ AnimatedTransform-cover m b d → (r ≡ AnimatedTransform-cover m b d) × CoverContainsMotion m b r
cover-clauses m b d e = (e, subst (CoverContainsMotion m b) (sym e) (cover-contains m b d))
