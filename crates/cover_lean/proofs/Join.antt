-- Boxes joined by comparisons, in four lanes and then in pairs, lie in what holds each of them (`lanes-least`), and hold each of them (`lanes_start`,
-- `lanes-hold`). So they lie in and around the union in rising order: `lanes-same` where each lane starts from what stands before; `groups-same`
-- where lanes start from the first four boxes, and what stands before is joined at the end.
use Prim.Native.Nat.{ℕ, zero, suc, ◌+◌, ◌-◌, ◌*◌, ◌/◌, ◌%◌, ◌<◌}
use mathlib.Core.Path.{◌≡◌, refl, sym, ap, subst, ◌∙◌}
use mathlib.Core.List.{List, [], ◌∷◌}
use lib.ListN.{length, get_or}
use native.Mathlib.Omega.{arith}
use native.Mathlib.Decide.{dec_lt}
use Rattle.pose_lean.specs.control_flow.Loop.{loop}
use Rattle.dt_share.proofs.rounding.Order.{number-left}
use Rattle.pose_lean.specs.bounds3.declared.Bounds3f.{Bounds3f}
use Rattle.pose_lean.specs.bounds3.Point3f.{Point3f-min, Point3f-max}
use Rattle.pose_lean.specs.bounds3.Bounds3f.{Bounds3f-union_bounds}
use Rattle.pose_lean.specs.bounds3.Inside.{Subset}
use Rattle.pose_lean.proofs.bounds3.Union.{union-least, union_subset_left, union_subset_right, union-isotone}
use Rattle.pose_lean.proofs.interval_unjudged.Ordered.{lesser-min, greater-max}
use Rattle.pose_lean.specs.pose_steps.declared.IntervalVector.{IntervalVector}
use Rattle.pose_lean.specs.pose_steps.Enclose.{Bounds3f-intervals, IntervalVector-bounds}
use Rattle.cover_lean.specs.means.Union.{union_of, IntervalVector-join_ordered, stride, in_pairs}

-- A box that lies in itself has no NaN.
abbrev pub Self : Bounds3f → Type 0
Self b = Subset b b

-- ---- in rising order
pub of-self : (f : ℕ → Bounds3f) (u : Bounds3f) (n : ℕ) → Self u → ((i : ℕ) → i < n → Self (f i)) → Self (union_of f n u)
unfolding union_of
of-self f u zero s t = s
of-self f u (suc n) s t = union-isotone (of-self f u n s (λ i h. t i (omega (arith, h)))) (t n (omega arith))

pub of-least : (f : ℕ → Bounds3f) (u c : Bounds3f) (n : ℕ) → Subset u c → ((i : ℕ) → i < n → Subset (f i) c) → Subset (union_of f n u) c
unfolding union_of
of-least f u c zero s t = s
of-least f u c (suc n) s t = union-least (of-least f u c n s (λ i h. t i (omega (arith, h)))) (t n (omega arith))

pub of-start : (f : ℕ → Bounds3f) (u : Bounds3f) (n : ℕ) → Self u → Subset u (union_of f n u)
unfolding union_of
of-start f u zero s = s
of-start f u (suc n) s = union_subset_left (f n) (of-start f u n s)

pub of-holds : (f : ℕ → Bounds3f) (u : Bounds3f) (n : ℕ) → ((i : ℕ) → i < n → Self (f i)) → (i : ℕ) → i < n → Subset (f i) (union_of f n u)
unfolding union_of
of-holds f u zero t i h = absurd (omega (arith, h))
of-holds f u (suc n) t i h = go (dec_lt i n) (λ (l : i < n). of-holds f u n (λ j k. t j (omega (arith, k))) i l)
  where
    go : Dec (i < n) → (i < n → Subset (f i) (union_of f n u)) → Subset (f i) (Bounds3f-union_bounds (union_of f n u) (f n))
    go (yes l) k = union_subset_left (f n) (k l)
    go (no l) k = union_subset_right (union_of f n u) (subst (λ (j : ℕ). Subset (f i) (f j)) (let e : i ≡ n = omega (arith, h, l) in e) (t i h))

-- ---- by comparisons
pub join-box : (u v : IntervalVector) → Self (IntervalVector-bounds u)
    → IntervalVector-bounds (IntervalVector-join_ordered u v) ≡ Bounds3f-union_bounds (IntervalVector-bounds u) (IntervalVector-bounds v)
unfolding Bounds3f-union_bounds Point3f-min Point3f-max
join-box u v s =
    rw (
      lesser-min u.x.low v.x.low (number-left s.x.0),
      lesser-min u.y.low v.y.low (number-left s.y.0),
      lesser-min u.z.low v.z.low (number-left s.z.0),
      greater-max u.x.high v.x.high (number-left s.x.1),
      greater-max u.y.high v.y.high (number-left s.y.1),
      greater-max u.z.high v.z.high (number-left s.z.1),
    )

-- A lane.
module _ (f : ℕ → IntervalVector) (l : ℕ) (u : IntervalVector) (s : Self (IntervalVector-bounds u)) where
  stride-box : (n : ℕ) → ((g : ℕ) → g < n → Self (IntervalVector-bounds (f (4 * g + l))))
      → IntervalVector-bounds (stride f l n u) ≡ union_of (λ (g : ℕ). IntervalVector-bounds (f (4 * g + l))) n (IntervalVector-bounds u)
  unfolding loop union_of
  stride-box zero t = refl
  stride-box (suc n) t =
      let box : ℕ → Bounds3f = λ g. IntervalVector-bounds (f (4 * g + l)) in
      let before : (g : ℕ) → g < n → Self (IntervalVector-bounds (f (4 * g + l))) = λ i h. t i (omega (arith, h)) in
      let e = stride-box n before in
      join-box (stride f l n u) (f (4 * n + l)) (subst Self (sym e) (of-self box (IntervalVector-bounds u) n s before))
      ∙ ap (λ (b : Bounds3f). Bounds3f-union_bounds b (box n)) e

-- ---- four lanes, which start from s
module _ (f start : ℕ → IntervalVector) (n : ℕ) (s : (l : ℕ) → l < 4 → Self (IntervalVector-bounds (start l)))
    (t : (i : ℕ) → i < 4 * n → Self (IntervalVector-bounds (f i))) where
  abbrev box : ℕ → Bounds3f
  box i = IntervalVector-bounds (f i)

  abbrev lane : ℕ → IntervalVector
  lane l = stride f l n (start l)

  abbrev lane_box : ℕ → Bounds3f
  lane_box l = union_of (λ (g : ℕ). box (4 * g + l)) n (IntervalVector-bounds (start l))

  of-lane : (l : ℕ) → l < 4 → (g : ℕ) → g < n → Self (box (4 * g + l))
  of-lane l h g k = t (4 * g + l) (omega (arith, h, k))

  lane-box : (l : ℕ) → l < 4 → IntervalVector-bounds (lane l) ≡ lane_box l
  lane-box l h = stride-box f l (start l) (s l h) n (of-lane l h)

  lane-self : (l : ℕ) → l < 4 → Self (lane_box l)
  lane-self l h = of-self (λ (g : ℕ). box (4 * g + l)) (IntervalVector-bounds (start l)) n (s l h) (of-lane l h)

  pair-box : (l k : ℕ) → l < 4 → k < 4 → IntervalVector-bounds (IntervalVector-join_ordered (lane l) (lane k)) ≡ Bounds3f-union_bounds (lane_box l) (lane_box k)
  pair-box l k h i = join-box (lane l) (lane k) (subst Self (sym (lane-box l h)) (lane-self l h)) ∙ rw (lane-box l h, lane-box k i)

  abbrev paired : Bounds3f
  paired = Bounds3f-union_bounds (Bounds3f-union_bounds (lane_box 0) (lane_box 1)) (Bounds3f-union_bounds (lane_box 2) (lane_box 3))

  pub pairs-box : IntervalVector-bounds (in_pairs lane) ≡ paired
  pairs-box =
      let e = pair-box 0 1 (omega arith) (omega arith) in
      join-box (IntervalVector-join_ordered (lane 0) (lane 1)) (IntervalVector-join_ordered (lane 2) (lane 3))
      (subst Self (sym e) (union-isotone (lane-self 0 (omega arith)) (lane-self 1 (omega arith))))
      ∙ rw (e, pair-box 2 3 (omega arith) (omega arith))

  pub lanes-least : (c : Bounds3f) → ((l : ℕ) → l < 4 → Subset (IntervalVector-bounds (start l)) c) → ((i : ℕ) → i < 4 * n → Subset (box i) c)
      → Subset (IntervalVector-bounds (in_pairs lane)) c
  lanes-least c p q =
      let least : (l : ℕ) → l < 4 → Subset (lane_box l) c = λ l h.
      of-least (λ (g : ℕ). box (4 * g + l)) (IntervalVector-bounds (start l)) c n (p l h) (λ g k. q (4 * g + l) (omega (arith, h, k))) in
      subst (λ (b : Bounds3f). Subset b c) (sym pairs-box)
      (union-least (union-least (least 0 (omega arith)) (least 1 (omega arith))) (union-least (least 2 (omega arith)) (least 3 (omega arith))))

  in-first : {a : Bounds3f} → Subset a (lane_box 0) → Subset a paired
  in-first k = union_subset_left (Bounds3f-union_bounds (lane_box 2) (lane_box 3)) (union_subset_left (lane_box 1) k)

  in-second : {a : Bounds3f} → Subset a (lane_box 1) → Subset a paired
  in-second k = union_subset_left (Bounds3f-union_bounds (lane_box 2) (lane_box 3)) (union_subset_right (lane_box 0) k)

  in-third : {a : Bounds3f} → Subset a (lane_box 2) → Subset a paired
  in-third k = union_subset_right (Bounds3f-union_bounds (lane_box 0) (lane_box 1)) (union_subset_left (lane_box 3) k)

  in-fourth : {a : Bounds3f} → Subset a (lane_box 3) → Subset a paired
  in-fourth k = union_subset_right (Bounds3f-union_bounds (lane_box 0) (lane_box 1)) (union_subset_right (lane_box 2) k)

  in_lane : {a : Bounds3f} (l : ℕ) → l < 4 → Subset a (lane_box l) → Subset a paired
  in_lane zero h k = in-first k
  in_lane (suc zero) h k = in-second k
  in_lane (suc (suc zero)) h k = in-third k
  in_lane (suc (suc (suc zero))) h k = in-fourth k
  in_lane (suc (suc (suc (suc l)))) h k = absurd (omega (arith, h))

  pub lanes_start : (l : ℕ) → l < 4 → Subset (IntervalVector-bounds (start l)) (IntervalVector-bounds (in_pairs lane))
  lanes_start l h =
      subst (Subset (IntervalVector-bounds (start l))) (sym pairs-box)
      (in_lane l h (of-start (λ (g : ℕ). box (4 * g + l)) (IntervalVector-bounds (start l)) n (s l h)))

  pub lanes-hold : (i : ℕ) → i < 4 * n → Subset (box i) (IntervalVector-bounds (in_pairs lane))
  lanes-hold i h =
      let l = i % 4 in
      let g = i / 4 in
      let hl : l < 4 = omega arith in
      let hg : g < n = omega (arith, h) in
      let e : 4 * g + l ≡ i = omega arith in
      subst (Subset (box i)) (sym pairs-box)
      (subst (λ (j : ℕ). Subset (box j) paired) e
      (in_lane l hl (of-holds (λ (j : ℕ). box (4 * j + l)) (IntervalVector-bounds (start l)) n (of-lane l hl) g hg)))

-- ---- beside the union in rising order
-- Each box lies in the other.
pub record SameBox (a b : Bounds3f) : Type 0 where
  pub within : Subset a b
  pub around : Subset b a

module _ (f : ℕ → IntervalVector) (u : Bounds3f) (self : Self u) (g : ℕ) where
  abbrev boxes : ℕ → Bounds3f
  boxes i = IntervalVector-bounds (f i)

  pub lanes-same : ((i : ℕ) → i < 4 * g → Self (boxes i))
      → SameBox (union_of boxes (4 * g) u) (IntervalVector-bounds (in_pairs (λ (l : ℕ). stride f l g (Bounds3f-intervals u))))
  lanes-same t =
      let start : ℕ → IntervalVector = λ l. Bounds3f-intervals u in
      let lanes = IntervalVector-bounds (in_pairs (λ (l : ℕ). stride f l g (Bounds3f-intervals u))) in
      let whole = union_of boxes (4 * g) u in
      record {
        within = of-least boxes u lanes (4 * g) (lanes_start f start g (λ l h. self) t 0 (omega arith)) (lanes-hold f start g (λ l h. self) t);
        around = lanes-least f start g (λ l h. self) t whole (λ l h. of-start boxes u (4 * g) self) (of-holds boxes u (4 * g) t);
      }

  pub groups-same : ((i : ℕ) → i < 4 + 4 * g → Self (boxes i))
      → SameBox (union_of boxes (4 + 4 * g) u) (Bounds3f-union_bounds u (IntervalVector-bounds (in_pairs (λ (l : ℕ). stride (λ (i : ℕ). f (4 + i)) l g (f l)))))
  groups-same t =
      let later : ℕ → IntervalVector = λ i. f (4 + i) in
      let s : (l : ℕ) → l < 4 → Self (boxes l) = λ l h. t l (omega (arith, h)) in
      let t' : (i : ℕ) → i < 4 * g → Self (boxes (4 + i)) = λ i h. t (4 + i) (omega (arith, h)) in
      let lanes = IntervalVector-bounds (in_pairs (λ (l : ℕ). stride later l g (f l))) in
      let whole = union_of boxes (4 + 4 * g) u in
      record {
        within = of-least boxes u (Bounds3f-union_bounds u lanes) (4 + 4 * g) (union_subset_left lanes self)
            (λ i h. union_subset_right u (held lanes (lanes_start later f g s t') (lanes-hold later f g s t') i h));
        around = union-least (of-start boxes u (4 + 4 * g) self)
            (lanes-least later f g s t' whole (λ l h. of-holds boxes u (4 + 4 * g) t l (omega (arith, h)))
            (λ i h. of-holds boxes u (4 + 4 * g) t (4 + i) (omega (arith, h))));
      }
    where
      held : (lanes : Bounds3f) → ((l : ℕ) → l < 4 → Subset (boxes l) lanes) → ((i : ℕ) → i < 4 * g → Subset (boxes (4 + i)) lanes)
          → (i : ℕ) → i < 4 + 4 * g → Subset (boxes i) lanes
      held lanes p q i h = go (dec_lt i 4)
        where
          go : Dec (i < 4) → Subset (boxes i) lanes
          go (yes l) = p i l
          go (no l) = subst (λ (k : ℕ). Subset (boxes k) lanes) (let e : 4 + (i - 4) ≡ i = omega (arith, l) in e) (q (i - 4) (omega (arith, h, l)))

-- ---- a list, as pieces of a window are
unfoldable pub union_list : Bounds3f → List Bounds3f → Bounds3f
union_list u [] = u
union_list u (b ∷ l) = union_list (Bounds3f-union_bounds u b) l

first-apart : (f : ℕ → Bounds3f) (u : Bounds3f) (n : ℕ) → union_of f (suc n) u ≡ union_of (λ (i : ℕ). f (suc i)) n (Bounds3f-union_bounds u (f 0))
unfolding union_of
first-apart f u zero = refl
first-apart f u (suc n) = ap (λ (b : Bounds3f). Bounds3f-union_bounds b (f (suc n))) (first-apart f u n)

-- By place; d stands for what is not in the list.
pub list-places : (d u : Bounds3f) (l : List Bounds3f) → union_list u l ≡ union_of (λ (i : ℕ). get_or l i d) (length l) u
unfolding union_list union_of
list-places d u [] = refl
list-places d u (b ∷ l) = list-places d (Bounds3f-union_bounds u b) l ∙ sym (first-apart (λ (i : ℕ). get_or (b ∷ l) i d) u (length l))
