-- The boxes of pieces joined lane by lane, four neighbouring pieces at a time, lie in and around their union in rising order: `halves-same`.
use Prim.Native.Nat.{ℕ, zero, suc}
use mathlib.Core.Path.{◌≡◌, refl, sym, ap, subst, ◌∙◌}
use mathlib.Core.Logic.{inl, inr}
use mathlib.Core.List.Memᴰ
use mathlib.Core.List.{List, [], ◌∷◌, map, Memᴰ}
use lib.Ieee.{Float}
use Rattle.bounds3.specs.declared.Bounds3f.{Bounds3f}
use Rattle.bounds3.specs.Bounds3f.{Bounds3f-union_bounds}
use Rattle.bounds3.specs.Inside.{Subset}
use Rattle.bounds3.proofs.Union.{subset-trans, union-least, union_subset_left, union_subset_right, union-isotone}
use Rattle.interval.specs.declared.Interval.{Interval}
use Rattle.interval.specs.Interval.{Interval-midpoint}
use Rattle.dt_pieces.specs.dt_share.Share.{lower_half, upper_half, pieces}
use Rattle.pose_steps.specs.declared.IntervalVector.{IntervalVector}
use Rattle.pose_steps.specs.Enclose.{Bounds3f-intervals, IntervalVector-bounds}
use Rattle.window_groups.specs.lanes.means.Lanes.{Lane, first, second, third, fourth, Lanes-of, Interval-join, Lanes-joined}
use Rattle.window_groups.specs.lanes_rotation.means.Matrices.{LanesVector-of}
use Rattle.window_groups.specs.lanes_box.means.Boxes.{IntervalVector-join, LanesVector-joined}
use Rattle.cover_test.specs.cover_lean.means.Union.{IntervalVector-join_ordered}
use Rattle.cover_test.proofs.cover_lean.Join.{Self, SameBox, join-box, union_list}
use Rattle.window_groups.specs.means.Halves.{between, quarter, fold_halves, join_quarter, lane_halves}

-- ---- a list
module _ (box : Interval → Bounds3f) where
  pub list-least : (u c : Bounds3f) (l : List Interval) → Subset u c → ((D : Interval) → Memᴰ D l → Subset (box D) c) → Subset (union_list u (map box l)) c
  unfolding union_list
  list-least u c [] s t = s
  list-least u c (D ∷ l) s t =
      list-least (Bounds3f-union_bounds u (box D)) c l (union-least s (t D (Memᴰ.head refl))) (λ E k. t E (Memᴰ.tail k))

  pub list-start : (u : Bounds3f) (l : List Interval) → Self u → ((D : Interval) → Memᴰ D l → Self (box D)) → Subset u (union_list u (map box l))
  unfolding union_list
  list-start u [] s t = s
  list-start u (D ∷ l) s t =
      subset-trans (union_subset_left (box D) s)
      (list-start (Bounds3f-union_bounds u (box D)) l (union-isotone s (t D (Memᴰ.head refl))) (λ E k. t E (Memᴰ.tail k)))

  pub list-holds : (u : Bounds3f) (l : List Interval) → Self u → ((D : Interval) → Memᴰ D l → Self (box D))
      → (D : Interval) → Memᴰ D l → Subset (box D) (union_list u (map box l))
  unfolding union_list
  list-holds u [] s t D k = absurd (Memᴰ.not-nil k)
  list-holds u (E ∷ l) s t D k =
      let own = t E (Memᴰ.head refl) in
      let joined : Self (Bounds3f-union_bounds u (box E)) = union-isotone s own in
      let later : (F : Interval) → Memᴰ F l → Self (box F) = λ F m. t F (Memᴰ.tail m) in
      elim (Memᴰ.cases_cons k) [
        | inl e ↦ subst (λ (F : Interval). Subset (box F) (union_list (Bounds3f-union_bounds u (box E)) (map box l))) (sym e)
            (subset-trans (union_subset_right u own) (list-start (Bounds3f-union_bounds u (box E)) l joined later))
        | inr m ↦ list-holds (Bounds3f-union_bounds u (box E)) l joined later D m
      ]

-- ---- four lanes
abbrev paired : (Lane → Bounds3f) → Bounds3f
paired g = Bounds3f-union_bounds (Bounds3f-union_bounds (g first) (g second)) (Bounds3f-union_bounds (g third) (g fourth))

paired-least : (g : Lane → Bounds3f) (c : Bounds3f) → ((l : Lane) → Subset (g l) c) → Subset (paired g) c
paired-least g c s = union-least (union-least (s first) (s second)) (union-least (s third) (s fourth))

paired-isotone : (g h : Lane → Bounds3f) → ((l : Lane) → Subset (g l) (h l)) → Subset (paired g) (paired h)
paired-isotone g h s = union-isotone (union-isotone (s first) (s second)) (union-isotone (s third) (s fourth))

in_lane : {a : Bounds3f} (g : Lane → Bounds3f) (l : Lane) → Subset a (g l) → Subset a (paired g)
in_lane g first s = union_subset_left (Bounds3f-union_bounds (g third) (g fourth)) (union_subset_left (g second) s)
in_lane g second s = union_subset_left (Bounds3f-union_bounds (g third) (g fourth)) (union_subset_right (g first) s)
in_lane g third s = union_subset_right (Bounds3f-union_bounds (g first) (g second)) (union_subset_left (g fourth) s)
in_lane g fourth s = union_subset_right (Bounds3f-union_bounds (g first) (g second)) (union_subset_right (g third) s)

joined-box : (v : Lane → IntervalVector) → ((l : Lane) → Self (IntervalVector-bounds (v l)))
    → LanesVector-joined (LanesVector-of v) ≡ paired (λ (l : Lane). IntervalVector-bounds (v l))
unfolding LanesVector-joined Lanes-joined LanesVector-of Lanes-of Interval-join
joined-box v s =
    let e = join-box (v first) (v second) (s first) in
    let f = join-box (v third) (v fourth) (s third) in
    join-box (IntervalVector-join_ordered (v first) (v second)) (IntervalVector-join_ordered (v third) (v fourth))
    (subst Self (sym e) (union-isotone (s first) (s second)))
    ∙ rw (e, f)

-- ---- pieces
-- P of every piece.
abbrev Every : (Interval → Type 0) → ℕ → Interval → Type 0
Every P d i = (D : Interval) → Memᴰ D (pieces (suc (suc d)) i) → P D

lower-every : (P : Interval → Type 0) (d : ℕ) (i : Interval) → Every P (suc d) i → Every P d (lower_half i)
unfolding pieces
lower-every P d i t D k = t D (Memᴰ.append_left (pieces (suc (suc d)) (upper_half i)) k)

upper-every : (P : Interval → Type 0) (d : ℕ) (i : Interval) → Every P (suc d) i → Every P d (upper_half i)
unfolding pieces
upper-every P d i t D k = t D (Memᴰ.append_right (pieces (suc (suc d)) (lower_half i)) k)

quarter-every : (P : Interval → Type 0) (i : Interval) → Every P 0 i → (l : Lane) → P (quarter l i)
unfolding pieces
quarter-every P i t first = t (quarter first i) (Memᴰ.head refl)
quarter-every P i t second = t (quarter second i) (Memᴰ.tail (Memᴰ.head refl))
quarter-every P i t third = t (quarter third i) (Memᴰ.tail (Memᴰ.tail (Memᴰ.head refl)))
quarter-every P i t fourth = t (quarter fourth i) (Memᴰ.tail (Memᴰ.tail (Memᴰ.tail (Memᴰ.head refl))))

-- The four pieces of an interval are its quarters.
every-quarter : (P : Interval → Type 0) (i : Interval) → ((l : Lane) → P (quarter l i)) → Every P 0 i
unfolding pieces
every-quarter P i t D k =
    elim (Memᴰ.cases_cons k) [
      | inl e ↦ subst P (sym e) (t first)
      | inr k2 ↦ elim (Memᴰ.cases_cons k2) [
        | inl e ↦ subst P (sym e) (t second)
        | inr k3 ↦ elim (Memᴰ.cases_cons k3) [
          | inl e ↦ subst P (sym e) (t third)
          | inr k4 ↦ elim (Memᴰ.cases_cons k4) [
            | inl e ↦ subst P (sym e) (t fourth)
            | inr k5 ↦ absurd (Memᴰ.not-nil k5)
          ]
        ]
      ]
    ]

-- ---- a lane's boxes
module _ (f : Interval → IntervalVector) where
  abbrev box : Interval → Bounds3f
  box D = IntervalVector-bounds (f D)

  abbrev Selves : ℕ → Interval → Type 0
  Selves = Every (λ (D : Interval). Self (box D))

  abbrev lane_box : Lane → ℕ → Float → Float → Bounds3f → Bounds3f
  lane_box l = fold_halves (λ (low high : Float) (u : Bounds3f). Bounds3f-union_bounds u (box (quarter l (between low high))))

  lane-self : (l : Lane) (d : ℕ) (low high : Float) (u : Bounds3f) → Self u → Selves d (between low high) → Self (lane_box l d low high u)
  unfolding fold_halves
  lane-self l zero low high u s t = union-isotone s (quarter-every (λ (D : Interval). Self (box D)) (between low high) t l)
  lane-self l (suc d) low high u s t =
      let mid = Interval-midpoint (between low high) in
      let P : Interval → Type 0 = λ D. Self (box D) in
      lane-self l d mid high (lane_box l d low mid u) (lane-self l d low mid u s (lower-every P d (between low high) t)) (upper-every P d (between low high) t)

  lane-box : (l : Lane) (d : ℕ) (low high : Float) (u : IntervalVector) → Self (IntervalVector-bounds u) → Selves d (between low high)
      → IntervalVector-bounds (fold_halves (join_quarter f l) d low high u) ≡ lane_box l d low high (IntervalVector-bounds u)
  unfolding fold_halves join_quarter IntervalVector-join Interval-join
  lane-box l zero low high u s t = join-box u (f (quarter l (between low high))) s
  lane-box l (suc d) low high u s t =
      let mid = Interval-midpoint (between low high) in
      let P : Interval → Type 0 = λ D. Self (box D) in
      let lower = lower-every P d (between low high) t in
      let e = lane-box l d low mid u s lower in
      lane-box l d mid high (fold_halves (join_quarter f l) d low mid u) (subst Self (sym e) (lane-self l d low mid (IntervalVector-bounds u) s lower))
      (upper-every P d (between low high) t)
      ∙ ap (lane_box l d mid high) e

  lane-least : (c : Bounds3f) (l : Lane) (d : ℕ) (low high : Float) (u : Bounds3f) → Subset u c
      → Every (λ (D : Interval). Subset (box D) c) d (between low high) → Subset (lane_box l d low high u) c
  unfolding fold_halves
  lane-least c l zero low high u s t = union-least s (quarter-every (λ (D : Interval). Subset (box D) c) (between low high) t l)
  lane-least c l (suc d) low high u s t =
      let mid = Interval-midpoint (between low high) in
      let P : Interval → Type 0 = λ D. Subset (box D) c in
      lane-least c l d mid high (lane_box l d low mid u) (lane-least c l d low mid u s (lower-every P d (between low high) t))
      (upper-every P d (between low high) t)

  lane-start : (l : Lane) (d : ℕ) (low high : Float) (u : Bounds3f) → Self u → Selves d (between low high) → Subset u (lane_box l d low high u)
  unfolding fold_halves
  lane-start l zero low high u s t = union_subset_left (box (quarter l (between low high))) s
  lane-start l (suc d) low high u s t =
      let mid = Interval-midpoint (between low high) in
      let P : Interval → Type 0 = λ D. Self (box D) in
      let lower = lower-every P d (between low high) t in
      subset-trans (lane-start l d low mid u s lower)
      (lane-start l d mid high (lane_box l d low mid u) (lane-self l d low mid u s lower) (upper-every P d (between low high) t))

  lanes-hold : (d : ℕ) (low high : Float) (g : Lane → Bounds3f) → ((l : Lane) → Self (g l)) → Selves d (between low high)
      → Every (λ (D : Interval). Subset (box D) (paired (λ (l : Lane). lane_box l d low high (g l)))) d (between low high)
  unfolding fold_halves pieces
  lanes-hold zero low high g s t =
      let i = between low high in
      let end : Lane → Bounds3f = λ l. Bounds3f-union_bounds (g l) (box (quarter l i)) in
      every-quarter (λ (D : Interval). Subset (box D) (paired end)) i
      (λ (l : Lane). in_lane end l (union_subset_right (g l) (quarter-every (λ (D : Interval). Self (box D)) i t l)))
  lanes-hold (suc d) low high g s t = λ D k.
      let i = between low high in
      let mid = Interval-midpoint i in
      let P : Interval → Type 0 = λ E. Self (box E) in
      let lower = lower-every P d i t in
      let upper = upper-every P d i t in
      let half : Lane → Bounds3f = λ l. lane_box l d low mid (g l) in
      let end : Lane → Bounds3f = λ l. lane_box l d mid high (half l) in
      let own : (l : Lane) → Self (half l) = λ l. lane-self l d low mid (g l) (s l) lower in
      elim (Memᴰ.append_cases (pieces (suc (suc d)) (lower_half i)) k) [
        | inl m ↦ subset-trans (lanes-hold d low mid g s lower D m) (paired-isotone half end (λ (l : Lane). lane-start l d mid high (half l) (own l) upper))
        | inr m ↦ lanes-hold d mid high half own upper D m
      ]

  -- ---- beside the union in rising order
  pub halves-same : (d : ℕ) (i : Interval) (u : Bounds3f) → Self u → Selves d i
      → SameBox (union_list u (map box (pieces (suc (suc d)) i))) (LanesVector-joined (LanesVector-of (lane_halves f d i (Bounds3f-intervals u))))
  unfolding lane_halves
  halves-same d i u s t =
      let low = i.low in
      let high = i.high in
      let v : Lane → IntervalVector = λ l. fold_halves (join_quarter f l) d low high (Bounds3f-intervals u) in
      let end : Lane → Bounds3f = λ l. lane_box l d low high u in
      let e : (l : Lane) → IntervalVector-bounds (v l) ≡ end l = λ l. lane-box l d low high (Bounds3f-intervals u) s t in
      let whole = union_list u (map box (pieces (suc (suc d)) i)) in
      let same : LanesVector-joined (LanesVector-of v) ≡ paired end =
      joined-box v (λ (l : Lane). subst Self (sym (e l)) (lane-self l d low high u s t)) ∙ rw (e first, e second, e third, e fourth) in
      subst (SameBox whole) (sym same)
      (record {
        within = list-least box u (paired end) (pieces (suc (suc d)) i) (in_lane end first (lane-start first d low high u s t))
            (lanes-hold d low high (λ (l : Lane). u) (λ (l : Lane). s) t);
        around = paired-least end whole (λ (l : Lane). lane-least whole l d low high u (list-start box u (pieces (suc (suc d)) i) s t)
            (list-holds box u (pieces (suc (suc d)) i) s t));
      })
