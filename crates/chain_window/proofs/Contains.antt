-- The guarantee for a window, `window-contains`. A time of the window belongs to one of the chain's moves (`chosen`), and
-- by where it lies in that move one of the window's boxes holds the moved point, less and plus its pad too (`some-box`):
-- the box of equal poses, a pose's box, or the piece of the share that dt lies in (`window-box`, with that it lies in the cover).
use Prim.Native.Nat.{ℕ}
use mathlib.Core.Path.{◌≡◌, refl, sym, subst, ◌∙◌}
use mathlib.Core.Bool.{Bool, true, false, not, cond, ◌&&◌, ◌||◌, true≢false}
use mathlib.Core.List.Memᴰ
use mathlib.Core.List.{List, [], ◌∷◌, ◌++◌, Memᴰ}
use lib.Dec.{T, eqb}
use lib.Ieee.{Float, lt, le, is_nan}
use lib.Ieee.Bits.{is_true, is_false}
use lib.Ieee.Fits.{and_i}
use borrow.Author.Tests.{eqb-true}
use Rattle.dt_share.proofs.refusal.First.{first-zero}
use Rattle.dt_share.specs.refusal.First.{first_refusal}
use Rattle.dt_share.specs.rounding.Order.{◌≼◌, Number}
use Rattle.dt_share.proofs.rounding.Order.{≼_trans, lt-≼, number-left, number-right, finite_number, not-lt-≼, or_left, or_right}
use Rattle.motion_chain.specs.bounds3.declared.Point3f.{Point3f}
use Rattle.motion_chain.specs.bounds3.declared.Bounds3f.{Bounds3f}
use Rattle.motion_chain.specs.bounds3.Bounds3f.{Bounds3f-default}
use Rattle.motion_chain.specs.bounds3.Finite.{Point3f-is_finite, Bounds3f-is_finite}
use Rattle.motion_chain.specs.bounds3.Inside.{Inside, Subset}
use Rattle.motion_chain.proofs.bounds3.Finite.{finite-test}
use Rattle.motion_chain.proofs.bounds3.Union.{subset-trans}
use Rattle.motion_chain.specs.transform.declared.BoundsAnswer.{BoundsAnswer}
use Rattle.motion_chain.specs.transform.declared.BoundsAnswer.TheVariants.{Bounds, Refused}
use Rattle.motion_chain.specs.transform.Answer.{PointAnswer, BoundsAnswer-refusal, BoundsAnswer-bounds}
use Rattle.motion_chain.specs.bounds_query.Query.{cover_refusal}
use Rattle.motion_chain.specs.bounds_query.Zeros.{BoundsAnswer-positive_zeros}
use Rattle.motion_chain.proofs.bounds_query.Accepted.{refusal-accepted}
use Rattle.motion_chain.proofs.bounds_query.Union.{refused-bounds}
use Rattle.motion_chain.proofs.bounds_query.Zeros.{zeros-accepted}
use Rattle.dt_share.specs.interval.declared.Interval.{Interval}
use Rattle.dt_share.specs.unit_interval.Unit.{dt}
use Rattle.motion_chain.specs.pose_steps.Pose.{Pose-moved_point}
use Rattle.motion_chain.specs.pose_steps.Enclose.{Bounds3f-intervals}
use Rattle.motion_chain.proofs.pose_steps.Box.{inside-encloses, point-finite}
use Rattle.motion_chain.specs.animated_transform.declared.AnimatedTransform.{AnimatedTransform}
use Rattle.motion_chain.specs.animated_transform.Built.{Built, AnimatedTransform-Judged}
use Rattle.motion_chain.proofs.animated_transform.Built.{built-judged}
use Rattle.motion_chain.specs.motion_point.TransformPoint.{AnimatedTransform-constants, AnimatedTransform-moved_point}
use Rattle.motion_chain.proofs.motion_point.Built.{built-valid, built-scales}
use Rattle.motion_chain.specs.motion_point.PadAt.{AnimatedTransform-pad_at}
use Rattle.motion_chain.proofs.motion_point.PadAt.{pad-at-equal, pad-at-start, pad-at-end, pad-at-between}
use Rattle.motion_chain.specs.motion_pad.Pad.{Pad-at}
use Rattle.motion_chain.proofs.motion_point.Query.{moved-point-start, moved-point-end, moved-point-between, transform-point-accepted}
use Rattle.motion_chain.specs.motion_cover.Cover.{AnimatedTransform-enclose_bounds}
use Rattle.motion_chain.specs.motion_cover.Theorem.{MovedInside}
use Rattle.motion_chain.proofs.motion_cover.Contains.{Holds, moved-wider, piece-contains, stored-contains, larger-judged, cover-box}
use Rattle.motion_chain.proofs.motion_cover.Zeros.{zeros-around}
use Rattle.motion_chain.specs.bounds_answers.UnionAll.{Each}
use Rattle.motion_chain.specs.Chain.{Chain, Chain-moves, move_from, Chain-move_at, Chain-transform_point, Chain-pad_at}
use Rattle.motion_chain.specs.Built.{BuiltChain, Contiguous}
use Rattle.motion_chain.proofs.Built.{built-moves}
use Rattle.dt_share.proofs.DtShare.{share-contains}
use Rattle.dt_share.proofs.Pieces.{pieces-part, pieces-cover}
use Rattle.window_times.specs.declared.Window.{Window}
use Rattle.window_times.specs.Window.{Window-refusal, Window-contains, Window-overlaps, Window-asks_first, Window-asks_end, Window-belongs}
use Rattle.chain_window.specs.Cover.{moves_in, stays_in, slice_boxes, first_pose_boxes, end_pose_boxes, equal_pose_boxes, start_box}
use Rattle.chain_window.specs.Cover.{end_box, equal_box, boxes_from, window_boxes, Chain-enclose_window, Chain-window_cover}
use Rattle.chain_window.specs.Theorem.{InWindow, BuiltMoves, built-chain, built-move, WindowContainsMotion}
use Rattle.chain_window.proofs.Members.{member-if}
use Rattle.chain_window.proofs.Parts.{default-valued, union-parts}
use Rattle.chain_window.proofs.Boxes.{Rising, move-part, boxes-valued, window-valued}
use Rattle.chain_window.proofs.Numbers.{window-numbered}

-- ---- comparisons
above : (x y : Float) → Number x → Number y → (x ≼ y → ⊥) → T (lt y x)
above x y n k h = go (lt y x) (λ t. h (not-lt-≼ x y n k t))
  where
    go : (b : Bool) → (T (not b) → ⊥) → T b
    go true f = tt
    go false f = absurd (f tt)

not-below : {x y : Float} → le x y ≡ false → x ≼ y → ⊥
not-below e h = subst T e h.holds

-- ---- the move that a time belongs to
-- `first` and `last` say whether it is the first and the last of m and the moves after it; `from_First` is what was said of m.
record Chosen (time : Float) (from_First : Bool) (m : AnimatedTransform) (moves : List AnimatedTransform) : Type 0 where
  first : Bool
  last : Bool
  member : (boxes : Bool → Bool → AnimatedTransform → List BoundsAnswer) (r : BoundsAnswer) → Memᴰ r (boxes first last (move_from m moves time))
      → Memᴰ r (boxes_from boxes from_First (m ∷ moves))
  is-first : first ≡ true → (from_First ≡ true) × (move_from m moves time ≡ m)
  after : first ≡ false → le time (move_from m moves time).start_time ≡ false
  until : last ≡ false → le time (move_from m moves time).end_time ≡ true
  built : Built (move_from m moves time)

module _ (time : Float) where
  chosen : (from_First : Bool) (s : Float) (m : AnimatedTransform) (moves : List AnimatedTransform) → Each Built (m ∷ moves) → Contiguous s (m ∷ moves)
      → (from_First ≡ false → le time m.start_time ≡ false) → Chosen time from_First m moves
  unfolding move_from boxes_from
  chosen f s m [] (h, _) c a = record {
    first = f;
    last = true;
    member = λ boxes r i. Memᴰ.append_left [] i;
    is-first = λ e. (e, refl);
    after = a;
    until = λ e. absurd (true≢false e);
    built = h;
  }
  chosen f s m (next ∷ moves) (h, hs) (e, r, c) a = go (le time m.end_time) refl (λ k. chosen false m.end_time next moves hs c (λ _. rw c.0 k))
    where
      go : (b : Bool) → le time m.end_time ≡ b → (le time m.end_time ≡ false → Chosen time false next moves) → Chosen time f m (next ∷ moves)
      go true k later =
          let x : move_from m (next ∷ moves) time ≡ m = unfold move_from in rw k in
          record {
            first = f;
            last = false;
            member = λ boxes r' i. unfold boxes_from in
                Memᴰ.append_left (boxes_from boxes false (next ∷ moves)) (subst (λ (z : AnimatedTransform). Memᴰ r' (boxes f false z)) x i);
            is-first = λ q. (q, x);
            after = λ q. rw x (a q);
            until = λ _. rw x k;
            built = rw x h;
          }
      go false k later =
          let x : move_from m (next ∷ moves) time ≡ move_from next moves time = unfold move_from in rw k in
          let l = later k in
          record {
            first = l.first;
            last = l.last;
            member = λ boxes r' i.
                unfold boxes_from in Memᴰ.append_right (boxes f false m)
                (l.member boxes r' (subst (λ (z : AnimatedTransform). Memᴰ r' (boxes l.first l.last z)) x i));
            is-first = λ q. absurd (true≢false (sym (l.is-first q).0));
            after = λ q. rw x (l.after q);
            until = λ q. rw x (l.until q);
            built = rw x l.built;
          }

  moves-chosen : {c : Chain} → BuiltMoves c → Chosen time true c.first c.rest
  unfolding move_from boxes_from
  moves-chosen {c} (built-chain b) =
      let k = built-moves b in
      chosen true c.first.start_time c.first c.rest k.each k.contiguous (λ e. absurd (true≢false e))
  moves-chosen (built-move m e h) =
      let own : Chosen time true m [] = record {
        first = true;
        last = true;
        member = λ boxes r i. Memᴰ.append_left [] i;
        is-first = λ q. (q, refl);
        after = λ q. absurd (true≢false q);
        until = λ q. absurd (true≢false q);
        built = h;
      } in
      subst (λ (x : Chain). Chosen time true x.first x.rest) (sym e) own

-- ---- a box of the window that holds the moved point, with its pad
record SomeBox (answers : List BoundsAnswer) (pad : Float) (point : PointAnswer) : Type 0 where
  answer : BoundsAnswer
  member : Memᴰ answer answers
  holds : Holds answer pad point

module _ (c : Chain) (b : Bounds3f) (d : ℕ) (w : Window) (r : BoundsAnswer) where
  abbrev slices : List BoundsAnswer
  slices = boxes_from (λ first last m. slice_boxes b d w m) true (Chain-moves c)

  abbrev ends : List BoundsAnswer
  ends = boxes_from (λ first last m. end_pose_boxes b w last m) true (Chain-moves c)

  abbrev equals : List BoundsAnswer
  equals = boxes_from (equal_pose_boxes b w) true (Chain-moves c)

  pub in-slices : Memᴰ r slices → Memᴰ r (window_boxes c b d w)
  unfolding window_boxes
  in-slices m = Memᴰ.append_left equals (Memᴰ.append_left ends (Memᴰ.append_left (first_pose_boxes b w c.first) m))

  pub in-first : Memᴰ r (first_pose_boxes b w c.first) → Memᴰ r (window_boxes c b d w)
  unfolding window_boxes
  in-first m = Memᴰ.append_left equals (Memᴰ.append_left ends (Memᴰ.append_right slices m))

  pub in-ends : Memᴰ r ends → Memᴰ r (window_boxes c b d w)
  unfolding window_boxes
  in-ends m = Memᴰ.append_left equals (Memᴰ.append_right (slices ++ first_pose_boxes b w c.first) m)

  pub in-equals : Memᴰ r equals → Memᴰ r (window_boxes c b d w)
  unfolding window_boxes
  in-equals m = Memᴰ.append_right (slices ++ first_pose_boxes b w c.first ++ ends) m

module _ {c : Chain} (built : BuiltMoves c) (b : Bounds3f) (fb : T (Bounds3f-is_finite b)) (d : ℕ)
    (w : Window) (time : Float) (t : InWindow w time) (p : Point3f) (i : Inside b p) where
  abbrev x : AnimatedTransform
  x = move_from c.first c.rest time

  abbrev point : PointAnswer
  point = AnimatedTransform-moved_point x (AnimatedTransform-constants x) time p

  abbrev here : Float
  here = AnimatedTransform-pad_at x time

  h : Chosen time true c.first c.rest
  h = moves-chosen time built

  start-number : Number x.start_time
  start-number = finite_number x.start_time (built-judged h.built).start-time

  end-number : Number x.end_time
  end-number = finite_number x.end_time (built-judged h.built).end-time

  starts-before : le time x.start_time ≡ false → T (lt x.start_time w.later)
  starts-before e = above w.later x.start_time (number-right t.until) start-number (λ k. not-below e (≼_trans t.until k))

  ends-after : le x.end_time time ≡ false → T (lt w.earlier x.end_time)
  ends-after e = above x.end_time w.earlier end-number (number-left t.from) (λ k. not-below e (≼_trans k t.from))

  belongs : T (Window-belongs w h.first h.last x.start_time x.end_time)
  belongs = and_i (h.first || lt x.start_time w.later) (h.last || le w.earlier x.end_time)
      (begun h.first h.after) (going h.last h.until)
    where
      begun : (f : Bool) → (f ≡ false → le time x.start_time ≡ false) → T (f || lt x.start_time w.later)
      begun true a = tt
      begun false a = starts-before (a refl)

      going : (l : Bool) → (l ≡ false → le time x.end_time ≡ true) → T (l || le w.earlier x.end_time)
      going true u = tt
      going false u = let k : time ≼ x.end_time = record { holds = rw (u refl) tt } in (≼_trans t.from k).holds

  -- equal poses, at any time that belongs to the move
  equal-box : x.actually_animated ≡ false → Memᴰ (equal_box x b) (equal_pose_boxes b w h.first h.last x)
  unfolding equal_pose_boxes
  equal-box e =
      member-if (stays_in w h.first h.last x)
      (and_i (not x.actually_animated) (Window-belongs w h.first h.last x.start_time x.end_time) (rw e tt) belongs) (Memᴰ.head refl)

  -- the first pose, up to its time
  first-box : le time x.start_time ≡ true → x ≡ c.first → Memᴰ (start_box x b) (first_pose_boxes b w c.first)
  unfolding first_pose_boxes
  first-box e q =
      subst (λ (y : AnimatedTransform). Memᴰ (start_box x b) (first_pose_boxes b w y)) q
      (member-if (Window-asks_first w x.start_time) (go (le x.start_time w.later) refl) (Memᴰ.head refl))
    where
      up : w.earlier ≼ x.start_time
      up = ≼_trans t.from (record { holds = rw e tt })

      go : (y : Bool) → le x.start_time w.later ≡ y → T (Window-asks_first w x.start_time)
      go true k = or_left (Window-contains w x.start_time) (lt w.earlier x.start_time)
          (and_i (le w.earlier x.start_time) (le x.start_time w.later) up.holds (rw k tt))
      go false k =
          or_right (Window-contains w x.start_time) (lt w.earlier x.start_time)
          (above x.start_time w.earlier start-number (number-left t.from) (λ l. not-below k (≼_trans l (≼_trans t.from t.until))))

  -- the pose at the move's end, from its time on
  end-box : le x.end_time time ≡ true → Memᴰ (end_box x b) (end_pose_boxes b w h.last x)
  unfolding end_pose_boxes
  end-box e = member-if (Window-asks_end w h.last x.end_time) (go (le w.earlier x.end_time) refl h.last h.until) (Memᴰ.head refl)
    where
      down : x.end_time ≼ w.later
      down = ≼_trans (record { holds = rw e tt }) t.until

      go : (y : Bool) → le w.earlier x.end_time ≡ y → (l : Bool) → (l ≡ false → le time x.end_time ≡ true)
          → T (Window-asks_end w l x.end_time)
      go true k l u =
          or_left (Window-contains w x.end_time) (l && lt x.end_time w.later)
          (and_i (le w.earlier x.end_time) (le x.end_time w.later) (rw k tt) down.holds)
      go false k true u =
          or_right (Window-contains w x.end_time) (lt x.end_time w.later)
          (above w.later x.end_time (number-right t.until) end-number (λ m. not-below k (≼_trans t.from (≼_trans t.until m))))
      go false k false u = absurd (not-below k (≼_trans t.from (record { holds = rw (u refl) tt })))

  -- between the two poses
  during-box : x.actually_animated ≡ true → le time x.start_time ≡ false → le x.end_time time ≡ false
      → SomeBox (slice_boxes b d w x) (Pad-at x.pad0 x.pad1 (dt x.start_time x.end_time time))
      (Pose-moved_point (AnimatedTransform-constants x) x.s0 x.s1 (dt x.start_time x.end_time time) p)
  unfolding slice_boxes
  during-box a e f =
      let j = built-judged h.built in
      let n = number-right t.from in
      let since = above time x.start_time n start-number (not-below e) in
      let before = above x.end_time time end-number n (not-below f) in
      let rise = above x.end_time x.start_time end-number start-number (λ k. not-below f (≼_trans k (lt-≼ x.start_time time since))) in
      let r : Rising x = record { built = h.built; rises = rise } in
      let part = move-part r w (≼_trans t.from t.until) in
      let in_share =
      share-contains x.start_time x.end_time j.start-time j.start-binary32
      j.end-time j.end-binary32 j.duration r.rises w.earlier w.later
      (≼_trans t.from t.until) time t.from t.until since before in
      let q = pieces-cover d part in_share in
      let (s0, s1) = built-scales h.built in
      let box : Interval → BoundsAnswer = λ D. AnimatedTransform-enclose_bounds x (AnimatedTransform-constants x) D b in
      let test : T (moves_in w x) =
      and_i x.actually_animated (Window-overlaps w x.start_time x.end_time) (rw a tt)
      (and_i (lt x.start_time w.later) (lt w.earlier x.end_time) (starts-before e) (ends-after f)) in
      record {
        answer = box q.piece;
        member = member-if (moves_in w x) test (Memᴰ.map box q.member);
        holds = piece-contains x (AnimatedTransform-constants x) (built-valid h.built) s0 s1
            j.pad0 j.pad1 b p fb i q.piece (dt x.start_time x.end_time time)
            (pieces-part d part q.piece q.member).unit.subset q.contains;
      }

  some-box : SomeBox (window_boxes c b d w) here point
  some-box = go x.actually_animated (le time x.start_time) (le x.end_time time) refl refl refl
    where
      j : AnimatedTransform-Judged x
      j = built-judged h.built

      same : {pad : Float} {q : PointAnswer} {r : BoundsAnswer} → here ≡ pad → point ≡ q → Holds r pad q → Holds r here point
      same {pad} {q} {r} f e k = subst (λ (y : Float). Holds r y point) (sym f) (subst (Holds r pad) (sym e) k)

      go : (a y z : Bool) → x.actually_animated ≡ a → le time x.start_time ≡ y → le x.end_time time ≡ z → SomeBox (window_boxes c b d w) here point
      go false y z e f g =
          record {
            answer = equal_box x b;
            member = in-equals c b d w (equal_box x b) (h.member (equal_pose_boxes b w) (equal_box x b) (equal-box e));
            holds = same (pad-at-equal x time e) (moved-point-start x (AnimatedTransform-constants x) time p (rw e))
                (stored-contains (larger-judged j.pad0 j.pad1) x.start_transform j.start b p fb i);
          }
      go true true z e f g = record {
        answer = start_box x b;
        member = in-first c b d w (start_box x b) (first-box f (first-move h.first h.is-first h.after));
        holds = same (pad-at-start x time e f) (moved-point-start x (AnimatedTransform-constants x) time p (rw (e, f)))
            (stored-contains j.pad0 x.start_transform j.start b p fb i);
      }
        where
          first-move : (s : Bool) → (s ≡ true → (true ≡ true) × (x ≡ c.first)) → (s ≡ false → le time x.start_time ≡ false) → x ≡ c.first
          first-move true k a = (k refl).1
          first-move false k a = absurd (true≢false (sym f ∙ a refl))
      go true false true e f g = record {
        answer = end_box x b;
        member = in-ends c b d w (end_box x b) (h.member (λ first last m. end_pose_boxes b w last m) (end_box x b) (end-box g));
        holds = same (pad-at-end x time e f g) (moved-point-end x (AnimatedTransform-constants x) time p (rw (e, f)) g)
            (stored-contains j.pad1 x.end_transform j.end b p fb i);
      }
      go true false false e f g =
          let s = during-box e f g in
          record {
            answer = s.answer;
            member = in-slices c b d w s.answer (h.member (λ first last m. slice_boxes b d w m) s.answer s.member);
            holds = same (pad-at-between x time e f g) (moved-point-between x (AnimatedTransform-constants x) time p (rw (e, f)) g) s.holds;
          }

-- ---- the query
-- The union as it was worked out lies in its box, whose zeros are +0.
pub record Accepted (c : Chain) (b : Bounds3f) (d : ℕ) (w : Window) (box : Bounds3f) : Type 0 where
  pub window : Window-refusal w ≡ 0
  pub arguments : cover_refusal b d ≡ 0
  pub worked : Bounds3f
  pub work : Chain-enclose_window c b d w ≡ Bounds worked
  pub around : Subset worked box

pub window-accepted : (c : Chain) (b : Bounds3f) (d : ℕ) (w : Window) (box : Bounds3f) → Chain-window_cover c b d w ≡ Bounds box → Accepted c b d w box
unfolding Chain-window_cover
window-accepted c b d w box = go (eqb n 0) (eqb-true n 0)
  where
    n : ℕ
    n = first_refusal (Window-refusal w) (cover_refusal b d)

    go : (t : Bool) → (t ≡ true → n ≡ 0) → cond t (BoundsAnswer-positive_zeros (Chain-enclose_window c b d w)) (Refused n) ≡ Bounds box → Accepted c b d w box
    go true f e =
        let (k, a) = first-zero (Window-refusal w) (cover_refusal b d) (f refl) in
        let z = zeros-accepted (Chain-enclose_window c b d w) box e in
        let v = (window-valued c b d w).values z.before z.worked in
        record { window = k; arguments = a; worked = z.before; work = z.worked; around = subst (Subset z.before) z.zeros (zeros-around v) }
    go false f e = absurd (refused-bounds n box e)

-- A box of the window, of those whose union is its cover, that holds the moved point, less and plus its pad too.
pub record WindowBox (c : Chain) (b : Bounds3f) (d : ℕ) (w : Window) (pad : Float) (point : PointAnswer) : Type 0 where
  pub box : Bounds3f
  pub member : Memᴰ (Bounds box) (window_boxes c b d w)
  pub subset : Subset box (BoundsAnswer-bounds (Chain-window_cover c b d w))
  pub moved : MovedInside box pad point

pub window-box : (c : Chain) (b : Bounds3f) (d : ℕ) (w : Window) (time : Float) (p : Point3f)
    → BuiltMoves c → BoundsAnswer-refusal (Chain-window_cover c b d w) ≡ 0 → InWindow w time → Inside b p
    → WindowBox c b d w (Chain-pad_at c time) (Chain-transform_point c time p)
unfolding Chain-transform_point Chain-pad_at Chain-move_at Chain-enclose_window
window-box c b d w time p built e t i =
    let box = BoundsAnswer-bounds (Chain-window_cover c b d w) in
    let a = window-accepted c b d w box ((window-numbered c b d w).none e) in
    let B = cover-box b d a.arguments in
    let f = (refusal-accepted b B).0 in
    let m = move_from c.first c.rest time in
    let s = some-box built b f d w time t p i in
    let parts = union-parts (Bounds Bounds3f-default) (window_boxes c b d w) a.worked default-valued (boxes-valued c b d w) a.work in
    let v = parts.1 s.answer s.member in
    let q = s.holds.holds v.box v.accepted in
    let finite = finite-test (point-finite (Bounds3f-intervals b) p (inside-encloses b f i)) in
    let same = transform-point-accepted m time p (is_false (is_nan time) (number-right t.from)) (is_true (Point3f-is_finite p) finite) in
    record {
      box = v.box;
      member = subst (λ (r : BoundsAnswer). Memᴰ r (window_boxes c b d w)) v.accepted s.member;
      subset = subset-trans v.subset a.around;
      moved = rw same q;
    }

pub window-contains : (c : Chain) (b : Bounds3f) (d : ℕ) (w : Window) → WindowContainsMotion c b w (Chain-window_cover c b d w)
window-contains c b d w time p built e t i = let s = window-box c b d w time p (built-chain built) e t i in moved-wider s.subset s.moved
