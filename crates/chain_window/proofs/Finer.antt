-- A finer cover of a window is never a wider one: `window-finer`. Only slices depend on the depth,
-- and a piece of a deeper cut lies in a piece of the shallower one: where each box at a depth lies in a box of some kind, so does each at a greater
-- depth, `boxes-finer`.
use Prim.Native.Nat.{ℕ, ◌+◌, ◌≤◌}
use mathlib.Core.Logic.{inl, inr}
use mathlib.Core.Path.{◌≡◌, refl, subst, ◌∙◌}
use mathlib.Core.Bool.{Bool, true, false, cond}
use mathlib.Core.List.Memᴰ
use mathlib.Core.List.{◌++◌, map, Memᴰ}
use lib.Dec.{T}
use lib.Ieee.{lt}
use borrow.Author.Tests.{eqb-false}
use Rattle.dt_share.specs.rounding.Order.{◌≼◌}
use Rattle.dt_share.proofs.rounding.Order.{lt-≼}
use Rattle.motion_chain.specs.bounds3.declared.Bounds3f.{Bounds3f}
use Rattle.motion_chain.specs.bounds3.Bounds3f.{Bounds3f-default}
use Rattle.motion_chain.proofs.bounds3.Union.{subset-trans}
use Rattle.motion_chain.specs.transform.declared.BoundsAnswer.{BoundsAnswer}
use Rattle.motion_chain.specs.transform.declared.BoundsAnswer.TheVariants.{Bounds}
use Rattle.motion_chain.specs.transform.Answer.{BoundsAnswer-bounds}
use Rattle.motion_chain.specs.bounds_query.Query.{max_depth, cover_refusal}
use Rattle.motion_chain.specs.bounds_query.Zeros.{Bounds3f-positive_zeros, BoundsAnswer-positive_zeros}
use Rattle.motion_chain.proofs.bounds_query.Zeros.{zeros-box}
use Rattle.dt_share.specs.interval.declared.Interval.{Interval}
use Rattle.motion_chain.specs.animated_transform.declared.AnimatedTransform.{AnimatedTransform}
use Rattle.motion_chain.specs.motion_point.TransformPoint.{AnimatedTransform-constants}
use Rattle.motion_chain.specs.motion_cover.Cover.{AnimatedTransform-enclose_bounds}
use Rattle.motion_chain.proofs.motion_cover.Contains.{cover-box}
use Rattle.motion_chain.proofs.motion_cover.Proper.{BoxRefines, box-refines}
use Rattle.motion_chain.proofs.motion_cover.Zeros.{zeros_within}
use Rattle.motion_chain.proofs.cover_depth.Finer.{BoxWithin, box-within, piece-isotone, arguments-finer}
use Rattle.motion_chain.proofs.bounds_answers.UnionAll.{union-all-within}
use Rattle.motion_chain.specs.Chain.{Chain, Chain-moves}
use Rattle.motion_chain.specs.Built.{BuiltChain}
use Rattle.dt_share.specs.Share.{pieces}
use Rattle.dt_share.proofs.Pieces.{pieces-part, pieces-finer}
use Rattle.window_times.specs.declared.Window.{Window}
use Rattle.window_times.specs.Window.{Window-refusal}
use Rattle.chain_window.specs.Cover.{moves_in, share_in, slice_boxes, first_pose_boxes, end_pose_boxes}
use Rattle.chain_window.specs.Cover.{boxes_from, window_boxes, Chain-enclose_window, Chain-window_cover}
use Rattle.chain_window.specs.Theorem.{WindowCoverFiner}
use Rattle.chain_window.proofs.Members.{member-if, member-only, each_member, boxes-along}
use Rattle.chain_window.proofs.Parts.{default-valued, union-parts}
use Rattle.chain_window.proofs.Boxes.{Rising, chain-rising, move-part, boxes-valued, window-valued}
use Rattle.chain_window.proofs.Contains.{in-slices, in-first, in-ends, in-equals, window-accepted}
use Rattle.chain_window.proofs.Numbers.{window-numbered}

-- The answer is a box and lies in a box of a kind: in one box alone, or in one of the boxes at the lesser depth.
pub record WithinSome (Kind : Bounds3f → Type 0) (r : BoundsAnswer) : Type 0 where
  pub whole : Bounds3f
  pub kind : Kind whole
  pub within : BoxWithin r whole

module _ (b : Bounds3f) (ok : BoxRefines b) (w : Window) (rise : w.earlier ≼ w.later) (d n : ℕ) (Kind : Bounds3f → Type 0) where
  slices-finer : (first last : Bool) (m : AnimatedTransform) → Rising m → ((r : BoundsAnswer) → Memᴰ r (slice_boxes b d w m) → WithinSome Kind r)
      → (r : BoundsAnswer) → Memᴰ r (slice_boxes b (d + n) w m) → WithinSome Kind r
  unfolding slice_boxes
  slices-finer first last m h coarse r i =
      let f : Interval → BoundsAnswer = λ D. AnimatedTransform-enclose_bounds m (AnimatedTransform-constants m) D b in
      let part = move-part h w rise in
      let (t, k) = member-only (map f (pieces (d + n) (share_in w m))) (moves_in w m) i in
      let (D, j, e) = Memᴰ.of_map f (pieces (d + n) (share_in w m)) k in
      let cut = pieces-finer d n part D j in
      let u = (pieces-part d part cut.piece cut.member).unit.subset in
      let v = coarse (f cut.piece) (member-if (moves_in w m) t (Memᴰ.map f cut.member)) in
      record {
        whole = v.whole;
        kind = v.kind;
        within = subst (λ (x : BoundsAnswer). BoxWithin x v.whole) e
            (piece-isotone h.built b ok D cut.piece v.whole cut.subset u v.within);
      }

  pub boxes-finer : {c : Chain} → BuiltChain c → ((r : BoundsAnswer) → Memᴰ r (window_boxes c b d w) → WithinSome Kind r)
      → (r : BoundsAnswer) → Memᴰ r (window_boxes c b (d + n) w) → WithinSome Kind r
  unfolding window_boxes
  boxes-finer {c} built coarse r i =
      let slices = boxes_from (λ first last m. slice_boxes b (d + n) w m) true (Chain-moves c) in
      let poses = slices ++ first_pose_boxes b w c.first in
      let ends = boxes_from (λ first last m. end_pose_boxes b w last m) true (Chain-moves c) in
      elim (Memᴰ.append_cases (poses ++ ends) i) [
        | inl j ↦ elim (Memᴰ.append_cases poses j) [
          | inl k ↦ elim (Memᴰ.append_cases slices k) [
            | inl l ↦
                boxes-along Rising (WithinSome Kind) (λ first last m. slice_boxes b d w m)
                (λ first last m. slice_boxes b (d + n) w m) slices-finer true (Chain-moves c)
                (chain-rising built) (λ s m. coarse s (in-slices c b d w s m)) r l
            | inr l ↦ coarse r (in-first c b d w r l)
          ]
          | inr k ↦ coarse r (in-ends c b d w r k)
        ]
        | inr j ↦ coarse r (in-equals c b d w r j)
      ]

pub window-box-finer : {c : Chain} → BuiltChain c → (b : Bounds3f) (w : Window) (d n : ℕ) (box : Bounds3f) → w.earlier ≼ w.later → d + n ≤ max_depth
    → Chain-window_cover c b d w ≡ Bounds box → BoxWithin (Chain-window_cover c b (d + n) w) box
unfolding Chain-enclose_window
window-box-finer {c} built b w d n box rise l e =
    let a = window-accepted c b d w box e in
    let B = cover-box b d a.arguments in
    let ok = box-refines b B in
    let (empty, coarse) = union-parts (Bounds Bounds3f-default) (window_boxes c b d w) a.worked default-valued (boxes-valued c b d w) a.work in
    let whole : (r : BoundsAnswer) → Memᴰ r (window_boxes c b d w) → WithinSome (λ (x : Bounds3f). x ≡ a.worked) r =
    λ r m. record { whole = a.worked; kind = refl; within = coarse r m } in
    let fine : (r : BoundsAnswer) → Memᴰ r (window_boxes c b (d + n) w) → BoxWithin r a.worked =
    λ r m. let v = boxes-finer b ok w rise d n (λ (x : Bounds3f). x ≡ a.worked) built whole r m in subst (BoxWithin r) v.kind v.within in
    let f = union-all-within a.worked (Bounds Bounds3f-default) (window_boxes c b (d + n) w) empty (each_member (window_boxes c b (d + n) w) fine) in
    let v = (window-valued c b (d + n) w).values f.box f.accepted in
    record {
      box = Bounds3f-positive_zeros f.box;
      accepted = accepted a.window (arguments-finer b (d + n) B l) ∙ zeros-box f.accepted;
      subset = subset-trans (zeros_within v) (subset-trans f.subset a.around);
    }
  where
    accepted : Window-refusal w ≡ 0 → cover_refusal b (d + n) ≡ 0
        → Chain-window_cover c b (d + n) w ≡ BoundsAnswer-positive_zeros (Chain-enclose_window c b (d + n) w)
    accepted p q = unfold Chain-window_cover in rw (p, q)

-- Ticks that are not refused rise.
pub window-rises : (w : Window) → Window-refusal w ≡ 0 → w.earlier ≼ w.later
window-rises w = go (lt w.earlier w.later) (lt-≼ w.earlier w.later)
  where
    go : (t : Bool) → (T t → w.earlier ≼ w.later) → ◌≡◌ {A = ℕ} (cond t 0 21) 0 → w.earlier ≼ w.later
    go true f e = f tt
    go false f e = absurd (eqb-false 21 0 refl e)

pub window-finer : (c : Chain) (b : Bounds3f) (w : Window) → WindowCoverFiner c b w
window-finer c b w d n built l e =
    let box = BoundsAnswer-bounds (Chain-window_cover c b d w) in
    let a = (window-numbered c b d w).none e in
    box-within (window-box-finer built b w d n box (window-rises w (window-accepted c b d w box a).window) l a)
