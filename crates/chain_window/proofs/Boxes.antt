-- The boxes of a window. Each has grown by a pad, so that the corners of those that are answered are finite values of binary32
-- (`boxes-valued`), and so are their union's (`window-valued`); those that are refused are so with 5 or 10 (`boxes-numbered`).
-- A move's share of dt is a part of the unit interval (`move-part`).
use Prim.Native.Nat.{ℕ}
use mathlib.Core.Logic.{inl, inr}
use mathlib.Core.Path.{◌≡◌, refl, sym, subst}
use mathlib.Core.Bool.{Bool, true, false, cond}
use mathlib.Core.List.Memᴰ
use mathlib.Core.List.{List, [], ◌∷◌, ◌++◌, map, Memᴰ}
use native.Mathlib.Omega.{arith}
use borrow.Author.Tests.{eqb-false}
use lib.Dec.{T, eqb}
use lib.Ieee.{Float, lt}
use Rattle.dt_share.specs.rounding.Order.{◌≼◌}
use Rattle.dt_share.specs.float32.MinMax.{max_num}
use Rattle.motion_chain.specs.bounds3.declared.Bounds3f.{Bounds3f}
use Rattle.motion_chain.specs.bounds3.Bounds3f.{Bounds3f-default}
use Rattle.motion_chain.specs.transform.declared.Transform.{Transform}
use Rattle.motion_chain.specs.transform.declared.BoundsAnswer.{BoundsAnswer}
use Rattle.motion_chain.specs.transform.declared.BoundsAnswer.TheVariants.{Bounds, Refused}
use Rattle.motion_chain.specs.transform.Answer.{OneOf}
use Rattle.dt_share.specs.interval.declared.Interval.{Interval}
use Rattle.dt_share.specs.interval.Judged.{Judged}
use Rattle.motion_chain.specs.pose_steps.Judged.{JudgedVector}
use Rattle.motion_chain.specs.pose_steps.Enclose.{IntervalMatrix-point, Pose-enclose_point, Bounds3f-intervals, IntervalVector-bounds}
use Rattle.motion_chain.specs.pose_steps.Promise.{SliceNumber}
use Rattle.motion_chain.proofs.pose_steps.Number.{transform_point-number, point-number}
use Rattle.motion_chain.specs.stored_box.EnclosePoints.{Transform-enclose_points}
use Rattle.motion_chain.specs.animated_transform.declared.AnimatedTransform.{AnimatedTransform}
use Rattle.motion_chain.specs.animated_transform.Built.{Built}
use Rattle.motion_chain.proofs.animated_transform.Built.{built-judged}
use Rattle.motion_chain.specs.motion_point.TransformPoint.{AnimatedTransform-constants}
use Rattle.motion_chain.specs.motion_pad.Pad.{Pad-enclose, Pad-stored}
use Rattle.motion_chain.specs.motion_pad.Grow.{BoundsAnswer-grow}
use Rattle.motion_chain.proofs.motion_pad.Pad.{PadNumber, pad-number as pad-enclose-number}
use Rattle.motion_chain.proofs.motion_pad.Box.{grow-cases}
use Rattle.motion_chain.specs.motion_cover.Cover.{BoundsAnswer-from_enclosure, Transform-enclose_bounds, Transform-enclose_padded, AnimatedTransform-enclose_bounds}
use Rattle.motion_chain.specs.motion_cover.Answer.{BoundsAnswer-Numbered}
use Rattle.motion_chain.proofs.motion_cover.Zeros.{Valued, grow-valued, union-valued}
use Rattle.motion_chain.specs.bounds_answers.UnionAll.{Each}
use Rattle.motion_chain.proofs.bounds_answers.UnionAll.{union-all-keeps}
use Rattle.motion_chain.specs.Chain.{Chain, Chain-moves}
use Rattle.motion_chain.specs.Built.{BuiltChain, Contiguous}
use Rattle.motion_chain.proofs.Built.{built-moves}
use Rattle.dt_share.specs.Share.{pieces}
use Rattle.dt_share.proofs.DtShare.{share_part}
use Rattle.dt_share.specs.means.Part.{UnitPart}
use Rattle.window_times.specs.declared.Window.{Window}
use Rattle.window_times.specs.Window.{Window-asks_first, Window-asks_end}
use Rattle.chain_window.specs.Cover.{moves_in, share_in, stays_in, slice_boxes, first_pose_boxes, end_pose_boxes, equal_pose_boxes, boxes_from, window_boxes}
use Rattle.chain_window.specs.Cover.{Chain-enclose_window}
use Rattle.chain_window.proofs.Members.{member-only, each_member, boxes-each}
use Rattle.chain_window.proofs.Parts.{default-valued}

-- ---- a move of a chain
pub record Rising (m : AnimatedTransform) : Type 0 where
  pub built : Built m
  pub rises : T (lt m.start_time m.end_time)

pub rising-moves : (time : Float) (moves : List AnimatedTransform) → Each Built moves → Contiguous time moves → Each Rising moves
rising-moves time [] b c = tt
rising-moves time (m ∷ moves) (b, bs) (e, r, c) = (record { built = b; rises = r }, rising-moves m.end_time moves bs c)

pub chain-rising : {c : Chain} → BuiltChain c → Each Rising (Chain-moves c)
chain-rising {c} built = let k = built-moves built in rising-moves c.first.start_time (Chain-moves c) k.each k.contiguous

pub move-part : {m : AnimatedTransform} → Rising m → (w : Window) → w.earlier ≼ w.later → UnitPart (share_in w m)
move-part {m} r w h =
    let j = built-judged r.built in
    share_part m.start_time m.end_time j.start-time j.start-binary32
    j.end-time j.end-binary32 j.duration r.rises w.earlier w.later h

-- ---- which list a box stands in
-- What holds of every box that has grown holds of all boxes of the window.
module _ (Q : BoundsAnswer → Type 0)
    (grown : (pad : Judged) (j : JudgedVector) → PadNumber pad.refusal → SliceNumber j.refusal → Q (BoundsAnswer-grow pad (BoundsAnswer-from_enclosure j)))
    (c : Chain) (b : Bounds3f) (d : ℕ) (w : Window) where
  piece-grown : (m : AnimatedTransform) (D : Interval) → Q (AnimatedTransform-enclose_bounds m (AnimatedTransform-constants m) D b)
  unfolding AnimatedTransform-enclose_bounds
  piece-grown m D =
      let a = AnimatedTransform-constants m in
      let B = Bounds3f-intervals b in
      grown (Pad-enclose m.pad0 m.pad1 D) (Pose-enclose_point a m.s0 m.s1 D B)
      (pad-enclose-number m.pad0 m.pad1 D) (point-number a m.s0 m.s1 D B)

  stored-grown : (pad : Float) (t : Transform) → Q (Transform-enclose_padded pad t b)
  unfolding Transform-enclose_padded Transform-enclose_bounds
  stored-grown pad t =
      grown (Pad-stored pad) (Transform-enclose_points t b) (inl refl) (transform_point-number 0 (IntervalMatrix-point t.m) (Bounds3f-intervals b) (inl refl))

  slice-each : (first last : Bool) (m : AnimatedTransform) (r : BoundsAnswer) → Memᴰ r (slice_boxes b d w m) → Q r
  unfolding slice_boxes
  slice-each first last m r i =
      let f : Interval → BoundsAnswer = λ dt. AnimatedTransform-enclose_bounds m (AnimatedTransform-constants m) dt b in
      let (t, k) = member-only (map f (pieces d (share_in w m))) (moves_in w m) i in
      let (D, j, e) = Memᴰ.of_map f (pieces d (share_in w m)) k in
      subst Q e (piece-grown m D)

  pose-each : (pad : Float) (t : Transform) (test : Bool) (r : BoundsAnswer) → Memᴰ r (cond test (Transform-enclose_padded pad t b ∷ []) []) → Q r
  pose-each pad t test r i =
      let (_, k) = member-only (Transform-enclose_padded pad t b ∷ []) test i in
      subst Q (sym (Memᴰ.eq_of_singleton k)) (stored-grown pad t)

  end-each : (first last : Bool) (m : AnimatedTransform) (r : BoundsAnswer) → Memᴰ r (end_pose_boxes b w last m) → Q r
  unfolding end_pose_boxes
  end-each first last m = pose-each m.pad1 m.end_transform (Window-asks_end w last m.end_time)

  equal-each : (first last : Bool) (m : AnimatedTransform) (r : BoundsAnswer) → Memᴰ r (equal_pose_boxes b w first last m) → Q r
  unfolding equal_pose_boxes
  equal-each first last m = pose-each (max_num m.pad0 m.pad1) m.start_transform (stays_in w first last m)

  first-each : (r : BoundsAnswer) → Memᴰ r (first_pose_boxes b w c.first) → Q r
  unfolding first_pose_boxes
  first-each = pose-each c.first.pad0 c.first.start_transform (Window-asks_first w c.first.start_time)

  pub window-each : (r : BoundsAnswer) → Memᴰ r (window_boxes c b d w) → Q r
  unfolding window_boxes
  window-each r i =
      let slices = boxes_from (λ first last m. slice_boxes b d w m) true (Chain-moves c) in
      let poses = slices ++ first_pose_boxes b w c.first in
      let ends = boxes_from (λ first last m. end_pose_boxes b w last m) true (Chain-moves c) in
      elim (Memᴰ.append_cases (poses ++ ends) i) [
        | inl j ↦ elim (Memᴰ.append_cases poses j) [
          | inl k ↦ elim (Memᴰ.append_cases slices k) [
            | inl l ↦ boxes-each Q (λ first last m. slice_boxes b d w m) slice-each true (Chain-moves c) r l
            | inr l ↦ first-each r l
          ]
          | inr k ↦ boxes-each Q (λ first last m. end_pose_boxes b w last m) end-each true (Chain-moves c) r k
        ]
        | inr j ↦ boxes-each Q (equal_pose_boxes b w) equal-each true (Chain-moves c) r j
      ]

-- ---- finite values of binary32
pub boxes-valued : (c : Chain) (b : Bounds3f) (d : ℕ) (w : Window) → (r : BoundsAnswer) → Memᴰ r (window_boxes c b d w) → Valued r
boxes-valued = window-each Valued (λ pad j i n. grow-valued pad (BoundsAnswer-from_enclosure j))

pub window-valued : (c : Chain) (b : Bounds3f) (d : ℕ) (w : Window) → Valued (Chain-enclose_window c b d w)
unfolding Chain-enclose_window
window-valued c b d w =
    union-all-keeps Valued union-valued (Bounds Bounds3f-default) (window_boxes c b d w) default-valued
    (each_member (window_boxes c b d w) (boxes-valued c b d w))

-- ---- the numbers of a box
abbrev Numbered : BoundsAnswer → Type 0
Numbered = BoundsAnswer-Numbered (0 ∷ 5 ∷ 10 ∷ [])

slice-number : {n : ℕ} → SliceNumber n → OneOf n (0 ∷ 5 ∷ 10 ∷ [])
slice-number (inl e) = inl e
slice-number (inr (inl e)) = inr (inl e)
slice-number (inr (inr e)) = inr (inr (inl e))

pad-number : {n : ℕ} → PadNumber n → OneOf n (0 ∷ 5 ∷ 10 ∷ [])
pad-number (inl e) = inl e
pad-number (inr e) = inr (inl e)

enclosure-numbered : (j : JudgedVector) → SliceNumber j.refusal → Numbered (BoundsAnswer-from_enclosure j)
unfolding BoundsAnswer-from_enclosure
enclosure-numbered j n = go (eqb j.refusal 0) (eqb-false j.refusal 0)
  where
    go : (t : Bool) → (t ≡ false → j.refusal ≡ 0 → ⊥) → Numbered (cond t (Bounds (IntervalVector-bounds j.vector)) (Refused j.refusal))
    go true f = record { number = inl refl; none = λ _. refl }
    go false f = record { number = slice-number n; none = λ e. absurd (f refl e) }

grown-numbered : (pad : Judged) (j : JudgedVector) → PadNumber pad.refusal
    → SliceNumber j.refusal → Numbered (BoundsAnswer-grow pad (BoundsAnswer-from_enclosure j))
grown-numbered pad j i n =
    grow-cases Numbered pad (BoundsAnswer-from_enclosure j) (enclosure-numbered j n)
    (λ b. record { number = inl refl; none = λ _. refl })
    (record { number = inr (inl refl); none = λ e. absurd (omega (arith, e)) })
    (λ h. record { number = pad-number i; none = λ e. absurd (h e) })

pub boxes-numbered : (c : Chain) (b : Bounds3f) (d : ℕ) (w : Window) → (r : BoundsAnswer)
    → Memᴰ r (window_boxes c b d w) → BoundsAnswer-Numbered (0 ∷ 5 ∷ 10 ∷ []) r
boxes-numbered = window-each Numbered grown-numbered
