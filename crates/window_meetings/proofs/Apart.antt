-- In a window left off an accepted list no point is one that both booms may be at: `windows-apart`.
-- Each boom's points are inside its window's cover, pads and all, and the two covers don't meet.
use Prim.Native.Nat.{ℕ, ◌+◌}
use mathlib.Core.Path.{◌≡◌, refl, sym, subst, ◌∙◌}
use mathlib.Core.Bool.{Bool, true, false, cond}
use mathlib.Core.List.{List}
use borrow.Author.Tests.{eqb-true, eqb-false}
use native.Mathlib.Omega.{arith}
use lib.Dec.{eqb}
use lib.Ieee.{Float}
use Rattle.bounds_meeting.specs.bounds3.declared.Point3f.{Point3f}
use Rattle.bounds_meeting.specs.bounds3.declared.Bounds3f.{Bounds3f}
use Rattle.bounds_meeting.specs.bounds3.Inside.{Subset}
use Rattle.bounds_meeting.proofs.bounds3.Union.{subset-inside}
use Rattle.bounds_meeting.specs.transform.Answer.{PointAnswer, OneOf, PointAnswer-point, BoundsAnswer-bounds}
use Rattle.bounds_meeting.specs.bounds_overlap.Meets.{Bounds3f-meets}
use Rattle.bounds_meeting.proofs.bounds_overlap.Overlap.{apart-inside}
use Rattle.chain_window.specs.motion_pad.Grow.{PaddedInside}
use Rattle.chain_window.specs.motion_cover.Theorem.{MovedInside}
use Rattle.chain_window.specs.motion_chain.Chain.{Chain, Chain-transform_point, Chain-pad_at}
use Rattle.chain_window.specs.Cover.{Chain-window_cover}
use Rattle.chain_window.proofs.Contains.{window-contains}
use Rattle.window_meetings.specs.Windows.{windows_of, windows_refusal, WindowsAnswer, listed, refused}
use Rattle.window_meetings.specs.Windows.{WindowsAnswer-refusal, WindowsAnswer-windows, windows_from, Chain-windows}
use Rattle.window_meetings.specs.Theorem.{padded, reached, Apart, tick_window, WindowsApart}
use Rattle.window_meetings.proofs.Listed.{window-listed}
use Rattle.window_meetings.proofs.Numbers.{windows-numbered}

-- ---- an accepted query
pub record Accepted (c c' : Chain) (b b' : Bounds3f) (d : ℕ) (ticks : List Float) : Type 0 where
  pub arguments : windows_refusal b b' d ticks ≡ 0
  pub work : windows_from (Chain-window_cover c b d) (Chain-window_cover c' b' d) 0
      (windows_of ticks) ≡ listed (WindowsAnswer-windows (Chain-windows c c' b b' d ticks))

pub windows-accepted : (c c' : Chain) (b b' : Bounds3f) (d : ℕ) (ticks : List Float)
    → WindowsAnswer-refusal (Chain-windows c c' b b' d ticks) ≡ 0 → Accepted c c' b b' d ticks
windows-accepted c c' b b' d ticks = go (eqb n 0) (eqb-true n 0) (eqb-false n 0) refl
  where
    n : ℕ
    n = windows_refusal b b' d ticks

    work : WindowsAnswer
    work = windows_from (Chain-window_cover c b d) (Chain-window_cover c' b' d) 0 (windows_of ticks)

    same : (t : Bool) → eqb n 0 ≡ t → Chain-windows c c' b b' d ticks ≡ cond t work (refused n)
    same t e = unfold Chain-windows in rw e

    go : (t : Bool) → (t ≡ true → n ≡ 0) → (t ≡ false → n ≡ 0 → ⊥) → eqb n 0 ≡ t
        → WindowsAnswer-refusal (Chain-windows c c' b b' d ticks) ≡ 0 → Accepted c c' b b' d ticks
    go true f g e h = record { arguments = f refl; work = sym (same true e) ∙ (windows-numbered c c' b b' d ticks).none h }
    go false f g e h = absurd (g refl (rw (same false e) at h))

-- ---- where a boom's point may be
pub padded-subset : {box : Bounds3f} (pad : Float) (answer : PointAnswer) → PaddedInside box pad (PointAnswer-point answer) → Subset (padded pad answer) box
padded-subset pad answer m =
    let low = m.less in
    let high = m.plus in
    record { x = (low.x.0, high.x.1); y = (low.y.0, high.y.1); z = (low.z.0, high.z.1) }

pub moved-reached : (c : Chain) (time : Float) (p : Point3f) {box : Bounds3f}
    → MovedInside box (Chain-pad_at c time) (Chain-transform_point c time p) → Subset (reached c time p) box
moved-reached c time p m = padded-subset (Chain-pad_at c time) (Chain-transform_point c time p) m.inside

pub windows-apart : (c c' : Chain) (b b' : Bounds3f) (d : ℕ) (ticks : List Float) → WindowsApart c c' b b' d ticks
windows-apart c c' b b' d ticks k time p p' built built' e l off t i i' =
    let w = tick_window ticks k in
    let cover = Chain-window_cover c b d in
    let cover' = Chain-window_cover c' b' d in
    let a = windows-accepted c c' b b' d ticks e in
    let x = window-listed cover cover' 0 k ticks (WindowsAnswer-windows (Chain-windows c c' b b' d ticks)) l a.work in
    let m = window-contains c b d w time p built x.accepted t i in
    let m' = window-contains c' b' d w time p' built' x.accepted' t i' in
    let same : 0 + k ≡ k = omega arith in
    record {
      answered = m.accepted;
      answered' = m'.accepted;
      apart = λ q j j'.
          apart-inside (BoundsAnswer-bounds (cover w)) (BoundsAnswer-bounds (cover' w)) q
          (unlisted (Bounds3f-meets (BoundsAnswer-bounds (cover w)) (BoundsAnswer-bounds (cover' w)))
          (λ met. off (subst (λ (y : ℕ). OneOf y (WindowsAnswer-windows (Chain-windows c c' b b' d ticks))) same (x.meeting met))))
          (subset-inside (moved-reached c time p m) j) (subset-inside (moved-reached c' time p' m') j');
    }
  where
    unlisted : (y : Bool) → (y ≡ true → ⊥) → y ≡ false
    unlisted true h = absurd (h refl)
    unlisted false h = refl
