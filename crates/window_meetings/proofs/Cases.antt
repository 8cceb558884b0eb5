-- Windows by computing. Two chains are built: a swing from 0 to 1 along x, in one second, and a boom at rest in 1. Asked over two windows of half a second,
-- the query is accepted and lists the second window alone, in which the boxes touch (`second-listed`); so what is promised of a window left off the list is
-- promised of the first (`first-apart`).
use Prim.Native.Nat.{ℕ}
use mathlib.Core.Logic.{inl, inr}
use mathlib.Core.Path.{◌≡◌, refl, ap, subst}
use mathlib.Core.Bool.{false}
use mathlib.Core.List.{List, [], ◌∷◌}
use native.Mathlib.Omega.{arith}
use lib.Ieee.{Float, binary32, round, fits}
use Rattle.bounds_meeting.specs.rounding.Order.{◌≼◌}
use Rattle.bounds_meeting.specs.float32.Clamp.{clamp}
use Rattle.bounds_meeting.specs.matrix4x4.declared.Matrix4x4.{Matrix4x4}
use Rattle.bounds_meeting.specs.bounds3.declared.Point3f.{Point3f}
use Rattle.bounds_meeting.specs.bounds3.declared.Bounds3f.{Bounds3f}
use Rattle.bounds_meeting.specs.bounds3.Inside.{Inside}
use Rattle.bounds_meeting.specs.transform.Answer.{OneOf}
use Rattle.bounds_meeting.specs.bounds_overlap.Meets.{Bounds3f-meets}
use Rattle.bounds_meeting.specs.Meeting.{Meeting-of}
use Rattle.chain_window.specs.pose_pair.declared.Pose.{Pose}
use Rattle.chain_window.specs.animated_transform.New.{AnimatedTransform-new}
use Rattle.chain_window.specs.motion_chain.Chain.{Chain}
use Rattle.chain_window.specs.motion_chain.Built.{BuiltChain}
use Rattle.chain_window.specs.motion_chain.means.Computing as chain
use Rattle.tick_list.specs.Ticks.{Ticks-rise, Ticks-refusal}
use Rattle.chain_window.specs.dt_share.Share.{limited, share, pieces}
use Rattle.chain_window.specs.Cover.{slice_boxes, first_pose_boxes, end_pose_boxes, equal_pose_boxes, boxes_from, window_boxes, Chain-enclose_window, Chain-window_cover}
use Rattle.chain_window.specs.Theorem.{InWindow}
use Rattle.window_meetings.specs.Windows.{windows_of, windows_refusal, listed, WindowsAnswer-refusal, WindowsAnswer-windows, WindowsAnswer-cons}
use Rattle.window_meetings.specs.Windows.{windows_from, Chain-windows}
use Rattle.window_meetings.specs.Theorem.{Apart, tick_window}
use Rattle.window_meetings.proofs.Apart.{windows-apart}

unfoldable computing : Unit {0}
unfolding chain.computing clamp Bounds3f-meets Meeting-of Ticks-rise Ticks-refusal limited share pieces slice_boxes first_pose_boxes
    end_pose_boxes equal_pose_boxes boxes_from window_boxes Chain-enclose_window Chain-window_cover windows_of windows_refusal WindowsAnswer-cons windows_from
    Chain-windows
computing = tt

-- The float nearest to n / d.
abbrev fraction : ℕ → ℕ → Float
fraction n d = round binary32 false n d

abbrev o : Float
o = fraction 0 1

abbrev one : Float
one = fraction 1 1

-- The identity with m03 = x, with no pad.
abbrev pose : Float → Float → Pose
pose time x =
    let m : Matrix4x4 = record { r0 = one ∷ o ∷ o ∷ x ∷ []; r1 = o ∷ one ∷ o ∷ o ∷ []; r2 = o ∷ o ∷ one ∷ o ∷ []; r3 = o ∷ o ∷ o ∷ one ∷ [] } in
    record { time = time; m = m; pad = o }

abbrev poses : Float → List Pose
poses x = pose o o ∷ pose one x ∷ []

abbrev chain_to : Float → Chain
chain_to x = record { first = (AnimatedTransform-new false (pose o o) (pose one x)).value; rest = [] }

abbrev on_x : Float → Point3f
on_x x = record { x = x; y = o; z = o }

abbrev at : Float → Bounds3f
at x = record { p_min = on_x x; p_max = on_x x }

-- ---- the two chains, and the ticks
abbrev swing : Chain
swing = chain_to one

abbrev rest : Chain
rest = chain_to o

abbrev ticks : List Float
ticks = o ∷ fraction 1 2 ∷ one ∷ []

pub swing-built : BuiltChain swing
unfolding fits chain.computing
swing-built = record { rigid = false; poses = poses one; poses-binary32 = tt; accepted = refl }

pub rest-built : BuiltChain rest
unfolding fits chain.computing
rest-built = record { rigid = false; poses = poses o; poses-binary32 = tt; accepted = refl }

pub second-listed : Chain-windows swing rest (at o) (at one) 0 ticks ≡ listed (1 ∷ [])
unfolding computing
second-listed = refl

-- ---- the guarantee's hypotheses are met
zero-refl : o ≼ o
unfolding computing
zero-refl = record { holds = tt }

one-refl : one ≼ one
unfolding computing
one-refl = record { holds = tt }

inside-at : {x : Float} → x ≼ x → Inside (at x) (on_x x)
inside-at h = record { x = (h, h); y = (zero-refl, zero-refl); z = (zero-refl, zero-refl) }

first-not-listed : OneOf 0 (1 ∷ []) → ⊥
first-not-listed (inl e) = absurd (omega (arith, e))
first-not-listed (inr n) = absurd n

-- At no time of the first window, ticks included, do the swing's point and the resting one coincide.
pub first-apart : (time : Float) → InWindow (tick_window ticks 0) time → Apart swing rest time (on_x o) (on_x one)
first-apart time t =
    windows-apart swing rest (at o) (at one) 0 ticks 0 time (on_x o) (on_x one) swing-built rest-built (ap WindowsAnswer-refusal second-listed) (omega arith)
    (λ h. first-not-listed (subst (OneOf 0) (ap WindowsAnswer-windows second-listed) h)) t (inside-at zero-refl) (inside-at one-refl)
