-- Two booms over one bay: in a window left off the list there is no time at which a padded point of one boom and a padded point of the other coincide,
-- `WindowsApart`; and no greater depth adds a window, `WindowsFiner`. The statements of `windows-apart` and `windows-finer`.
--
--   BuiltChain c            c is what building gives, unrefused, for poses of binary32 times and pads          crates/motion_chain/specs/Built.antt
--   Chain-windows           the query: the windows in which the two covers meet                               crates/window_meetings/specs/Windows.antt
--   InWindow w time         the time is no NaN and lies from the earlier tick to the later one                 crates/chain_window/specs/Theorem.antt
--   reached c time p        where the padded point p of the box may be at a time                               below
use Rattle.std.specs.Prelude.{ℕ, suc, ◌+◌, ◌≤◌, ◌<◌, ◌≡◌, List, length, get_or, Float}
use Rattle.std.specs.Float.{nan}
use Rattle.bounds_meeting.specs.bounds3.declared.Point3f.{Point3f}
use Rattle.bounds_meeting.specs.bounds3.declared.Bounds3f.{Bounds3f}
use Rattle.bounds_meeting.specs.bounds3.Inside.{Inside}
use Rattle.bounds_meeting.specs.transform.Answer.{PointAnswer, OneOf, PointAnswer-refusal, PointAnswer-point}
use Rattle.chain_window.specs.motion_pad.Grow.{Point3f-less, Point3f-plus}
use Rattle.chain_window.specs.bounds_query.Query.{max_depth}
use Rattle.chain_window.specs.motion_chain.Chain.{Chain, Chain-transform_point, Chain-pad_at}
use Rattle.chain_window.specs.motion_chain.Built.{BuiltChain}
use Rattle.chain_window.specs.window_times.declared.Window.{Window}
use Rattle.chain_window.specs.Theorem.{InWindow}
use Rattle.window_meetings.specs.Windows.{WindowsAnswer, WindowsAnswer-refusal, WindowsAnswer-windows, Chain-windows}

-- "a padded point lies, on each axis, from the moved point less its pad to the moved point plus its pad, both rounded"
abbrev pub padded : Float → PointAnswer → Bounds3f
padded pad answer = record { p_min = Point3f-less (PointAnswer-point answer) pad; p_max = Point3f-plus (PointAnswer-point answer) pad }

-- The points at which the boom's point p may be at a time.
abbrev pub reached : Chain → Float → Point3f → Bounds3f
reached c time p = padded (Chain-pad_at c time) (Chain-transform_point c time p)

-- Both points are answered, and no point is one that both may be at: "there is no
-- time at which a padded point of one boom and a padded point of the other coincide".
pub record Apart (c c' : Chain) (time : Float) (p p' : Point3f) : Type 0 where
  pub answered : PointAnswer-refusal (Chain-transform_point c time p) ≡ 0
  pub answered' : PointAnswer-refusal (Chain-transform_point c' time p') ≡ 0
  pub apart : (q : Point3f) → Inside (reached c time p) q → Inside (reached c' time p') q → ⊥

-- "each window between neighbouring ticks", counted from 0
abbrev pub tick_window : List Float → ℕ → Window
tick_window ticks k = record { earlier = get_or ticks k nan; later = get_or ticks (suc k) nan }

-- c and c' are the chains, b and b' their boxes of points: "In a window left off the list, ticks included,
-- there is no time at which a padded point of one boom and a padded point of the other coincide".
abbrev pub WindowsApart : Chain → Chain → Bounds3f → Bounds3f → ℕ → List Float → Type 0
WindowsApart c c' b b' d ticks =
    let a = Chain-windows c c' b b' d ticks in
    (k : ℕ) (time : Float) (p p' : Point3f)
    → BuiltChain c → BuiltChain c' → WindowsAnswer-refusal a ≡ 0 → k + 1 < length ticks → (OneOf k (WindowsAnswer-windows a) → ⊥)
    → InWindow (tick_window ticks k) time → Inside b p → Inside b' p'
    → Apart c c' time p p'

-- "Where a depth is accepted, no greater depth adds a window." ks are the windows that were listed at the depth.
pub record NoneAdded (ks : List ℕ) (fine : WindowsAnswer) : Type 0 where
  pub accepted : WindowsAnswer-refusal fine ≡ 0
  pub listed-before : (k : ℕ) → OneOf k (WindowsAnswer-windows fine) → OneOf k ks

abbrev pub WindowsFiner : Chain → Chain → Bounds3f → Bounds3f → List Float → Type 0
WindowsFiner c c' b b' ticks =
    (d n : ℕ)
    → BuiltChain c → BuiltChain c' → d + n ≤ max_depth → WindowsAnswer-refusal (Chain-windows c c' b b' d ticks) ≡ 0
    → NoneAdded (WindowsAnswer-windows (Chain-windows c c' b b' d ticks)) (Chain-windows c c' b b' (d + n) ticks)
