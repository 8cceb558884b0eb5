-- The guarantee for a window: at every time of it, ticks included, a point of the box is inside the window's cover, by
-- itself and less and plus the pad at that time, each rounded. `WindowContainsMotion`, the statement of `window-contains`.
-- And that a finer cover of a window is never a wider one: `WindowCoverFiner`, the statement of `window-finer`.
--
--   BuiltChain c             c is what building gives, unrefused, for poses of binary32 times and pads    crates/motion_chain/specs/Built.antt
--   BoundsAnswer-refusal r   the cover's number, 0 where it is accepted; `BoundsAnswer-bounds r` its box  crates/transform/specs/Answer.antt
--   Chain-transform_point     the point query of the move that the time belongs to                         crates/motion_chain/specs/Chain.antt
--   Chain-pad_at              the pad of that move at the time                                             crates/motion_chain/specs/Chain.antt
--   MovedInside              a moved point, by itself and less and plus a pad                             crates/motion_cover/specs/Theorem.antt
--   InWindow w time          the time is no NaN and lies from the earlier tick to the later one           below
use Rattle.std.specs.Prelude.{ℕ, ◌+◌, ◌≤◌, ◌≡◌, Float}
use Rattle.dt_share.specs.rounding.Order.{◌≼◌}
use Rattle.motion_chain.specs.bounds3.declared.Point3f.{Point3f}
use Rattle.motion_chain.specs.bounds3.declared.Bounds3f.{Bounds3f}
use Rattle.motion_chain.specs.bounds3.Inside.{Inside}
use Rattle.motion_chain.specs.transform.declared.BoundsAnswer.{BoundsAnswer}
use Rattle.motion_chain.specs.transform.Answer.{BoundsAnswer-refusal, BoundsAnswer-bounds}
use Rattle.motion_chain.specs.bounds_query.Query.{max_depth}
use Rattle.motion_chain.specs.animated_transform.declared.AnimatedTransform.{AnimatedTransform}
use Rattle.motion_chain.specs.animated_transform.Built.{Built}
use Rattle.motion_chain.specs.motion_cover.Theorem.{MovedInside}
use Rattle.motion_chain.specs.cover_depth.Finer.{Within}
use Rattle.motion_chain.specs.Chain.{Chain, Chain-transform_point, Chain-pad_at}
use Rattle.motion_chain.specs.Built.{BuiltChain}
use Rattle.motion_chain.specs.TwoPoses.{Chain-single}
use Rattle.window_times.specs.declared.Window.{Window}
use Rattle.chain_window.specs.Cover.{Chain-window_cover}

-- "ticks included"; a NaN lies in no window
pub record InWindow (w : Window) (time : Float) : Type 0 where
  pub from : w.earlier ≼ time
  pub until : time ≼ w.later

-- What building leaves: a chain, or a move by itself, whose two times may be equal.
pub data BuiltMoves (c : Chain) : Type 0 where
  built-chain : BuiltChain c → BuiltMoves c
  built-move : (m : AnimatedTransform) → c ≡ Chain-single m → Built m → BuiltMoves c

-- c is the chain, b the box of points, w the window, r what the query of its cover answered.
abbrev pub WindowContainsMotion : Chain → Bounds3f → Window → BoundsAnswer → Type 0
WindowContainsMotion c b w r =
    (time : Float) (p : Point3f)
    → BuiltChain c → BoundsAnswer-refusal r ≡ 0 → InWindow w time → Inside b p
    → MovedInside (BoundsAnswer-bounds r) (Chain-pad_at c time) (Chain-transform_point c time p)

-- Where a window's cover at depth d is accepted, the one at each greater depth up to 12 is accepted and lies in it.
abbrev pub WindowCoverFiner : Chain → Bounds3f → Window → Type 0
WindowCoverFiner c b w =
    (d n : ℕ)
    → BuiltChain c → d + n ≤ max_depth → BoundsAnswer-refusal (Chain-window_cover c b d w) ≡ 0
    → Within (Chain-window_cover c b (d + n) w) (BoundsAnswer-bounds (Chain-window_cover c b d w))
