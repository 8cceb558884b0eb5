-- The windows in which the covers of two chains meet, as their callers keep the chains, `Moves-windows`; in their words that the answer is the chains' own,
-- `KeptWindows`, that in any other window no points coincide, `KeptWindowsApart`, and that no greater depth adds one, `KeptWindowsFiner`. Definitions only.
use Rattle.std.specs.Prelude.{ℕ, ◌+◌, ◌≤◌, ◌<◌, ◌≡◌, ◌||◌, cond, List, eqb, length, Float}
use Rattle.bounds_query.specs.matrix4x4.Rows.{Rows}
use Rattle.bounds3.specs.declared.Point3f.{Point3f}
use Rattle.bounds3.specs.declared.Bounds3f.{Bounds3f}
use Rattle.bounds3.specs.Inside.{Inside}
use Rattle.bounds_query.specs.transform.Answer.{OneOf, PointAnswer-refusal}
use Rattle.bounds_query.specs.Query.{max_depth}
use Rattle.window_meetings.specs.motion_chain.Chain.{Chain}
use Rattle.window_cover.specs.chain_rows.Kept.{Chain-to_rows, Moves-chain, Moves-transform_point, Moves-pad_at}
use Rattle.window_cover.specs.chain_rows.Theorem.{Moves-Holds}
use Rattle.window_meetings.specs.chain_window.Theorem.{InWindow}
use Rattle.window_meetings.specs.Windows.{WindowsAnswer, refused, WindowsAnswer-refusal, WindowsAnswer-windows, Chain-windows, WindowsAnswer-left}
use Rattle.window_meetings.specs.Theorem.{padded, tick_window, NoneAdded}

-- as `Chain-windows`; no moves are no chain: 12
unfoldable pub Moves-windows : List Rows → List Rows → Bounds3f → Bounds3f → ℕ → List Float → WindowsAnswer
Moves-windows rows rows' b b' depth ticks =
    cond (eqb (length rows) 0 || eqb (length rows') 0) (refused 12) (Chain-windows (Moves-chain rows) (Moves-chain rows') b b' depth ticks)

-- The number, how many windows are listed, and what stands in the places that had `old` are those of an answer.
pub record WindowsAnswer-Is (a : WindowsAnswer) (number listed : ℕ) (old new : List ℕ) : Type 0 where
  pub refusal : number ≡ WindowsAnswer-refusal a
  pub count : listed ≡ length (WindowsAnswer-windows a)
  pub left : new ≡ WindowsAnswer-left a old

-- Where the rows are those of two chains, the answer is that of the chains.
abbrev pub KeptWindows : List Rows → List Rows → Bounds3f → Bounds3f → ℕ → List Float → ℕ → ℕ → List ℕ → List ℕ → Type 0
KeptWindows rows rows' b b' depth ticks number listed old new =
    (c c' : Chain)
    → rows ≡ Chain-to_rows c → rows' ≡ Chain-to_rows c'
    → WindowsAnswer-Is (Chain-windows c c' b b' depth ticks) number listed old new

-- as `reached`: the points at which the boom's point p may be at a time, asked of the rows
abbrev pub Moves-reached : List Rows → Float → Point3f → Bounds3f
Moves-reached rows time p = padded (Moves-pad_at rows time) (Moves-transform_point rows time p)

pub record Moves-Apart (rows rows' : List Rows) (time : Float) (p p' : Point3f) : Type 0 where
  pub answered : PointAnswer-refusal (Moves-transform_point rows time p) ≡ 0
  pub answered' : PointAnswer-refusal (Moves-transform_point rows' time p') ≡ 0
  pub apart : (q : Point3f) → Inside (Moves-reached rows time p) q → Inside (Moves-reached rows' time p') q → ⊥

-- Where the rows hold built chains: in a window that isn't among ks, at any time of it, ticks included, every point of b and every point of b',
-- asked of the rows, is answered, and no point is one that both may be at.
abbrev pub KeptWindowsApart : List Rows → List Rows → Bounds3f → Bounds3f → List Float → List ℕ → Type 0
KeptWindowsApart rows rows' b b' ticks ks =
    (c c' : Chain) (k : ℕ) (time : Float) (p p' : Point3f)
    → Moves-Holds rows c → Moves-Holds rows' c' → k + 1 < length ticks → (OneOf k ks → ⊥)
    → InWindow (tick_window ticks k) time → Inside b p → Inside b' p'
    → Moves-Apart rows rows' time p p'

-- And the same query at each greater depth up to 12 is accepted too, and lists none but these.
abbrev pub KeptWindowsFiner : List Rows → List Rows → Bounds3f → Bounds3f → ℕ → List Float → List ℕ → Type 0
KeptWindowsFiner rows rows' b b' depth ticks ks =
    (c c' : Chain) (finer : ℕ)
    → Moves-Holds rows c → Moves-Holds rows' c' → depth ≤ finer → finer ≤ max_depth
    → NoneAdded ks (Moves-windows rows rows' b b' finer ticks)
