-- Which rows does a boom reach? A row that is not named holds no padded point of the boom at any time. In two statements: of any box that holds a padded point,
-- `RowsApart`, whatever cover it is, of a chain, of a set or of a window; and in the words of who keeps the chain whose cover was handed in, `KeptRowsApart`.
-- The statements of `rows_apart` and `kept-rows-apart`.
--
--   OneOf k ks                   k is one of the places ks that were named                                      crates/transform/specs/Answer.antt
--   PaddedInside cover pad q     q is inside the cover, by itself and less and plus the pad, each rounded         crates/motion_pad/specs/Grow.antt
--   padded pad answer            the points from the answered point less the pad to it plus the pad               crates/window_meetings/specs/Theorem.antt
--   Moves-reached moves time p   where the padded point p of the boom may be at a time, asked of the rows         crates/window_pairs/specs/Kept.antt
--   Moves-Built moves            the rows are what building left, those of a chain or of one move                 crates/chain_rows/specs/Theorem.antt
--   Moves-cover moves b depth    the cover query of a kept chain                                                  crates/chain_rows/specs/Kept.antt
use Rattle.std.specs.Prelude.{ℕ, ◌<◌, ◌≡◌, not, List, T, length, get_or, Float, Ok}
use Rattle.std.specs.Float.Ieee.{is_nan}
use Rattle.bounds_query.specs.matrix4x4.Rows.{Rows}
use Rattle.bounds3.specs.declared.Point3f.{Point3f}
use Rattle.bounds3.specs.declared.Bounds3f.{Bounds3f}
use Rattle.bounds3.specs.Bounds3f.{Bounds3f-from_point}
use Rattle.bounds3.specs.Inside.{Inside}
use Rattle.bounds_query.specs.transform.Answer.{OneOf, origin, PointAnswer-refusal, BoundsAnswer-refusal, BoundsAnswer-bounds}
use Rattle.window_pairs.specs.motion_pad.Grow.{PaddedInside}
use Rattle.window_pairs.specs.chain_rows.Kept.{Moves-transform_point, Moves-cover}
use Rattle.window_pairs.specs.chain_rows.Theorem.{Moves-Built}
use Rattle.window_pairs.specs.window_meetings.Theorem.{padded}
use Rattle.window_pairs.specs.Kept.{Moves-reached}

-- The row at a place, counted from 0; every place that is asked for has a row.
abbrev pub row_at : List Bounds3f → ℕ → Bounds3f
row_at rows k = get_or rows k (Bounds3f-from_point origin)

-- Wherever a point q is inside the cover with its pad: no point from q less the pad to q plus the pad is inside a row that is not among ks.
abbrev pub RowsApart : Bounds3f → List Bounds3f → List ℕ → Type 0
RowsApart cover rows ks =
    (k : ℕ) (pad : Float) (q p : Point3f)
    → k < length rows → (OneOf k ks → ⊥) → PaddedInside cover pad q → Inside (padded pad (Ok q)) p
    → Inside (row_at rows k) p → ⊥

-- The boom's point p is answered, and none of the points at which it may be is inside the row.
pub record RowApart (moves : List Rows) (time : Float) (p : Point3f) (row : Bounds3f) : Type 0 where
  pub answered : PointAnswer-refusal (Moves-transform_point moves time p) ≡ 0
  pub apart : (q : Point3f) → Inside (Moves-reached moves time p) q → Inside row q → ⊥

-- Of every built chain whose cover of the box b, at any depth, is accepted and is the one handed in: at any time but NaN, every point of b is answered, and
-- none of the points at which it may be, pad and all, is inside a row that is not among ks.
abbrev pub KeptRowsApart : Bounds3f → List Bounds3f → List ℕ → Type 0
KeptRowsApart cover rows ks =
    (moves : List Rows) (b : Bounds3f) (depth k : ℕ) (time : Float) (p : Point3f)
    → Moves-Built moves → BoundsAnswer-refusal (Moves-cover moves b depth) ≡ 0 → BoundsAnswer-bounds (Moves-cover moves b depth) ≡ cover
    → k < length rows → (OneOf k ks → ⊥) → T (not (is_nan time)) → Inside b p
    → RowApart moves time p (row_at rows k)
