-- What is kept of a chain is the whole chain, `chain-inverse`; so the queries of its rows are its own: `kept-point`, `kept-points`, `kept-cover`, `kept-pad`.
-- One block is asked as the move in it is, `block-point`. What building leaves are built moves: `built-rows`.
use Prim.Native.Nat.{ℕ, zero, suc, ◌<◌}
use mathlib.Core.Path.{◌≡◌, refl, ap, ◌∙◌}
use mathlib.Core.Bool.{false, cond}
use mathlib.Core.List.{List, [], ◌∷◌, map}
use native.Mathlib.Omega.{arith}
use borrow.Author.Tests.{ne_eqb}
use lib.Dec.{eqb}
use lib.ListN.{length, get_or}
use lib.Ieee.{Float}
use Rattle.transform.specs.matrix4x4.Rows.{Rows}
use Rattle.bounds3.specs.declared.Point3f.{Point3f}
use Rattle.bounds3.specs.declared.Bounds3f.{Bounds3f}
use Rattle.transform.specs.Answer.{PointAnswer}
use Rattle.motion_rows.specs.animated_transform.declared.AnimatedTransform.{AnimatedTransform}
use Rattle.motion_rows.specs.animated_transform.Built.{Built}
use Rattle.motion_rows.specs.Rows.{AnimatedTransform-to_rows, AnimatedTransform-from_rows}
use Rattle.motion_rows.specs.TransformPoint.{Rows-transform_point}
use Rattle.motion_rows.proofs.RoundTrip.{from-rows-inverse, transform-point-kept}
use Rattle.pad_query.specs.PadQuery.{PadAnswer}
use Rattle.pad_query.proofs.Kept.{pad-kept}
use Rattle.motion_chain.specs.Chain.{Chain, Chain-moves, Chain-move_at, Chain-transform_point, Chain-cover}
use Rattle.motion_chain.specs.Built.{Each}
use Rattle.motion_chain.specs.MoveAt.{index_from, Chain-index_at}
use Rattle.motion_chain.specs.Times.{refused, list_refusal, points_at, Chain-transform_points}
use Rattle.motion_chain.specs.TwoPoses.{Chain-single}
use Rattle.motion_chain.proofs.Built.{built-moves}
use Rattle.motion_chain.proofs.MoveAt.{move-index}
use Rattle.chain_rows.specs.Kept.{Chain-to_rows, Moves-chain, Moves-transform_point, Moves-transform_points, Moves-cover, Chain-pad, Moves-pad}
use Rattle.chain_rows.specs.Theorem.{Moves-Built, chain-built, move-built}

map-inverse : (moves : List AnimatedTransform) → map AnimatedTransform-from_rows (map AnimatedTransform-to_rows moves) ≡ moves
map-inverse [] = refl
map-inverse (m ∷ moves) = rw (from-rows-inverse m, map-inverse moves)

pub chain-inverse : (c : Chain) → Moves-chain (Chain-to_rows c) ≡ c
unfolding Moves-chain
chain-inverse c = rw (from-rows-inverse c.first, map-inverse c.rest)

pub kept-chain : (rows : List Rows) (c : Chain) → rows ≡ Chain-to_rows c → Moves-chain rows ≡ c
kept-chain rows c e = ap Moves-chain e ∙ chain-inverse c

pub not-empty : (c : Chain) → eqb (length (Chain-to_rows c)) 0 ≡ false
not-empty c = ne_eqb (length (Chain-to_rows c)) 0 (λ e. absurd (omega (arith, e)))

rows_at : (moves : List AnimatedTransform) (i : ℕ) (d : AnimatedTransform) → i < length moves
    → get_or (map AnimatedTransform-to_rows moves) i [] ≡ AnimatedTransform-to_rows (get_or moves i d)
rows_at [] i d h = absurd (omega (arith, h))
rows_at (m ∷ moves) zero d h = refl
rows_at (m ∷ moves) (suc i) d h = rows_at moves i d (omega (arith, h))

-- The rows at the place of a time are those of the time's move.
pub move-kept : (c : Chain) (time : Float) → get_or (Chain-to_rows c) (Chain-index_at c time) [] ≡ AnimatedTransform-to_rows (Chain-move_at c time)
move-kept c time = let h = move-index c in rw (h.move time) (rows_at (Chain-moves c) (Chain-index_at c time) c.first (h.below time))

pub kept-point : (rows : List Rows) (c : Chain) (time : Float) (p : Point3f) → rows ≡ Chain-to_rows c
    → Moves-transform_point rows time p ≡ Chain-transform_point c time p
unfolding Moves-transform_point Chain-transform_point
kept-point rows c time p e = rw (e, not-empty c, chain-inverse c, move-kept c time) (transform-point-kept (Chain-move_at c time) time p)

pub kept-points : (rows : List Rows) (c : Chain) (times : List Float) (p : Point3f) (places : ℕ) → rows ≡ Chain-to_rows c
    → Moves-transform_points rows times p places ≡ Chain-transform_points c times p places
unfolding Moves-transform_points Chain-transform_points
kept-points rows c times p places e =
    let n = list_refusal times p places in
    let asked : Float → PointAnswer = λ t. Moves-transform_point rows t p in
    let own : Float → PointAnswer = λ t. Chain-transform_point c t p in
    let same : asked ≡ own = λ i t. kept-point rows c t p e i in
    rw (ap (λ (l : List Rows). eqb (length l) 0) e ∙ not-empty c) (ap (λ (f : Float → PointAnswer). cond (eqb n 0) (points_at f times) (refused n)) same)

pub kept-cover : (rows : List Rows) (c : Chain) (b : Bounds3f) (depth : ℕ) → rows ≡ Chain-to_rows c → Moves-cover rows b depth ≡ Chain-cover c b depth
unfolding Moves-cover
kept-cover rows c b depth e = rw (e, not-empty c, chain-inverse c)

pub kept-pad : (rows : List Rows) (c : Chain) (time : Float) → rows ≡ Chain-to_rows c → Moves-pad rows time ≡ Chain-pad c time
unfolding Moves-pad Chain-pad
kept-pad rows c time e = rw (e, not-empty c, chain-inverse c, move-kept c time) (pad-kept (Chain-move_at c time) time)

-- The clauses of a pad query, from its value.
pub pad-clauses : (rows : List Rows) (time : Float) {r : PadAnswer} → r ≡ Moves-pad rows time
    → (r ≡ Moves-pad rows time) × ((c : Chain) → rows ≡ Chain-to_rows c → r ≡ Chain-pad c time)
pad-clauses rows time e = (e, λ c k. e ∙ kept-pad rows c time k)

-- One block, whatever it holds.
pub block-point : (rows : List Rows) (block : Rows) (time : Float) (p : Point3f)
    → rows ≡ block ∷ [] → Moves-transform_point rows time p ≡ Rows-transform_point block time p
unfolding Moves-transform_point Moves-chain index_from
block-point rows block time p e = rw e

-- The chain in the rows that building has left.
pub record BuiltRows (rows : List Rows) : Type 0 where
  pub chain : Chain
  pub each : Each Built (Chain-moves chain)
  pub same : rows ≡ Chain-to_rows chain

pub built-rows : {rows : List Rows} → Moves-Built rows → BuiltRows rows
built-rows (chain-built c h) = record { chain = c; each = (built-moves h.built).each; same = h.same }
built-rows (move-built block m e h) = record { chain = Chain-single m; each = (h.built, tt); same = e ∙ ap (λ (r : Rows). r ∷ []) h.same }

-- The clauses of a point query, from its value.
pub point-clauses : (rows : List Rows) (time : Float) (p : Point3f) {r : PointAnswer} → r ≡ Moves-transform_point rows time p
    → (r ≡ Moves-transform_point rows time p) × ((c : Chain) → rows ≡ Chain-to_rows c → r ≡ Chain-transform_point c time p)
point-clauses rows time p e = (e, λ c k. e ∙ kept-point rows c time p k)
