-- The number of a list's answer from those of its parts: `append-refused`, `append-accepted`; and what an answered list leaves, `left-floats`.
-- No query is refused with 0 (`moves-point-nonzero`), so a number of 0 is points.
use Rattle.std.specs.Prelude.{Ok, Err}
use Prim.Native.Nat.{ℕ}
use mathlib.Core.Path.{◌≡◌, refl, ap}
use mathlib.Core.List.{List, [], ◌∷◌, ◌++◌}
use native.Mathlib.Omega.{arith}
use lib.Dec.{eqb}
use lib.ListN.{length, get_or}
use lib.Ieee.{Float}
use Rattle.time_list.proofs.control_flow.Choice.{cond-keeps}
use Rattle.time_list.specs.matrix4x4.Rows.{Rows}
use Rattle.bounds3.specs.declared.Point3f.{Point3f}
use Rattle.bounds3.specs.List.{Point3f-list}
use Rattle.time_list.specs.transform.Answer.{PointAnswer, PointAnswer-point}
use Rattle.time_list.proofs.motion_point.NonZero.{PointAnswer-NonZero}
use Rattle.stretch_points.proofs.motion_rows.NonZero.{rows-point-nonzero}
use Rattle.time_list.specs.motion_chain.MoveAt.{Chain-index_at}
use Rattle.time_list.specs.motion_chain.Times.{PointsAnswer, moved, refused, PointsAnswer-refusal, PointsAnswer-cons}
use Rattle.time_list.specs.motion_chain.Times.{PointsAnswer-append, points_at, Points-list, PointsAnswer-left}
use Rattle.chain_rows.specs.Kept.{Moves-chain, Moves-transform_point}
use Rattle.stretch_points.specs.Points.{floats_at}

abbrev pub PointsAnswer-NonZero : PointsAnswer → Type 0
PointsAnswer-NonZero (moved qs) = Unit {0}
PointsAnswer-NonZero (refused n) = n ≡ 0 → ⊥

cons-nonzero : (a : PointAnswer) (r : PointsAnswer) → PointAnswer-NonZero a → PointsAnswer-NonZero r → PointsAnswer-NonZero (PointsAnswer-cons a r)
unfolding PointsAnswer-cons
cons-nonzero (Ok q) (moved qs) h k = tt
cons-nonzero (Ok q) (refused n) h k = k
cons-nonzero (Err n) r h k = h

pub moves-point-nonzero : (moves : List Rows) (p : Point3f) (t : Float) → PointAnswer-NonZero (Moves-transform_point moves t p)
unfolding Moves-transform_point
moves-point-nonzero moves p t =
    cond-keeps PointAnswer-NonZero (eqb (length moves) 0) (Err 12) _ (λ e. absurd (omega (arith, e)))
    (rows-point-nonzero (get_or moves (Chain-index_at (Moves-chain moves) t) []) t p)

-- ---- two parts
pub append-refused : {n : ℕ} (r s : PointsAnswer) → n ≡ PointsAnswer-refusal r → (n ≡ 0 → ⊥) → n ≡ PointsAnswer-refusal (PointsAnswer-append r s)
unfolding PointsAnswer-append
append-refused (moved qs) s e f = absurd (f e)
append-refused (refused k) s e f = e

pub append-accepted : {n : ℕ} (r s : PointsAnswer) → PointsAnswer-NonZero r → n ≡ PointsAnswer-refusal r → n ≡ 0
    → PointsAnswer-refusal s ≡ PointsAnswer-refusal (PointsAnswer-append r s)
unfolding PointsAnswer-append
append-accepted (moved qs) (moved rs) h e z = refl
append-accepted (moved qs) (refused k) h e z = refl
append-accepted (refused k) s h e z = absurd (omega (arith, h (omega (arith, e, z))))

-- ---- a list
module _ (query : Float → PointAnswer) (nonzero : (t : Float) → PointAnswer-NonZero (query t)) where
  pub points-nonzero : (times : List Float) → PointsAnswer-NonZero (points_at query times)
  unfolding points_at
  points-nonzero [] = tt
  points-nonzero (t ∷ times) = cons-nonzero (query t) (points_at query times) (nonzero t) (points-nonzero times)

  pub left-floats : (old times : List Float) → PointsAnswer-refusal (points_at query times) ≡ 0
      → PointsAnswer-left (points_at query times) old ≡ floats_at query times
  unfolding points_at PointsAnswer-left PointsAnswer-cons Points-list floats_at
  left-floats old [] e = refl
  left-floats old (t ∷ times) e = go (query t) (points_at query times) (nonzero t) (points-nonzero times) (left-floats old times) e
    where
      go : (a : PointAnswer) (r : PointsAnswer) → PointAnswer-NonZero a → PointsAnswer-NonZero r
          → (PointsAnswer-refusal r ≡ 0 → PointsAnswer-left r old ≡ floats_at query times)
          → PointsAnswer-refusal (PointsAnswer-cons a r) ≡ 0
          → PointsAnswer-left (PointsAnswer-cons a r) old ≡ Point3f-list (PointAnswer-point a) ++ floats_at query times
      go (Ok q) (moved qs) h k ih e = ap (λ (l : List Float). Point3f-list q ++ l) (ih refl)
      go (Ok q) (refused n) h k ih e = absurd (k e)
      go (Err n) r h k ih e = absurd (h e)
