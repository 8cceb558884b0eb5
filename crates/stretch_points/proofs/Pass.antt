-- A pass over the list up to the first refusal: `refusal-here`, `refusal-next`, `refusal-end`.
use Rattle.std.specs.Prelude.{Ok, Err}
use Prim.Native.Nat.{ℕ, suc, ◌+◌, ◌≤◌, ◌<◌}
use mathlib.Core.Path.{◌≡◌, refl}
use mathlib.Core.List.{List}
use native.Mathlib.Omega.{arith}
use lib.ListN.{length, drop, get_or, drop_of_length-le}
use lib.Seq.{drop-cons}
use lib.Ieee.{Float, nan}
use Rattle.bounds3.specs.declared.Point3f.{Point3f}
use Rattle.transform.specs.Answer.{PointAnswer}
use Rattle.motion_chain.specs.Times.{PointsAnswer, moved, refused, PointsAnswer-refusal, PointsAnswer-cons, points_at}

cons-refusal : (q : Point3f) (r : PointsAnswer) → PointsAnswer-refusal (PointsAnswer-cons (Ok q) r) ≡ PointsAnswer-refusal r
unfolding PointsAnswer-cons
cons-refusal q (moved qs) = refl
cons-refusal q (refused n) = refl

module _ (query : Float → PointAnswer) (times : List Float) (i : ℕ) where
  pub refusal-here : {n : ℕ} → i < length times → Err n ≡ query (get_or times i nan)
      → n ≡ PointsAnswer-refusal (points_at query (drop i times))
  unfolding points_at PointsAnswer-cons
  refusal-here h e = rw (drop-cons times i nan h, ← e)

  pub refusal-next : {q : Point3f} → i < length times → Ok q ≡ query (get_or times i nan)
      → PointsAnswer-refusal (points_at query (drop (i + 1) times)) ≡ PointsAnswer-refusal (points_at query (drop i times))
  unfolding points_at
  refusal-next {q} h e = let n : i + 1 ≡ suc i = omega arith in rw (n, drop-cons times i nan h, ← e, cons-refusal q (points_at query (drop (suc i) times)))

  pub refusal-end : length times ≤ i → 0 ≡ PointsAnswer-refusal (points_at query (drop i times))
  unfolding points_at
  refusal-end h = rw (drop_of_length-le times {i = i} h)
