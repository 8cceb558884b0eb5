-- The number of the times that are left, asked of the moves that are left, as a loop over the moves finds it: `number-here`, `number-next`, `number-last`.
use Prim.Native.Nat.{ℕ, suc, ◌+◌, ◌-◌, ◌<◌}
use mathlib.Core.Path.{◌≡◌, sym, ap, ◌∙◌}
use mathlib.Core.List.{List, []}
use lib.Dec.{T}
use lib.ListN.{length, take, drop, get_or}
use lib.Ieee.{Float}
use Rattle.time_list.specs.matrix4x4.Rows.{Rows}
use Rattle.bounds3.specs.declared.Point3f.{Point3f}
use Rattle.stretch_points.proofs.motion_rows.NonZero.{rows-point-nonzero}
use Rattle.time_list.specs.motion_chain.Times.{never_falls, PointsAnswer-refusal, PointsAnswer-append, points_at}
use Rattle.time_list.specs.motion_chain.Stretches.{count_up_to}
use Rattle.time_list.proofs.motion_chain.Stretches.{points-append, points-same}
use Rattle.chain_rows.proofs.Search.{end_time}
use Rattle.chain_times.proofs.Answers.{append-refused, append-accepted, points-nonzero}
use Rattle.chain_times.proofs.Stretches.{asked_from, own, stretch-split, stretch-last}

module _ (moves : List Rows) (p : Point3f) (times : List Float) (i from : ℕ) where
  abbrev number_from : ℕ → ℕ → ℕ
  number_from k n = PointsAnswer-refusal (points_at (asked_from moves p k) (drop n times))

  abbrev stretch_number : ℕ → ℕ
  stretch_number to = PointsAnswer-refusal (points_at (own moves p i) (take (to - from) (drop from times)))

  module _ {to n : ℕ} (h : suc i < length moves) (rises : T (never_falls (drop from times)))
      (e : to ≡ from + count_up_to (end_time moves i) (drop from times)) (asked : n ≡ stretch_number to) where
    split : points_at (asked_from moves p i) (drop from times)
        ≡ PointsAnswer-append (points_at (own moves p i) (take (to - from) (drop from times))) (points_at (asked_from moves p (i + 1)) (drop to times))
    split = stretch-split moves p points_at points-same times i from PointsAnswer-append points-append h rises e

    pub number-here : (n ≡ 0 → ⊥) → n ≡ number_from i from
    number-here f = rw split (append-refused _ _ asked f)

    pub number-next : n ≡ 0 → number_from (i + 1) to ≡ number_from i from
    number-next z =
        let nonzero = points-nonzero (own moves p i) (λ t. rows-point-nonzero (get_or moves i []) t p) (take (to - from) (drop from times)) in
        rw split (append-accepted _ _ nonzero asked z)

  pub number-last : {n : ℕ} → suc i ≡ length moves → n ≡ stretch_number (length times) → n ≡ number_from i from
  number-last h asked = asked ∙ ap PointsAnswer-refusal (sym (stretch-last moves p points_at points-same times i from h))
