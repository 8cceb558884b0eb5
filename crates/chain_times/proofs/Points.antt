-- What the query leaves to its caller, in the four ways that it ends: `none_kept`, `list-refused`, `time-refused`, `all-answered`.
-- For the rows of a chain it is the chain's own.
use Prim.Native.Nat.{ℕ, ◌<◌}
use mathlib.Core.Path.{◌≡◌, refl, sym, ap, ◌∙◌}
use mathlib.Core.List.{List, [], ◌∷◌}
use native.Mathlib.Omega.{arith}
use borrow.Author.Tests.{eq-eqb, ne_eqb}
use lib.ListN.{length}
use lib.Ieee.{Float}
use Rattle.time_list.specs.matrix4x4.Rows.{Rows}
use Rattle.bounds3.specs.declared.Point3f.{Point3f}
use Rattle.time_list.specs.transform.Answer.{PointAnswer}
use Rattle.time_list.specs.motion_chain.Chain.{Chain}
use Rattle.time_list.specs.motion_chain.Times.{list_refusal, PointsAnswer, moved, refused, PointsAnswer-refusal}
use Rattle.time_list.specs.motion_chain.Times.{points_at, Chain-transform_points, PointsAnswer-left, Chain-points_left}
use Rattle.chain_rows.specs.Kept.{Chain-to_rows, Moves-transform_point, Moves-transform_points}
use Rattle.chain_rows.proofs.Kept.{kept-points}
use Rattle.stretch_points.specs.Points.{floats_at}
use Rattle.chain_times.proofs.Answers.{moves-point-nonzero, left-floats}

pub positive : (moves : List Rows) → (length moves ≡ 0 → ⊥) → 0 < length moves
positive [] f = absurd (f refl)
positive (m ∷ moves) f = omega arith

module _ (moves : List Rows) (times : List Float) (p : Point3f) (old : List Float) where
  abbrev answer : PointsAnswer
  answer = Moves-transform_points moves times p (length old)

  abbrev asked : Float → PointAnswer
  asked t = Moves-transform_point moves t p

  -- The clauses of the query: its number, what it leaves, and both for the rows of a chain.
  abbrev pub Clauses : ℕ → List Float → Type 0
  Clauses r out =
      (r ≡ PointsAnswer-refusal answer)
      × ((out ≡ PointsAnswer-left answer old)
      × ((c : Chain) → moves ≡ Chain-to_rows c
      → (r ≡ PointsAnswer-refusal (Chain-transform_points c times p (length old))) × (out ≡ Chain-points_left c times p old)))

  clauses : {r : ℕ} {out : List Float} → r ≡ PointsAnswer-refusal answer → out ≡ PointsAnswer-left answer old → Clauses r out
  clauses e f =
      let same : (c : Chain) → moves ≡ Chain-to_rows c → answer ≡ Chain-transform_points c times p (length old) =
      λ c k. kept-points moves c times p (length old) k in
      (e, (f, λ c k. (e ∙ ap PointsAnswer-refusal (same c k), f ∙ ap (λ (a : PointsAnswer). PointsAnswer-left a old) (same c k))))

  pub none_kept : length moves ≡ 0 → Clauses 12 old
  unfolding Moves-transform_points PointsAnswer-left
  none_kept e = clauses (rw (eq-eqb (length moves) 0 e)) (rw (eq-eqb (length moves) 0 e))

  module _ (some : length moves ≡ 0 → ⊥) where
    pub list-refused : {n : ℕ} → n ≡ list_refusal times p (length old) → (n ≡ 0 → ⊥) → Clauses n old
    unfolding Moves-transform_points PointsAnswer-left
    list-refused e f =
        let judged = ne_eqb (list_refusal times p (length old)) 0 (λ z. f (e ∙ z)) in
        clauses (rw (ne_eqb (length moves) 0 some, judged) e) (rw (ne_eqb (length moves) 0 some, judged))

    answer-passed : list_refusal times p (length old) ≡ 0 → answer ≡ points_at asked times
    unfolding Moves-transform_points
    answer-passed z = rw (ne_eqb (length moves) 0 some, eq-eqb (list_refusal times p (length old)) 0 z)

    left-refused : (r : PointsAnswer) → (PointsAnswer-refusal r ≡ 0 → ⊥) → old ≡ PointsAnswer-left r old
    unfolding PointsAnswer-left
    left-refused (moved qs) f = absurd (f refl)
    left-refused (refused n) f = refl

    pub time-refused : {n : ℕ} → list_refusal times p (length old) ≡ 0 → n ≡ PointsAnswer-refusal (points_at asked times) → (n ≡ 0 → ⊥) → Clauses n old
    time-refused z e f = clauses (rw (answer-passed z) e) (rw (answer-passed z) (left-refused (points_at asked times) (λ k. f (e ∙ k))))

    pub all-answered : {n : ℕ} {out : List Float} → list_refusal times p (length old) ≡ 0 → n ≡ PointsAnswer-refusal (points_at asked times) → n ≡ 0
        → out ≡ floats_at asked times → Clauses 0 out
    all-answered z e f w =
        let number : PointsAnswer-refusal (points_at asked times) ≡ 0 = sym e ∙ f in
        clauses (rw (answer-passed z) (sym number)) (rw (answer-passed z) (w ∙ sym (left-floats asked (moves-point-nonzero moves p) old times number)))
