-- A row that is not named holds no padded point: `rows_apart`, of any cover, since the cover holds every such point and does not meet the row;
-- `kept-rows-apart`, of the cover of a built chain, by that cover's guarantee. The clauses of the query, from what was named: `rows-refused`, `rows_named`.
use Rattle.std.specs.Prelude.{Ok}
use Prim.Native.Nat.{ℕ, zero, suc, ◌+◌, ◌-◌, ◌<◌}
use mathlib.Core.Logic.{inl}
use mathlib.Core.Path.{◌≡◌, refl, sym, subst}
use mathlib.Core.Bool.{Bool, true, false}
use mathlib.Core.List.{List, [], ◌∷◌}
use native.Mathlib.Omega.{arith}
use borrow.Author.Tests.{ne_eqb}
use lib.ListN.{length, take, replicate}
use lib.Seq.{take-append_seam}
use lib.Ieee.{Float}
use Rattle.bounds3.specs.declared.Point3f.{Point3f}
use Rattle.bounds3.specs.declared.Bounds3f.{Bounds3f}
use Rattle.bounds3.proofs.Union.{subset-inside}
use Rattle.bounds_query.specs.transform.Answer.{OneOf, PointAnswer-point}
use Rattle.bounds_query.proofs.transform.Answer.{one-of-cond}
use Rattle.bounds_overlap.specs.Meets.{Bounds3f-meets}
use Rattle.bounds_overlap.proofs.Overlap.{apart-inside}
use Rattle.window_pairs.specs.motion_cover.Theorem.{MovedInside}
use Rattle.window_pairs.specs.chain_rows.Kept.{Moves-transform_point, Moves-pad_at}
use Rattle.window_pairs.proofs.chain_rows.Contains.{kept-contains}
use Rattle.window_pairs.proofs.window_meetings.Apart.{padded-subset}
use Rattle.reached_rows.specs.Rows.{max_rows, rows_refusal, met_from, reached_rows, rows_left}
use Rattle.reached_rows.specs.means.Named.{Named-Holds}
use Rattle.reached_rows.specs.Theorem.{row_at, RowsApart, KeptRowsApart}

-- ---- a row that is not named is not met
met-named : (cover : Bounds3f) (first k : ℕ) (rows : List Bounds3f) → k < length rows → Bounds3f-meets cover (row_at rows k) ≡ true
    → OneOf (first + k) (met_from cover first rows)
unfolding met_from
met-named cover first k [] h m = absurd (omega (arith, h))
met-named cover first zero (row ∷ rows) h m = rw m (inl (omega arith))
met-named cover first (suc k) (row ∷ rows) h m =
    let s : first + suc k ≡ suc first + k = omega arith in
    let later = met-named cover (suc first) k rows (omega (arith, h)) m in
    rw s (one-of-cond (Bounds3f-meets cover row) (suc first + k) first (met_from cover (suc first) rows) later)

not-met : (cover : Bounds3f) (rows : List Bounds3f) (k : ℕ) → k < length rows → (OneOf k (met_from cover 0 rows) → ⊥)
    → Bounds3f-meets cover (row_at rows k) ≡ false
not-met cover rows k h off = go (Bounds3f-meets cover (row_at rows k)) refl
  where
    go : (b : Bool) → Bounds3f-meets cover (row_at rows k) ≡ b → b ≡ false
    go true e =
        let s : 0 + k ≡ k = omega arith in
        absurd (off (subst (λ (n : ℕ). OneOf n (met_from cover 0 rows)) s (met-named cover 0 k rows h e)))
    go false e = refl

-- ---- the two statements
pub rows_apart : (cover : Bounds3f) (rows : List Bounds3f) → RowsApart cover rows (met_from cover 0 rows)
rows_apart cover rows k pad q p h off i at =
    apart-inside cover (row_at rows k) p (not-met cover rows k h off) (subset-inside (padded-subset pad (Ok q) i) at)

pub kept-rows-apart : (cover : Bounds3f) (rows : List Bounds3f) → KeptRowsApart cover rows (met_from cover 0 rows)
kept-rows-apart cover rows moves b depth k time p built none same h off number i =
    let m : MovedInside cover (Moves-pad_at moves time) (Moves-transform_point moves time p) =
    subst (λ (box : Bounds3f). MovedInside box (Moves-pad_at moves time) (Moves-transform_point moves time p)) same
    ((kept-contains moves b depth none).at-time time p built number i) in
    record {
      answered = m.accepted;
      apart = λ q at. rows_apart cover rows k (Moves-pad_at moves time) (PointAnswer-point (Moves-transform_point moves time p)) q h off m.inside at;
    }

-- ---- the clauses
abbrev Clauses : Bounds3f → List Bounds3f → List ℕ → List ℕ → ℕ → ℕ → Type 0
Clauses cover rows old new n count =
    (n ≡ rows_refusal cover rows)
    × ((count ≡ length (reached_rows cover rows))
    × ((new ≡ rows_left cover rows old)
    × ((n ≡ 0 → RowsApart cover rows (take count new))
    × (n ≡ 0 → KeptRowsApart cover rows (take count new)))))

module _ (cover : Bounds3f) (rows : List Bounds3f) (old : List ℕ) where
  pub rows-refused : {n : ℕ} → n ≡ rows_refusal cover rows → (n ≡ 0 → ⊥) → Clauses cover rows old old n 0
  unfolding reached_rows rows_left
  rows-refused {n} e z = (e, (rw (← e, ne_eqb n 0 z), (rw (← e, ne_eqb n 0 z), (λ h. absurd (z h), λ h. absurd (z h)))))

  pub rows_named : {new : List ℕ} {count : ℕ} → rows_refusal cover rows ≡ 0 → Named-Holds (met_from cover 0 rows) new count → Clauses cover rows old new 0 count
  unfolding reached_rows rows_left
  rows_named {new} {count} e h =
      let named = met_from cover 0 rows in
      let front : named ≡ take count new = sym (rw (h.front, h.counted) (take-append_seam named (replicate (max_rows - length named) 0))) in
      let apart = subst (RowsApart cover rows) front (rows_apart cover rows) in
      let kept = subst (KeptRowsApart cover rows) front (kept-rows-apart cover rows) in
      (sym e, (rw e h.counted, (rw e h.front, (λ _. apart, λ _. kept))))
