-- Rows by computing. A cover with three rows is accepted, so that what is promised of a row that is not named is promised of one (`third-apart`): the first
-- touches the cover and is named, the second meets it, the third does not. 256 rows are accepted, 257 are not; the order of the numbers.
use Prim.Native.Nat.{ℕ}
use mathlib.Core.Path.{◌≡◌, refl, subst}
use mathlib.Core.Bool.{false}
use mathlib.Core.List.{List, [], ◌∷◌}
use lib.ListN.{replicate}
use lib.Ieee.{Float, nan, binary32, round, le, lt}
use Rattle.bounds3.specs.declared.Bounds3f.{Bounds3f}
use Rattle.bounds3.specs.means.Computing as bounds3
use Rattle.bounds_overlap.specs.Meets.{Bounds3f-meets}
use Rattle.bounds_query.specs.Query.{Bounds3f-is_ordered, Bounds3f-refusal}
use Rattle.window_pairs.specs.motion_chain.Chain.{first_number}
use Rattle.reached_rows.specs.Rows.{rows_refusal, met_from, reached_rows}
use Rattle.reached_rows.specs.Theorem.{RowsApart}
use Rattle.reached_rows.proofs.Apart.{rows_apart}

unfoldable computing : Unit {0}
unfolding le lt bounds3.computing Bounds3f-meets Bounds3f-is_ordered Bounds3f-refusal first_number rows_refusal met_from reached_rows
computing = tt

abbrev whole : ℕ → Float
whole n = round binary32 false n 1

-- A box over the numbers from low to high along x.
abbrev along : Float → Float → Bounds3f
along low high =
    let o = whole 0 in
    let one = whole 1 in
    record { p_min = record { x = low; y = o; z = o }; p_max = record { x = high; y = one; z = one } }

abbrev over : ℕ → ℕ → Bounds3f
over low high = along (whole low) (whole high)

abbrev three : List Bounds3f
three = over 0 2 ∷ over 3 5 ∷ over 7 8 ∷ []

pub three-accepted : rows_refusal (over 2 6) three ≡ 0
unfolding computing
three-accepted = refl

pub two-named : reached_rows (over 2 6) three ≡ 0 ∷ 1 ∷ []
unfolding computing
two-named = refl

pub third-apart : RowsApart (over 2 6) three (0 ∷ 1 ∷ [])
third-apart = subst (RowsApart (over 2 6) three) met (rows_apart (over 2 6) three)
  where
    met : met_from (over 2 6) 0 three ≡ 0 ∷ 1 ∷ []
    met = unfold computing in refl

none-14 : rows_refusal (along nan nan) [] ≡ 14
unfolding computing
none-14 = refl

rows-257-before-6 : rows_refusal (along nan nan) (replicate 257 (along nan nan)) ≡ 14
unfolding computing
rows-257-before-6 = refl

rows-256 : rows_refusal (over 0 1) (replicate 256 (over 1 2)) ≡ 0
unfolding computing
rows-256 = refl

cover-7-before-6 : rows_refusal (over 1 0) (along nan nan ∷ []) ≡ 7
unfolding computing
cover-7-before-6 = refl

first-row-7-before-6 : rows_refusal (over 0 1) (over 0 1 ∷ over 1 0 ∷ along nan nan ∷ []) ≡ 7
unfolding computing
first-row-7-before-6 = refl
