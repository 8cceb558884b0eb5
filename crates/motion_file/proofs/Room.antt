-- How many bytes the lines of a layout take at least, `conforms-room`, so that no file has room for more than 559 poses: `poses-room`.
use Prim.Native.Nat.{ℕ, zero, suc, ◌+◌, ◌*◌, ◌≤◌, ◌<◌}
use native.Mathlib.Nat.{mul-le-mul_right}
use native.Mathlib.Omega.{arith}
use mathlib.Core.Path.{◌≡◌, refl, sym, ap}
use mathlib.Core.Bool.{Bool, true, false, cond, ◌&&◌, and-eq-true_iff, false≢true}
use mathlib.Core.List.{List, [], ◌∷◌, ◌++◌}
use lib.Dec.{eqb, leb}
use lib.ListN.{length, replicate}
use borrow.Author.Tests.{eqb-true, leb-true}
use Rattle.hexadecimal.specs.Word.{digits_only}
use Rattle.motion_file.specs.Text.{ascii, line_feed, space, split, on_first, starts_with, single_spaced, equal}
use Rattle.motion_file.specs.Layout.{Line, names, values, bounds_names, layout, words, is_value, all_values, fits, conforms, max_bytes, pose_lines}
use Rattle.motion_file.specs.Layout.{max_pose_lines, keeps_columns}
use Rattle.motion_file.proofs.Pieces.{split-first}

-- the bytes of pieces, with one behind each
unfoldable spanned : List (List ℕ) → ℕ
spanned [] = 0
spanned (p ∷ ps) = suc (length p) + spanned ps

split-spanned : (b : ℕ) (s : List ℕ) → spanned (split b s) ≡ suc (length s)
unfolding split spanned
split-spanned b [] = refl
split-spanned b (c ∷ s) = go (eqb b c) (split b s) (split-first b s).0 (split-first b s).1 (split-spanned b s)
  where
    go : (t : Bool) (pieces : List (List ℕ)) {p : List ℕ} (ps : List (List ℕ)) → pieces ≡ p ∷ ps → spanned pieces ≡ suc (length s)
        → spanned (cond t ([] ∷ pieces) (on_first c pieces)) ≡ suc (suc (length s))
    go true pieces ps e h = omega (arith, h)
    go false pieces {p} ps e h = rw e (omega (arith, rw e at h))

single-shorter : (s : List ℕ) → length (single_spaced s) ≤ length s
unfolding single_spaced
single-shorter [] = omega arith
single-shorter (b ∷ s) = go (eqb space b && starts_with space s) (single-shorter s)
  where
    go : (t : Bool) → length (single_spaced s) ≤ length s → length (cond t (single_spaced s) (b ∷ single_spaced s)) ≤ suc (length s)
    go true h = omega (arith, h)
    go false h = omega (arith, h)

values-spanned : (ws : List (List ℕ)) → all_values ws ≡ true → spanned ws ≡ 9 * length ws
unfolding all_values spanned
values-spanned [] h = refl
values-spanned (w ∷ ws) h =
    let both = (and-eq-true_iff (is_value w) (all_values ws)).0 h in
    let eight = ((and-eq-true_iff (eqb (length w) 8) (digits_only w)).0 both.0).0 in
    omega (arith, eqb-true (length w) 8 eight, values-spanned ws both.1)

equal-length : (s t : List ℕ) → equal s t ≡ true → length s ≡ length t
unfolding equal
equal-length [] [] h = refl
equal-length [] (c ∷ t) h = absurd (false≢true h)
equal-length (b ∷ s) [] h = absurd (false≢true h)
equal-length (b ∷ s) (c ∷ t) h = ap suc (equal-length s t ((and-eq-true_iff (eqb b c) (equal s t)).0 h).1)

-- the least length of a line of a kind, its line feed with it
abbrev line_room : Line → ℕ
line_room (names text) = suc (length text)
line_room (values n) = 9 * n

fits-room : (kind : Line) (line : List ℕ) → fits kind line ≡ true → line_room kind ≤ suc (length line)
unfolding fits
fits-room (names text) line h = omega (arith, equal-length (single_spaced line) text h, single-shorter line)
fits-room (values n) line h =
    let both = (and-eq-true_iff (eqb (length (words line)) n) (all_values (words line))).0 h in
    let count = eqb-true (length (words line)) n both.0 in
    omega (arith, count, values-spanned (words line) both.1, split-spanned space (single_spaced line), single-shorter line)

unfoldable room : List Line → ℕ
room [] = 0
room (kind ∷ kinds) = line_room kind + room kinds

conforms-room : (kinds : List Line) (lines : List (List ℕ)) → conforms kinds lines ≡ true → room kinds < spanned lines
unfolding conforms room spanned
conforms-room [] [] h = absurd (false≢true h)
conforms-room [] (line ∷ lines) h = omega arith
conforms-room (kind ∷ kinds) [] h = absurd (false≢true h)
conforms-room (kind ∷ kinds) (line ∷ lines) h =
    let both = (and-eq-true_iff (fits kind line) (conforms kinds lines)).0 h in
    omega (arith, fits-room kind line both.0, conforms-room kinds lines both.1)

room-values : (k n : ℕ) (kinds : List Line) → room (replicate n (values k) ++ kinds) ≡ n * (9 * k) + room kinds
unfolding room
room-values k zero kinds = omega arith
room-values k (suc n) kinds = omega (arith, room-values k n kinds)

layout-room : (text : List ℕ) (columns n : ℕ) → room (layout text columns n) ≡ suc (length text) + (n * (9 * columns) + 72)
unfolding room ascii
layout-room text columns n = ap (λ (r : ℕ). suc (length text) + r) (room-values columns n (names bounds_names ∷ values 6 ∷ []))

pub poses-room : (text : List ℕ) (columns : ℕ) (s : List ℕ) → 13 ≤ columns → keeps_columns text columns s ≡ true → pose_lines (split line_feed s) ≤ max_pose_lines
unfolding keeps_columns
poses-room text columns s least h =
    let lines = split line_feed s in
    let n = pose_lines lines in
    let both = (and-eq-true_iff (leb (length s) max_bytes) (conforms (layout text columns n) lines)).0 h in
    let taken = conforms-room (layout text columns n) lines both.1 in
    let each : 117 * n ≤ 9 * columns * n = mul-le-mul_right n (omega (arith, least)) in
    omega (arith, leb-true (length s) max_bytes both.0, taken, layout-room text columns n, split-spanned line_feed s, each)
