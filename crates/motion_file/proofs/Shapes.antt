-- The poses of a file have 13 values of the file's, the bottom row and a pad, of which time and pad are binary32,
-- and the pad is +0 where the names are the old thirteen: `poses-shaped`.
use Prim.Native.Nat.{ℕ, zero, suc, ◌≤◌}
use native.Mathlib.Omega.{arith}
use mathlib.Core.Path.{◌≡◌, refl, sym, ◌∙◌}
use mathlib.Core.Bool.{Bool, true, false, cond, ◌&&◌, and-eq-true_iff, false≢true}
use mathlib.Core.List.{List, [], ◌∷◌, ◌++◌, map}
use lib.Dec.{T, eqb, leb}
use lib.Ieee.{Float, binary32, fits as fits_format, nan, of_bits}
use lib.Ieee.Bits.{of_bits-fits}
use lib.ListN.{length, get_or, take, drop, replicate, length-map, get_or-eq_default}
use lib.Seq.{length-take-le}
use borrow.Author.Tests.{eqb-true}
use Rattle.hexadecimal.specs.Word.{number}
use Rattle.matrix4x4.specs.IsAffine.{bottom_row}
use Rattle.motion_file.specs.Text.{line_feed, split}
use Rattle.motion_file.specs.Layout.{Line, names, values, pose_names, padded_names, bounds_names}
use Rattle.motion_file.specs.Layout.{layout, words, value_of, all_values, fits, values_of, conforms}
use Rattle.motion_file.specs.Layout.{max_bytes, pose_lines, keeps_columns, has_pads, keeps_layout, pose_of, MoveFile-poses}

pub record Shaped (padded : Bool) (pose : List Float) : Type 0 where
  pub read : List Float
  pub pad : Float
  pub thirteen : length read ≡ 13
  pub whole : pose ≡ read ++ (bottom_row ++ (pad ∷ []))
  pub time-binary32 : T (fits_format binary32 (get_or read 0 nan))
  pub pad-binary32 : T (fits_format binary32 pad)
  pub pad-unread : padded ≡ false → pad ≡ of_bits binary32 0

abbrev pub AllShaped : Bool → List (List Float) → Type 0
AllShaped padded [] = Unit {0}
AllShaped padded (pose ∷ poses) = Shaped padded pose × AllShaped padded poses

value-fits : (ws : List (List ℕ)) (i : ℕ) → T (fits_format binary32 (get_or (map value_of ws) i (of_bits binary32 0)))
value-fits [] i = of_bits-fits binary32 0
value-fits (w ∷ ws) zero = of_bits-fits binary32 (number w)
value-fits (w ∷ ws) (suc i) = value-fits ws i

first_fits : (n : ℕ) (ws : List (List ℕ)) → 1 ≤ length ws → T (fits_format binary32 (get_or (take (suc n) (map value_of ws)) 0 nan))
first_fits n [] h = absurd (omega (arith, h))
first_fits n (w ∷ ws) h = of_bits-fits binary32 (number w)

module _ (padded : Bool) (columns : ℕ) (least : 13 ≤ columns) (old : padded ≡ false → columns ≡ 13) where
  line-shaped : (line : List ℕ) → fits (values columns) line ≡ true → Shaped padded (pose_of line)
  unfolding fits values_of pose_of
  line-shaped line h =
      let count = ((and-eq-true_iff (eqb (length (words line)) columns) (all_values (words line))).0 h).0 in
      let size : length (words line) ≡ columns = eqb-true (length (words line)) columns count in
      let l = length-map (words line) value_of in
      record {
        read = take 13 (values_of line);
        pad = get_or (values_of line) 13 (of_bits binary32 0);
        thirteen = length-take-le 13 (values_of line) (omega (arith, l, size, least));
        whole = refl;
        time-binary32 = first_fits 12 (words line) (omega (arith, size, least));
        pad-binary32 = value-fits (words line) 13;
        pad-unread = λ e. let n = old e in get_or-eq_default (values_of line) (of_bits binary32 0) {n = 13} (omega (arith, l, size, n));
      }

  lines-shaped : (n : ℕ) (kinds : List Line) (lines : List (List ℕ))
      → conforms (replicate n (values columns) ++ kinds) lines ≡ true → AllShaped padded (map pose_of (take n lines))
  unfolding conforms
  lines-shaped zero kinds lines h = tt
  lines-shaped (suc n) kinds [] h = absurd (false≢true h)
  lines-shaped (suc n) kinds (line ∷ lines) h =
      let both = (and-eq-true_iff (fits (values columns) line) (conforms (replicate n (values columns) ++ kinds) lines)).0 h in
      (line-shaped line both.0, lines-shaped n kinds lines both.1)

  layout-shaped : (text : List ℕ) (n : ℕ) (lines : List (List ℕ))
      → conforms (layout text columns n) lines ≡ true → AllShaped padded (map pose_of (take n (drop 1 lines)))
  unfolding conforms
  layout-shaped text n [] h = absurd (false≢true h)
  layout-shaped text n (line ∷ lines) h =
      lines-shaped n (names bounds_names ∷ values 6 ∷ []) lines
      ((and-eq-true_iff (fits (names text) line) (conforms (replicate n (values columns) ++ (names bounds_names ∷ values 6 ∷ [])) lines)).0 h).1

  columns-shaped : (text s : List ℕ)
      → AllShaped padded (cond (keeps_columns text columns s) (map pose_of (take (pose_lines (split line_feed s)) (drop 1 (split line_feed s)))) [])
  unfolding keeps_columns
  columns-shaped text s = go (leb (length s) max_bytes) (conforms (layout text columns (pose_lines (split line_feed s))) (split line_feed s)) refl
    where
      go : (p q : Bool) → conforms (layout text columns (pose_lines (split line_feed s))) (split line_feed s) ≡ q
          → AllShaped padded (cond (p && q) (map pose_of (take (pose_lines (split line_feed s)) (drop 1 (split line_feed s)))) [])
      go true true e = layout-shaped text (pose_lines (split line_feed s)) (split line_feed s) e
      go true false e = tt
      go false q e = tt

pub poses-shaped : (s : List ℕ) → AllShaped (has_pads s) (MoveFile-poses s)
unfolding MoveFile-poses keeps_layout
poses-shaped s = go (has_pads s)
  where
    go : (b : Bool) → AllShaped b (cond (cond b (keeps_columns padded_names 14 s) (keeps_columns pose_names 13 s))
        (map pose_of (take (pose_lines (split line_feed s)) (drop 1 (split line_feed s)))) [])
    go true = columns-shaped true 14 (omega arith) (λ e. absurd (false≢true (sym e))) padded_names s
    go false = columns-shaped false 13 (omega arith) (λ _. refl) pose_names s
