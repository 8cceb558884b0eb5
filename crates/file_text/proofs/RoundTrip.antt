-- What is written is read back: `round_trip`, over any names and any number of columns. Line feeds cut the text into its lines (`file-pieces`), each of which
-- is as `Line.antt` says.
use Prim.Native.Nat.{ℕ, zero, suc, ◌+◌}
use native.Mathlib.Nat.{not-suc-le-zero}
use native.Mathlib.Omega.{arith}
use mathlib.Core.Path.{◌≡◌, refl, sym, ap, ◌∙◌}
use mathlib.Core.Bool.{Bool, true, false, cond}
use mathlib.Core.List.{List, [], ◌∷◌, ◌++◌, map, append_assoc, append-nil}
use borrow.Author.Tests.{eq-eqb}
use lib.Dec.{eqb}
use lib.ListN.{length, get_or, drop, replicate, length-map, length-append}
use lib.Seq.{take_at, get_or-append-add}
use lib.Ieee.{Float}
use Rattle.built_poses.specs.motion_chain.Built.{Each}
use Rattle.motion_text.specs.motion_file.Text.{ascii, line_feed, on_first, split, single_spaced, equal}
use Rattle.motion_text.specs.motion_file.Layout.{Line, names, values, bounds_names, layout, conforms, fits, values_of}
use Rattle.motion_text.specs.Answer.{bounds_text}
use Rattle.file_text.specs.Text.{values_text, lines_text, file_text}
use Rattle.file_text.specs.RoundTrip.{Floats, NamesLine, TextHolds, RoundTrip}
use Rattle.file_text.proofs.Line.{Without, split-line, joined, line-joined, joined-feedless, joined-fits, joined-values}

-- ---- names

-- the pieces without the first byte of the first
abbrev off_first : List (List ℕ) → List (List ℕ)
off_first [] = []
off_first (p ∷ ps) = drop 1 p ∷ ps

off-on : (b : ℕ) (ps : List (List ℕ)) → off_first (on_first b ps) ≡ ps
off-on b [] = refl
off-on b (p ∷ ps) = refl

-- a text that a byte doesn't cut is without it
one_piece : (b : ℕ) (s : List ℕ) → split b s ≡ s ∷ [] → Without b s
unfolding split
one_piece b [] e = tt
one_piece b (c ∷ s) e = go (eqb b c) refl e (one_piece b s)
  where
    go : (t : Bool) → eqb b c ≡ t → cond t ([] ∷ split b s) (on_first c (split b s)) ≡ (c ∷ s) ∷ []
        → (split b s ≡ s ∷ [] → Without b s) → Without b (c ∷ s)
    go true f e ih = absurd (omega (arith, ap (λ (ps : List (List ℕ)). length (get_or ps 0 [])) e))
    go false f e ih = (f, ih (sym (off-on c (split b s)) ∙ ap off_first e))

equal-same : (s : List ℕ) → equal s s ≡ true
unfolding equal
equal-same [] = refl
equal-same (b ∷ s) = rw (eq-eqb b b refl, equal-same s)

names-fit : (text : List ℕ) → NamesLine text → fits (names text) text ≡ true
unfolding fits
names-fit text h = rw h.single-spaced (equal-same text)

bounds-names : NamesLine bounds_names
unfolding ascii split single_spaced
bounds-names = record { one_line = refl; single-spaced = refl }

-- ---- lines
-- a line of values without its line feed
abbrev line_of : List Float → List ℕ
line_of [] = []
line_of (x ∷ xs) = joined x xs

record Written (columns : ℕ) (values' : List Float) : Type 0 where
  piece : (t : List ℕ) → split line_feed (values_text values' ++ t) ≡ line_of values' ∷ split line_feed t
  kind : fits (values columns) (line_of values') ≡ true
  same : values_of (line_of values') ≡ values'

written : (n : ℕ) (xs : List Float) → Floats (suc n) xs → Written (suc n) xs
written n [] h = absurd (omega (arith, h.count))
written n (x ∷ xs) h =
    record {
      piece = λ t. rw (line-joined x xs t) (split-line line_feed (joined x xs) t (joined-feedless x xs));
      kind = joined-fits x xs (suc n) h.count;
      same = joined-values x xs h.each-binary32;
    }

module _ (n : ℕ) where
  lines-pieces : (lines : List (List Float)) (t : List ℕ) → Each (Floats (suc n)) lines
      → split line_feed (lines_text lines ++ t) ≡ map line_of lines ++ split line_feed t
  unfolding lines_text
  lines-pieces [] t hs = refl
  lines-pieces (xs ∷ lines) t (h, hs) =
      ap (split line_feed) (append_assoc (values_text xs) (lines_text lines) t)
      ∙ (written n xs h).piece (lines_text lines ++ t)
      ∙ ap (λ (ps : List (List ℕ)). line_of xs ∷ ps) (lines-pieces lines t hs)

  lines-conform : (lines : List (List Float)) (kinds : List Line) (pieces : List (List ℕ)) → Each (Floats (suc n)) lines
      → conforms (replicate (length lines) (values (suc n)) ++ kinds) (map line_of lines ++ pieces) ≡ conforms kinds pieces
  unfolding conforms
  lines-conform [] kinds pieces hs = refl
  lines-conform (xs ∷ lines) kinds pieces (h, hs) = rw (written n xs h).kind (lines-conform lines kinds pieces hs)

  lines-values : (lines : List (List Float)) → Each (Floats (suc n)) lines → map values_of (map line_of lines) ≡ lines
  lines-values [] hs = refl
  lines-values (xs ∷ lines) (h, hs) = rw ((written n xs h).same, lines-values lines hs)

-- ---- the box
module _ (bounds : List Float) (h : Floats 6 bounds) where
  box-pieces : split line_feed (bounds_text bounds) ≡ bounds_names ∷ line_of bounds ∷ [] ∷ []
  unfolding bounds_text split
  box-pieces =
      split-line line_feed bounds_names (values_text bounds) (one_piece line_feed bounds_names bounds-names.one_line)
      ∙ ap (λ (ps : List (List ℕ)). bounds_names ∷ ps) (ap (split line_feed) (sym (append-nil (values_text bounds))) ∙ (written 5 bounds h).piece [])

  box-conforms : conforms (names bounds_names ∷ values 6 ∷ []) (bounds_names ∷ line_of bounds ∷ [] ∷ []) ≡ true
  unfolding conforms equal
  box-conforms = rw (names-fit bounds_names bounds-names, (written 5 bounds h).kind)

-- ---- the file
module _ (text : List ℕ) (n : ℕ) (lines : List (List Float)) (bounds : List Float)
    (named : NamesLine text) (each : Each (Floats (suc n)) lines) (box : Floats 6 bounds) where
  behind : List (List ℕ)
  behind = bounds_names ∷ line_of bounds ∷ [] ∷ []

  file-pieces : split line_feed (file_text text lines bounds) ≡ text ∷ (map line_of lines ++ behind)
  unfolding file_text behind
  file-pieces =
      split-line line_feed text (lines_text lines ++ bounds_text bounds) (one_piece line_feed text named.one_line)
      ∙ ap (λ (ps : List (List ℕ)). text ∷ ps) (lines-pieces n lines (bounds_text bounds) each ∙ rw (box-pieces bounds box))

  file-conforms : conforms (layout text (suc n) (length lines)) (text ∷ (map line_of lines ++ behind)) ≡ true
  unfolding conforms behind
  file-conforms =
      rw (names-fit text named)
      (lines-conform n lines (names bounds_names ∷ values 6 ∷ []) behind each ∙ box-conforms bounds box)

  few : length (map line_of lines) ≡ length lines
  few = length-map lines line_of

  holds : TextHolds (file_text text lines bounds) text (suc n) lines bounds
  unfolding behind
  holds =
      let place : length lines + 2 ≡ length (text ∷ map line_of lines) + 1 = omega (arith, few) in
      record {
        kept = rw file-pieces file-conforms;
        count = rw (file-pieces, length-append (map line_of lines) behind, few) (omega arith);
        values = rw (file-pieces, take_at (map line_of lines) behind (length lines) few) (lines-values n lines each);
        box = rw (file-pieces, place, get_or-append-add (text ∷ map line_of lines) behind 1 []) (written 5 bounds box).same;
      }

pub round_trip : (text : List ℕ) (columns : ℕ) → RoundTrip text columns
round_trip text zero lines bounds named some each box = absurd (not-suc-le-zero some)
round_trip text (suc n) lines bounds named some each box = holds text n lines bounds named each box
