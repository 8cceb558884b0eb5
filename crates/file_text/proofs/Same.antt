-- The written forms of files: `written_read`, that a file's holds what the file holds; hence `same-written` and, for accepted files, `same_bits`. Rests on
-- `read-written` and on what every file holds: poses of 13 values, the bottom row and a pad (`poses-held`), and a box of six (`bounds-held`).
use Prim.Native.Nat.{ℕ, zero, suc, ◌+◌, ◌≤◌}
use native.Mathlib.Numerals.{add-two}
use native.Mathlib.Omega.{arith}
use mathlib.Core.Path.{◌≡◌, refl, sym, ap, subst, ◌∙◌}
use mathlib.Core.Bool.{Bool, true, false, cond, ◌&&◌, and-eq-true_iff, false≢true}
use mathlib.Core.List.{List, [], ◌∷◌, ◌++◌, map}
use borrow.Author.Tests.{eqb-true}
use lib.Dec.{T, eqb, leb}
use lib.ListN.{length, get_or, take, drop, replicate, length-map, length-append}
use lib.Seq.{take_at, take_all, get_or-append-add}
use lib.Ieee.{Float, binary32, of_bits}
use lib.Ieee as ieee
use lib.Ieee.Bits.{of_bits-fits}
use lib.Ieee.Fits.{and_i}
use Rattle.motion_text.specs.hexadecimal.Word.{number}
use Rattle.motion_text.specs.bounds3.List.{Bounds3f-list, Bounds3f-of_list}
use Rattle.motion_text.specs.matrix4x4.IsAffine.{bottom_row}
use Rattle.built_poses.specs.motion_chain.Chain.{every, Chain}
use Rattle.built_poses.specs.motion_chain.Built.{Each}
use Rattle.built_poses.specs.Poses.{places_per_pose}
use Rattle.built_poses.proofs.Lists.{entries-all, built-lists}
use Rattle.motion_text.specs.motion_file.Text.{line_feed, split}
use Rattle.motion_text.specs.motion_file.declared.MoveFile.{MoveFile}
use Rattle.motion_text.specs.motion_file.Layout.{names, values, pose_names, padded_names, bounds_names, layout, words, value_of, all_values, fits, values_of, conforms, max_bytes}
use Rattle.motion_text.specs.motion_file.Layout.{pose_lines, keeps_columns, has_pads, keeps_layout, MoveFile-departs}
use Rattle.motion_text.specs.motion_file.Layout.{MoveFile-contents, pose_of_values, pose_of, MoveFile-read, MoveFile-poses}
use Rattle.motion_text.proofs.motion_file.Shapes.{Shaped, AllShaped, poses-shaped}
use Rattle.file_text.specs.Text.{pose_columns, pose_values, Chain-text, MoveFile-written}
use Rattle.file_text.specs.RoundTrip.{Floats, TextHolds}
use Rattle.file_text.specs.Theorem.{with_bottom_row, max_padded_lines, ReadsAs, HoldSame, WrittenRead, SameWritten, AcceptedWritten, SameBits}
use Rattle.file_text.proofs.Written.{all-posed, text-held, read-written, every_take, every_get, floats-behind}

-- ---- the values of a line
values-binary32 : (ws : List (List ℕ)) → T (every (ieee.fits binary32) (map value_of ws))
unfolding every
values-binary32 [] = tt
values-binary32 (w ∷ ws) =
    and_i (ieee.fits binary32 (value_of w)) (every (ieee.fits binary32) (map value_of ws)) (of_bits-fits binary32 (number w)) (values-binary32 ws)

line-floats : (n : ℕ) (line : List ℕ) → length (values_of line) ≡ n → Floats n (values_of line)
unfolding values_of
line-floats n line h = record { count = h; each-binary32 = values-binary32 (words line) }

front-floats : (n : ℕ) (line : List ℕ) → length (take n (values_of line)) ≡ n → Floats n (take n (values_of line))
unfolding values_of
front-floats n line h = record { count = h; each-binary32 = every_take n (map value_of (words line)) (values-binary32 (words line)) }

value-fits : (n : ℕ) (line : List ℕ) → T (ieee.fits binary32 (get_or (values_of line) n (of_bits binary32 0)))
unfolding values_of
value-fits n line = every_get n (map value_of (words line)) (values-binary32 (words line))

-- ---- the poses of a file
record Held (pose : List Float) : Type 0 where
  values : Floats pose_columns (pose_values pose)
  places : length pose ≡ places_per_pose
  bottom : with_bottom_row pose ≡ pose

-- thirteen values, the bottom row and a pad
module _ (read : List Float) (pad : Float) (thirteen : Floats 13 read) (fit : T (ieee.fits binary32 pad)) where
  abbrev pose : List Float
  pose = read ++ (bottom_row ++ (pad ∷ []))

  upper : take 13 pose ≡ read
  upper = take_at read (bottom_row ++ (pad ∷ [])) 13 thirteen.count

  last : get_or pose 17 (of_bits binary32 0) ≡ pad
  last =
      subst (λ (n : ℕ). get_or pose (n + 4) (of_bits binary32 0) ≡ pad) thirteen.count
      (get_or-append-add read (bottom_row ++ (pad ∷ [])) 4 (of_bits binary32 0))

  parts_held : Held pose
  parts_held =
      record {
        values = rw (upper, last) (floats-behind 13 read pad thirteen fit);
        places = length-append read (bottom_row ++ (pad ∷ [])) ∙ rw thirteen.count;
        bottom = rw (upper, last);
      }

pose-held : {padded : Bool} (line : List ℕ) → Shaped padded (pose_of line) → Held (pose_of line)
unfolding pose_of
pose-held line s =
    let pad = get_or (values_of line) 13 (of_bits binary32 0) in
    let behind = bottom_row ++ (pad ∷ []) in
    let size : length (pose_of line) ≡ length (s.read ++ (bottom_row ++ (s.pad ∷ []))) = ap (λ (pose : List Float). length pose) s.whole in
    let count : length (take 13 (values_of line)) ≡ 13 =
    omega (arith, size, length-append (take 13 (values_of line)) behind, length-append s.read (bottom_row ++ (s.pad ∷ [])), s.thirteen) in
    parts_held (take 13 (values_of line)) pad (front-floats 13 line count) (value-fits 13 line)

lines-held : (padded : Bool) (lines : List (List ℕ)) → AllShaped padded (map pose_of lines) → Each Held (map pose_of lines)
lines-held padded [] ss = tt
lines-held padded (line ∷ lines) (s, ss) = (pose-held line s, lines-held padded lines ss)

poses-held : (bytes : List ℕ) → Each Held (MoveFile-poses bytes)
unfolding MoveFile-poses
poses-held bytes = go (keeps_layout bytes) (poses-shaped bytes)
  where
    lines : List (List ℕ)
    lines = take (pose_lines (split line_feed bytes)) (drop 1 (split line_feed bytes))

    go : (b : Bool) → AllShaped (has_pads bytes) (cond b (map pose_of lines) []) → Each Held (cond b (map pose_of lines) [])
    go true ss = lines-held (has_pads bytes) lines ss
    go false ss = tt

-- ---- the box of a file

-- the line behind the names of the box
box-fits : (columns n : ℕ) (lines : List (List ℕ)) → conforms (replicate n (values columns) ++ (names bounds_names ∷ values 6 ∷ [])) lines ≡ true
    → fits (values 6) (get_or lines (suc n) []) ≡ true
unfolding conforms
box-fits columns zero [] h = absurd (false≢true h)
box-fits columns zero (line ∷ []) h = absurd (false≢true ((and-eq-true_iff (fits (names bounds_names) line) false).0 h).1)
box-fits columns zero (line ∷ box ∷ lines) h =
    let rest = ((and-eq-true_iff (fits (names bounds_names) line) (fits (values 6) box && conforms [] lines)).0 h).1 in
    ((and-eq-true_iff (fits (values 6) box) (conforms [] lines)).0 rest).0
box-fits columns (suc n) [] h = absurd (false≢true h)
box-fits columns (suc n) (line ∷ lines) h =
    box-fits columns n lines
    ((and-eq-true_iff (fits (values columns) line) (conforms (replicate n (values columns) ++ (names bounds_names ∷ values 6 ∷ [])) lines)).0 h).1

layout-box : (text : List ℕ) (columns n : ℕ) (lines : List (List ℕ))
    → conforms (layout text columns n) lines ≡ true → fits (values 6) (get_or lines (n + 2) []) ≡ true
unfolding conforms
layout-box text columns n [] h = absurd (false≢true h)
layout-box text columns n (line ∷ lines) h =
    rw (add-two n)
    (box-fits columns n lines
    ((and-eq-true_iff (fits (names text) line) (conforms (replicate n (values columns) ++ (names bounds_names ∷ values 6 ∷ [])) lines)).0 h).1)

values-count : (n : ℕ) (line : List ℕ) → fits (values n) line ≡ true → length (values_of line) ≡ n
unfolding fits values_of
values-count n line h =
    length-map (words line) value_of ∙ eqb-true (length (words line)) n ((and-eq-true_iff (eqb (length (words line)) n) (all_values (words line))).0 h).0

zeros : Floats 6 MoveFile-departs.bounds
unfolding every ieee.fits of_bits
zeros = record { count = refl; each-binary32 = tt }

bounds-held : (bytes : List ℕ) → Floats 6 (MoveFile-read bytes).bounds
unfolding MoveFile-read keeps_layout
bounds-held bytes = either (has_pads bytes)
  where
    lines : List (List ℕ)
    lines = split line_feed bytes

    go : (text : List ℕ) (columns : ℕ) (p q : Bool) → conforms (layout text columns (pose_lines lines)) lines ≡ q
        → Floats 6 (cond (p && q) (MoveFile-contents lines) MoveFile-departs).bounds
    go text columns true true e =
        let box = get_or lines (pose_lines lines + 2) [] in
        line-floats 6 box (values-count 6 box (layout-box text columns (pose_lines lines) lines e))
    go text columns true false e = zeros
    go text columns false q e = zeros

    of-columns : (text : List ℕ) (columns : ℕ) → Floats 6 (cond (keeps_columns text columns bytes) (MoveFile-contents lines) MoveFile-departs).bounds
    of-columns text columns =
        unfold keeps_columns in go text columns (leb (length bytes) max_bytes) (conforms (layout text columns (pose_lines lines)) lines) refl

    either : (b : Bool)
        → Floats 6 (cond (cond b (keeps_columns padded_names 14 bytes) (keeps_columns pose_names 13 bytes)) (MoveFile-contents lines) MoveFile-departs).bounds
    either true = of-columns padded_names 14
    either false = of-columns pose_names 13

-- ---- the written form
held-values : (poses : List (List Float)) → Each Held poses → Each (λ pose. Floats pose_columns (pose_values pose)) poses
held-values [] hs = tt
held-values (pose ∷ poses) (h, hs) = (h.values, held-values poses hs)

held-places : (poses : List (List Float)) → Each Held poses → Each (λ pose. length pose ≡ places_per_pose) poses
held-places [] hs = tt
held-places (pose ∷ poses) (h, hs) = (h.places, held-places poses hs)

held-bottom : (poses : List (List Float)) → Each Held poses → map with_bottom_row poses ≡ poses
held-bottom [] hs = refl
held-bottom (pose ∷ poses) (h, hs) =
    ap (λ (p : List Float). p ∷ map with_bottom_row poses) h.bottom ∙ ap (λ (ps : List (List Float)). pose ∷ ps) (held-bottom poses hs)

written-reads : (f : List ℕ) → length (MoveFile-poses f) ≤ max_padded_lines → ReadsAs (MoveFile-written f) (MoveFile-poses f) (MoveFile-read f).bounds
unfolding MoveFile-written
written-reads f room =
    read-written (MoveFile-poses f) (MoveFile-read f).bounds (held-values (MoveFile-poses f) (poses-held f)) room (bounds-held f)

pub written_read : (f : List ℕ) → WrittenRead f
written_read f room =
    let r = written-reads f room in (
      ap (λ (file : MoveFile). file.refusal) r.said,
      record {
        poses = r.same-poses ∙ held-bottom (MoveFile-poses f) (poses-held f);
        bounds = ap (λ (file : MoveFile). file.bounds) r.said;
      },
    )

-- what any file's written form holds, be it longer than a file may be
text_poses : List ℕ → List (List Float)
text_poses bytes = map pose_of_values (map values_of (take (pose_lines (split line_feed bytes)) (drop 1 (split line_feed bytes))))

text_bounds : List ℕ → List Float
text_bounds bytes = values_of (get_or (split line_feed bytes) (pose_lines (split line_feed bytes) + 2) [])

module _ (f : List ℕ) where
  holds : TextHolds (MoveFile-written f) padded_names pose_columns (map pose_values (MoveFile-poses f)) (MoveFile-read f).bounds
  unfolding MoveFile-written
  holds = text-held (MoveFile-poses f) (MoveFile-read f).bounds (held-values (MoveFile-poses f) (poses-held f)) (bounds-held f)

  written-poses : text_poses (MoveFile-written f) ≡ MoveFile-poses f
  unfolding text_poses
  written-poses =
      let poses = MoveFile-poses f in
      rw (holds.count, holds.values) (all-posed poses (held-values poses (poses-held f)) ∙ held-bottom poses (poses-held f))

  written-bounds : text_bounds (MoveFile-written f) ≡ (MoveFile-read f).bounds
  unfolding text_bounds
  written-bounds = rw holds.count holds.box

pub same-written : (f g : List ℕ) → SameWritten f g
same-written f g = (one_form, one-content)
  where
    one_form : HoldSame f g → MoveFile-written f ≡ MoveFile-written g
    one_form h = unfold MoveFile-written in rw (h.poses, h.bounds)

    one-content : MoveFile-written f ≡ MoveFile-written g → HoldSame f g
    one-content e =
        record {
          poses = sym (written-poses f) ∙ ap text_poses e ∙ written-poses g;
          bounds = sym (written-bounds f) ∙ ap text_bounds e ∙ written-bounds g;
        }

-- ---- accepted files
box-list : (l : List Float) → length l ≡ 6 → Bounds3f-list (Bounds3f-of_list l) ≡ l
box-list l h = entries-all l 6 0 (omega (arith, h)) ∙ take_all 6 l (omega (arith, h))

pub accepted-written : (f : List ℕ) (c : Chain) → AcceptedWritten f c
unfolding Chain-text MoveFile-written
accepted-written f c a =
    rw (
      built-lists false (MoveFile-poses f) c (held-places (MoveFile-poses f) (poses-held f)) a.chain,
      box-list (MoveFile-read f).bounds (bounds-held f).count,
    )

pub same_bits : (f g : List ℕ) → SameBits f g
same_bits f g c d a b = rw (accepted-written f c a, accepted-written g d b) (same-written f g)
