-- Whole files by the places at which their lines end: `file-long`, `file-departs` and `file-contents` are the three ends that reading has, `file-poses` what
-- it puts where; `told`, that this is what a file says once its names are told. Rests on `Lines.antt` and `Room.antt`. Of what a file says: `read-refusals`,
-- `read_count`, `poses-length`. Poses put one after the other: `read-pose`, `pose-put`, `poses-put`, `pose-listed`.
use Prim.Native.Nat.{ℕ, zero, suc, ◌+◌, ◌-◌, ◌≤◌, ◌<◌}
use native.Mathlib.Nat.{zero-add, eq-or-lt_of_le}
use native.Mathlib.Numerals.{add-one}
use native.Mathlib.Omega.{arith}
use mathlib.Core.Path.{◌≡◌, refl, sym, ap, ◌∙◌}
use mathlib.Core.Bool.{Bool, true, false, cond, ◌&&◌, and-eq-true_iff}
use mathlib.Core.Logic.{◌⊎◌, inl, inr}
use mathlib.Core.List.{List, [], ◌∷◌, ◌++◌, map, append_assoc, append-nil}
use lib.Ieee.{Float, nan, binary32, of_bits}
use lib.Dec.{eqb, leb, ltb}
use lib.ListN.{length, get_or, set, take, drop, replicate, length-replicate, length-map, length-drop, drop_of_length-le, get_or-append, get_or-eq_default}
use lib.Seq.{take_at, take-append-le, get_or-append-add, get_or-drop, drop-cons, length-take-le, sets, sets-eq}
use borrow.Author.Tests.{le-leb, lt-leb, eqb-true, eq-eqb, ne_eqb}
use Rattle.matrix4x4.specs.IsAffine.{bottom_row}
use Rattle.motion_file.specs.Text.{line_feed, split}
use Rattle.motion_file.specs.Layout.{Line, names, values, pose_names, padded_names, bounds_names}
use Rattle.motion_file.specs.Layout.{layout, words, value_of, all_values, are_values, fits, conforms}
use Rattle.motion_file.specs.Layout.{max_bytes, max_pose_lines, pose_lines, keeps_columns, has_pads, keeps_layout}
use Rattle.motion_file.specs.Layout.{values_of, pose_of_values, pose_of, MoveFile-departs, MoveFile-contents, MoveFile-read, MoveFile-poses}
use Rattle.motion_file.specs.means.Columns.{MoveFile-read_as, MoveFile-poses_as}
use Rattle.motion_file.specs.declared.MoveFile.{MoveFile}
use Rattle.motion_file.specs.Front.{front}
use Rattle.motion_file.specs.means.Place.{line_length, line_at, past_end, after_line, through, lines_through}
use Rattle.motion_file.proofs.Lines.{through-append, lines-append, lines-length, through-conforms, through-begins, pieces-through, lines_from}
use Rattle.motion_file.proofs.Lines.{lines-from-next}
use Rattle.motion_file.proofs.Room.{poses-room}

-- ---- what a file says

-- a file is refused with 11 or not at all
pub read-refusals : (s : List ℕ) → ((MoveFile-read s).refusal ≡ 0) ⊎ (MoveFile-read s ≡ MoveFile-departs)
unfolding MoveFile-read
read-refusals s = go (keeps_layout s)
  where
    go : (p : Bool) → ((cond p (MoveFile-contents (split line_feed s)) MoveFile-departs).refusal ≡ 0)
        ⊎ (cond p (MoveFile-contents (split line_feed s)) MoveFile-departs ≡ MoveFile-departs)
    go true = inl refl
    go false = inr refl

-- the layout is that of fourteen names, or of thirteen
layout-columns : (s : List ℕ) → (keeps_layout s ≡ keeps_columns padded_names 14 s) ⊎ (keeps_layout s ≡ keeps_columns pose_names 13 s)
unfolding keeps_layout
layout-columns s = go (has_pads s)
  where
    go : (b : Bool) → let kept = cond b (keeps_columns padded_names 14 s) (keeps_columns pose_names 13 s) in
        (kept ≡ keeps_columns padded_names 14 s) ⊎ (kept ≡ keeps_columns pose_names 13 s)
    go true = inl refl
    go false = inr refl

pub read_count : (s : List ℕ) → (MoveFile-read s).count ≤ max_pose_lines
unfolding MoveFile-read
read_count s = go (keeps_layout s) refl
  where
    room : (keeps_layout s ≡ keeps_columns padded_names 14 s) ⊎ (keeps_layout s ≡ keeps_columns pose_names 13 s) → keeps_layout s ≡ true
        → pose_lines (split line_feed s) ≤ max_pose_lines
    room (inl k) e = poses-room padded_names 14 s (omega arith) (sym k ∙ e)
    room (inr k) e = poses-room pose_names 13 s (omega arith) (sym k ∙ e)

    go : (p : Bool) → keeps_layout s ≡ p → (cond p (MoveFile-contents (split line_feed s)) MoveFile-departs).count ≤ max_pose_lines
    go true e = room (layout-columns s) e
    go false e = omega arith

-- the poses are as many as are said
pub poses-length : (s : List ℕ) → length (MoveFile-poses s) ≡ (MoveFile-read s).count
unfolding MoveFile-read MoveFile-poses
poses-length s = go (keeps_layout s)
  where
    lines : List (List ℕ)
    lines = split line_feed s

    go : (p : Bool) → length (cond p (map pose_of (take (pose_lines lines) (drop 1 lines))) [])
        ≡ (cond p (MoveFile-contents lines) MoveFile-departs).count
    go true =
        length-map (take (pose_lines lines) (drop 1 lines)) pose_of
        ∙ length-take-le (pose_lines lines) (drop 1 lines) (rw (length-drop 1 lines) (omega arith))
    go false = refl

-- ---- the ends of reading

-- what reading gives, and what it leaves in the lent poses
abbrev pub Clauses : List ℕ → ℕ → List ℕ → List (List Float) → List (List Float) → MoveFile → Type 0
Clauses text columns s old left file =
    (file ≡ MoveFile-read_as text columns s) × ((left ≡ front (MoveFile-poses_as text columns s) old) × (file.count ≤ max_pose_lines))

-- once it is told which names a file has, it is read as a file with those
pub told : (b : Bool) (s : List ℕ) (old left : List (List Float)) (file : MoveFile)
    → has_pads s ≡ b → Clauses (cond b padded_names pose_names) (cond b 14 13) s old left file
    → (file ≡ MoveFile-read s) × ((left ≡ front (MoveFile-poses s) old) × (file.count ≤ max_pose_lines))
unfolding MoveFile-read MoveFile-poses MoveFile-read_as MoveFile-poses_as keeps_layout
told true s old left file e h = rw e h
told false s old left file e h = rw e h

module _ (text : List ℕ) (columns : ℕ) where
  departs-clauses : (s : List ℕ) (old : List (List Float)) → keeps_columns text columns s ≡ false → Clauses text columns s old old MoveFile-departs
  unfolding MoveFile-read_as MoveFile-poses_as
  departs-clauses s old e = (rw e, (rw e, omega arith))

  pub file-long : (s : List ℕ) (old : List (List Float)) → max_bytes < length s → Clauses text columns s old old MoveFile-departs
  file-long s old h = departs-clauses s old (unfold keeps_columns in rw (lt-leb (length s) max_bytes h))

box_lines : List Line
box_lines = names bounds_names ∷ values 6 ∷ []

module _ (text : List ℕ) (columns : ℕ) (least : 13 ≤ columns) (s : List ℕ) (m : length s ≤ max_bytes) (n a b c e : ℕ)
    (en : n ≡ pose_lines (split line_feed s))
    (ea : a ≡ after_line (names text) s 0)
    (eb : b ≡ through (replicate n (values columns)) s a)
    (ec : c ≡ after_line (names bounds_names) s b)
    (ee : e ≡ after_line (values 6) s c) where
  leads : through (layout text columns n) s 0 ≡ e
  unfolding through box_lines
  leads = through-append (replicate n (values columns)) box_lines s (after_line (names text) s 0) ∙ rw (ee, ec, eb, ea)

  keeps : keeps_columns text columns s ≡ eqb e (length s)
  unfolding keeps_columns
  keeps = rw (le-leb (length s) max_bytes m, ← en) (through-conforms s m (layout text columns n) 0 (omega arith) ∙ rw leads)

  pub file-departs : (old : List (List Float)) → (e ≡ length s → ⊥) → Clauses text columns s old old MoveFile-departs
  file-departs old h = departs-clauses text columns s old (keeps ∙ ne_eqb e (length s) h)

  -- where the last line ends with the file
  module _ (h : e ≡ length s) where
    kept : keeps_columns text columns s ≡ true
    kept = keeps ∙ eq-eqb e (length s) h

    -- the lines of poses lead to a place in the file, and there is room for them
    pub file-poses : through (replicate n (values columns)) s a ≤ length s
    unfolding through box_lines
    file-poses = rw (← eb) (through-begins s m box_lines b (rw (← ec, ← ee) (omega arith)))

    pub file-room : n ≤ max_pose_lines
    file-room = rw en (poses-room text columns s least kept)

    pose_texts : List (List ℕ)
    pose_texts = lines_through (replicate n (values columns)) s a

    texts-length : length pose_texts ≡ n
    unfolding pose_texts
    texts-length = lines-length (replicate n (values columns)) s a ∙ length-replicate n (values columns)

    pieces : split line_feed s ≡ line_at s 0 ∷ (pose_texts ++ (line_at s b ∷ line_at s c ∷ split line_feed (drop e s)))
    unfolding through lines_through box_lines pose_texts
    pieces =
        let whole = pieces-through s m (layout text columns n) 0 (rw leads (omega arith)) in
        whole
        ∙ rw (leads, lines-append (replicate n (values columns)) box_lines s (after_line (names text) s 0), ← ea, ← eb, ← ec)
        (ap (λ (ls : List (List ℕ)). line_at s 0 ∷ ls) (append_assoc pose_texts (line_at s b ∷ line_at s c ∷ []) (split line_feed (drop e s))))

    pose-lines : take n (drop 1 (split line_feed s)) ≡ pose_texts
    pose-lines = rw pieces (take_at pose_texts (line_at s b ∷ line_at s c ∷ split line_feed (drop e s)) n texts-length)

    box-line : get_or (split line_feed s) (n + 2) [] ≡ line_at s c
    box-line =
        let place : n + 2 ≡ length (line_at s 0 ∷ pose_texts) + 1 = omega (arith, texts-length) in
        rw (pieces, place) (get_or-append-add (line_at s 0 ∷ pose_texts) (line_at s b ∷ line_at s c ∷ split line_feed (drop e s)) 1 [])

    pub file-contents : (old left : List (List Float)) (z : List Float)
        → left ≡ front (map pose_of (lines_through (replicate n (values columns)) s a)) old → (e ≤ length s → z ≡ values_of (line_at s c))
        → Clauses text columns s old left (record { count = n; bounds = z; refusal = 0 })
    unfolding MoveFile-read_as MoveFile-poses_as pose_texts
    file-contents old left z el ez = (rw (kept, ← en, box-line, ez (omega arith)), (rw (kept, ← en, pose-lines) el, file-room))

-- ---- poses put one after the other

-- a line that stands has as many values as are asked for
pub line-length : (columns : ℕ) (s : List ℕ) (at : ℕ) → length s ≤ max_bytes
    → after_line (values columns) s at ≤ length s → length (values_of (line_at s at)) ≡ columns
unfolding after_line fits values_of
line-length columns s at m h = go (ltb (at + line_length s at) (length s)) (are_values columns (words (line_at s at))) refl h
  where
    go : (p q : Bool) → are_values columns (words (line_at s at)) ≡ q → cond (p && q) (at + line_length s at + 1) past_end ≤ length s
        → length (map value_of (words (line_at s at))) ≡ columns
    go true true e h =
        let ws = words (line_at s at) in
        length-map ws value_of ∙ eqb-true (length ws) columns ((and-eq-true_iff (eqb (length ws) columns) (all_values ws)).0 e).0
    go true false e h = absurd (omega (arith, m, h))
    go false q e h = absurd (omega (arith, m, h))

module _ (columns : ℕ) (least : 13 ≤ columns) (most : columns ≤ 14) where
  -- a line's values put into the front of fourteen places of +0 give the same pose as the values
  line-pose : (line : List Float) → length line ≡ columns → pose_of_values (line ++ drop columns (replicate 14 (of_bits binary32 0))) ≡ pose_of_values line
  line-pose line size = rw (take-append-le 13 line rest (omega (arith, least, size)), pad (eq-or-lt_of_le most))
    where
      o : Float
      o = of_bits binary32 0

      rest : List Float
      rest = drop columns (replicate 14 o)

      zeros : (n i : ℕ) → get_or (replicate n o) i o ≡ o
      zeros zero i = refl
      zeros (suc n) zero = refl
      zeros (suc n) (suc i) = zeros n i

      pad : (columns ≡ 14) ⊎ (columns < 14) → get_or (line ++ rest) 13 o ≡ get_or line 13 o
      pad (inl e) = get_or-append line rest o 13 (omega (arith, size, e))
      pad (inr l) =
          let place : length line + 0 ≡ 13 = omega (arith, least, size, l) in
          let behind : get_or (line ++ rest) (length line + 0) o ≡ o =
          get_or-append-add line rest 0 o ∙ (get_or-drop columns (replicate 14 o) 0 o ∙ zeros 14 (columns + 0)) in
          rw place at behind ∙ sym (get_or-eq_default line o {n = 13} (omega (arith, least, size, l)))

  pub read-pose : {line read : List Float} → line ≡ read → length read ≡ columns
      → pose_of_values (line ++ drop columns (replicate 14 (of_bits binary32 0))) ≡ pose_of_values read
  read-pose {line} {read} e size = rw e (line-pose read size)

  pub pose-put : (s : List ℕ) (count i at next : ℕ) (places : List (List Float)) {pose : List Float}
      → i < count → next ≡ after_line (values columns) s at → pose ≡ pose_of_values (values_of (line_at s at))
      → sets (set places i pose) (i + 1) (map pose_of (lines_from (values columns) s count (i + 1) next))
      ≡ sets places i (map pose_of (lines_from (values columns) s count i at))
  unfolding pose_of
  pose-put s count i at next places h en ep = rw (lines-from-next (values columns) s count i at h, en, ep, add-one i)

-- the poses put into the front of `old`, which is lent as a part of it
pub poses-put : (columns : ℕ) (s : List ℕ) (count at : ℕ) (old : List (List Float)) {part : List (List Float)} → count ≤ length old
    → let poses = map pose_of (lines_through (replicate count (values columns)) s at) in
    part ≡ sets (take count old) 0 poses → part ++ drop count old ≡ front poses old
poses-put columns s count at old h e =
    let lines = lines_through (replicate count (values columns)) s at in
    let few : length (map pose_of lines) ≡ count =
    length-map lines pose_of ∙ lines-length (replicate count (values columns)) s at ∙ length-replicate count (values columns) in
    let size = length-take-le count old h in
    rw (
      e,
      few,
      sets-eq (map pose_of lines) (take count old) 0 (omega (arith, few, size)),
      zero-add (length (map pose_of lines)),
      drop_of_length-le (take count old) {i = length (map pose_of lines)} (omega (arith, few, size)),
      append-nil,
    )

-- ---- a pose of fourteen values, item by item

-- n items from place i on
unfoldable pub items : ℕ → ℕ → List Float → List Float
items zero i l = []
items (suc n) i l = get_or l i nan ∷ items n (suc i) l

items-taken : (n i : ℕ) (l : List Float) → i + n ≤ length l → items n i l ≡ take n (drop i l)
unfolding items
items-taken zero i l h = refl
items-taken (suc n) i l h = rw (drop-cons l i nan (omega (arith, h))) (ap (λ (r : List Float). get_or l i nan ∷ r) (items-taken n (suc i) l (omega (arith, h))))

any-default : (l : List Float) (i : ℕ) (d e : Float) → i < length l → get_or l i d ≡ get_or l i e
any-default [] i d e h = absurd (omega (arith, h))
any-default (x ∷ l) zero d e h = refl
any-default (x ∷ l) (suc i) d e h = any-default l i d e (omega (arith, h))

pub pose-listed : (l : List Float) → length l ≡ 14 → items 13 0 l ++ (bottom_row ++ (get_or l 13 nan ∷ [])) ≡ pose_of_values l
pose-listed l h = rw (items-taken 13 0 l (omega (arith, h)), any-default l 13 nan (of_bits binary32 0) (omega (arith, h)))
