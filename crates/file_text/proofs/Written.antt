-- Poses and a box that were written are read back: `read-written`; those of a chain: `chain-read-written`; those that a chain was built from:
-- `built-read-written`. Rests on `RoundTrip.antt` and `Length.antt`, and on `built-lists` of crates/built_poses.
use Prim.Native.Nat.{ℕ, zero, suc, ◌+◌, ◌≤◌}
use native.Mathlib.Omega.{arith}
use mathlib.Core.Path.{◌≡◌, refl, ap, ◌∙◌}
use mathlib.Core.Bool.{Bool, true, and-eq-true_iff, false≢true}
use mathlib.Core.List.{List, [], ◌∷◌, ◌++◌, map}
use borrow.Author.Tests.{le-leb}
use lib.Dec.{T}
use lib.ListN.{length, get_or, take, drop, replicate, length-map, length-append}
use lib.Seq.{length-take-le, take_at, get_or_at}
use lib.Ieee.{Float, binary32, of_bits}
use lib.Ieee as ieee
use lib.Ieee.Bits.{of_bits-fits}
use lib.Ieee.Fits.{and_l, and_r, and_i}
use Rattle.motion_text.specs.bounds3.declared.Bounds3f.{Bounds3f}
use Rattle.motion_text.specs.bounds3.List.{Bounds3f-list}
use Rattle.built_poses.specs.motion_chain.Chain.{every, Chain, built, Chain-new}
use Rattle.built_poses.specs.motion_chain.Built.{Each}
use Rattle.built_poses.proofs.motion_chain.Built.{checks-passed, new-built}
use Rattle.built_poses.specs.lent_arrays.Arrays.{Pose-of_list}
use Rattle.built_poses.specs.chain_poses.Poses.{Poses-of_lists}
use Rattle.built_poses.specs.Poses.{places_per_pose, Chain-poses, Poses-lists}
use Rattle.built_poses.proofs.Lists.{built-lists, poses-count}
use Rattle.motion_text.specs.motion_file.Text.{ascii, line_feed, split, single_spaced}
use Rattle.motion_text.specs.motion_file.Layout.{names, values, padded_names, bounds_names, layout, conforms, fits, max_bytes}
use Rattle.motion_text.specs.motion_file.Layout.{keeps_columns, has_pads, keeps_layout, values_of, pose_of_values, pose_of}
use Rattle.motion_text.specs.motion_file.Layout.{MoveFile-read, MoveFile-poses}
use Rattle.file_text.specs.Text.{pose_columns, pose_values, file_text, MoveFile-text, Chain-text}
use Rattle.file_text.specs.RoundTrip.{Floats, NamesLine, TextHolds}
use Rattle.file_text.specs.Theorem.{with_bottom_row, max_padded_lines, ReadsAs, ReadWritten, ChainReadWritten, BuiltReadWritten}
use Rattle.file_text.proofs.RoundTrip.{round_trip}
use Rattle.file_text.proofs.Length.{text-length}

pub pose-names : NamesLine padded_names
unfolding ascii split single_spaced
pose-names = record { one_line = refl; single-spaced = refl }

-- ---- a text that holds poses and a box keeps the layout
values-floats : (poses : List (List Float)) → Each (λ pose. Floats pose_columns (pose_values pose)) poses → Each (Floats pose_columns) (map pose_values poses)
values-floats [] hs = tt
values-floats (pose ∷ poses) (h, hs) = (h, values-floats poses hs)

values-counts : (lines : List (List Float)) → Each (Floats pose_columns) lines → Each (λ xs. length xs ≡ pose_columns) lines
values-counts [] hs = tt
values-counts (xs ∷ lines) (h, hs) = (h.count, values-counts lines hs)

-- the pose of a pose's values
pub values-posed : (pose : List Float) → Floats pose_columns (pose_values pose) → pose_of_values (pose_values pose) ≡ with_bottom_row pose
values-posed pose h =
    let pad = get_or pose 17 (of_bits binary32 0) in
    let upper : length (take 13 pose) ≡ 13 = omega (arith, h.count, length-append (take 13 pose) (pad ∷ [])) in
    let last : get_or (pose_values pose) 13 (of_bits binary32 0) ≡ pad = get_or_at (take 13 pose) pad [] (of_bits binary32 0) 13 upper in
    rw (take_at (take 13 pose) (pad ∷ []) 13 upper, last)

pub all-posed : (poses : List (List Float)) → Each (λ pose. Floats pose_columns (pose_values pose)) poses
    → map pose_of_values (map pose_values poses) ≡ map with_bottom_row poses
all-posed [] hs = refl
all-posed (pose ∷ poses) (h, hs) =
    ap (λ (p : List Float). p ∷ map pose_of_values (map pose_values poses)) (values-posed pose h)
    ∙ ap (λ (ps : List (List Float)). with_bottom_row pose ∷ ps) (all-posed poses hs)

pub lines-poses : (lines : List (List ℕ)) → map pose_of lines ≡ map pose_of_values (map values_of lines)
unfolding pose_of
lines-poses [] = refl
lines-poses (line ∷ lines) = rw (lines-poses lines)

-- the first line is the fourteen names
names-first : (text : List ℕ) (n : ℕ) (lines : List (List ℕ)) → conforms (layout text pose_columns n) lines ≡ true → fits (names text) (get_or lines 0 []) ≡ true
unfolding conforms
names-first text n [] h = absurd (false≢true h)
names-first text n (line ∷ lines) h =
    ((and-eq-true_iff (fits (names text) line) (conforms (replicate n (values pose_columns) ++ (names bounds_names ∷ values 6 ∷ [])) lines)).0 h).0

pub text-held : (poses : List (List Float)) (bounds : List Float) → Each (λ pose. Floats pose_columns (pose_values pose)) poses → Floats 6 bounds
    → TextHolds (MoveFile-text poses bounds) padded_names pose_columns (map pose_values poses) bounds
unfolding MoveFile-text
text-held poses bounds each box = round_trip padded_names pose_columns (map pose_values poses) bounds pose-names (omega arith) (values-floats poses each) box

module _ (poses : List (List Float)) (bounds : List Float)
    (each : Each (λ pose. Floats pose_columns (pose_values pose)) poses) (room : length poses ≤ max_padded_lines) (box : Floats 6 bounds) where
  lists : List (List Float)
  lists = map pose_values poses

  text : List ℕ
  text = file_text padded_names lists bounds

  held : TextHolds text padded_names pose_columns lists bounds
  unfolding lists text
  held = round_trip padded_names pose_columns lists bounds pose-names (omega arith) (values-floats poses each) box

  many : length lists ≡ length poses
  unfolding lists
  many = length-map poses pose_values

  bytes : length text ≤ max_bytes
  unfolding lists text ascii
  bytes =
      let size = text-length padded_names pose_columns lists bounds (values-counts lists (values-floats poses each)) box.count in
      omega (arith, size, many, room)

  kept : keeps_layout text ≡ true
  unfolding keeps_layout has_pads keeps_columns
  kept =
      rw (names-first padded_names (length lists) (split line_feed text) held.kept, le-leb (length text) max_bytes bytes, held.count) held.kept

  reads_as : ReadsAs text poses bounds
  unfolding MoveFile-read MoveFile-poses lists
  reads_as =
      record {
        said = rw (kept, held.count, held.box, many);
        same-poses =
            rw (kept, held.count)
            (lines-poses (take (length lists) (drop 1 (split line_feed text))) ∙ ap (map pose_of_values) held.values ∙ all-posed poses each);
      }

pub read-written : (poses : List (List Float)) (bounds : List Float) → ReadWritten poses bounds
unfolding MoveFile-text lists text
read-written poses bounds each room box = reads_as poses bounds each room box

-- ---- a chain
pub every_take : (n : ℕ) (xs : List Float) → T (every (ieee.fits binary32) xs) → T (every (ieee.fits binary32) (take n xs))
unfolding every
every_take zero xs h = tt
every_take (suc n) [] h = tt
every_take (suc n) (x ∷ xs) h =
    and_i (ieee.fits binary32 x) (every (ieee.fits binary32) (take n xs))
    (and_l (ieee.fits binary32 x) (every (ieee.fits binary32) xs) h)
    (every_take n xs (and_r (ieee.fits binary32 x) (every (ieee.fits binary32) xs) h))

pub floats-take : (n k : ℕ) (xs : List Float) → n ≤ k → Floats k xs → Floats n (take n xs)
floats-take n k xs le h = record { count = length-take-le n xs (omega (arith, le, h.count)); each-binary32 = every_take n xs h.each-binary32 }

pub every_get : (n : ℕ) (xs : List Float) → T (every (ieee.fits binary32) xs) → T (ieee.fits binary32 (get_or xs n (of_bits binary32 0)))
unfolding every
every_get n [] h = of_bits-fits binary32 0
every_get zero (x ∷ xs) h = and_l (ieee.fits binary32 x) (every (ieee.fits binary32) xs) h
every_get (suc n) (x ∷ xs) h = every_get n xs (and_r (ieee.fits binary32 x) (every (ieee.fits binary32) xs) h)

-- one value more
every-behind : (xs : List Float) (x : Float) → T (every (ieee.fits binary32) xs) → T (ieee.fits binary32 x) → T (every (ieee.fits binary32) (xs ++ (x ∷ [])))
unfolding every
every-behind [] x h f = and_i (ieee.fits binary32 x) true f tt
every-behind (y ∷ ys) x h f =
    and_i (ieee.fits binary32 y) (every (ieee.fits binary32) (ys ++ (x ∷ [])))
    (and_l (ieee.fits binary32 y) (every (ieee.fits binary32) ys) h)
    (every-behind ys x (and_r (ieee.fits binary32 y) (every (ieee.fits binary32) ys) h) f)

pub floats-behind : (n : ℕ) (xs : List Float) (x : Float) → Floats n xs → T (ieee.fits binary32 x) → Floats (n + 1) (xs ++ (x ∷ []))
floats-behind n xs x h f = record { count = length-append xs (x ∷ []) ∙ rw h.count; each-binary32 = every-behind xs x h.each-binary32 f }

poses-floats : (poses : List (List Float)) → Each (Floats places_per_pose) poses → Each (λ pose. Floats pose_columns (pose_values pose)) poses
poses-floats [] hs = tt
poses-floats (pose ∷ poses) (h, hs) =
    let pad = get_or pose 17 (of_bits binary32 0) in
    (floats-behind 13 (take 13 pose) pad (floats-take 13 places_per_pose pose (omega arith) h) (every_get 17 pose h.each-binary32), poses-floats poses hs)

poses-places : (poses : List (List Float)) → Each (Floats places_per_pose) poses → Each (λ pose. length pose ≡ places_per_pose) poses
poses-places [] hs = tt
poses-places (pose ∷ poses) (h, hs) = (h.count, poses-places poses hs)

pub chain-read-written : (c : Chain) (b : Bounds3f) → ChainReadWritten c b
unfolding Chain-text
chain-read-written c b each few box =
    read-written (Poses-lists (Chain-poses c)) (Bounds3f-list b) (poses-floats (Poses-lists (Chain-poses c)) each) (omega (arith, few, poses-count c)) box

-- ---- a built chain has at most 32 poses
pub built-room : (rigid : Bool) (poses : List (List Float)) (c : Chain) → Chain-new rigid (Poses-of_lists poses) ≡ built c → length poses ≤ max_padded_lines
unfolding Poses-of_lists
built-room rigid poses c e =
    let passed = checks-passed rigid (Poses-of_lists poses) (new-built rigid (Poses-of_lists poses) c e).0 in
    omega (arith, passed.greatest, length-map poses Pose-of_list)

pub built-read-written : (rigid : Bool) (poses : List (List Float)) (b : Bounds3f) → BuiltReadWritten rigid poses b
unfolding Chain-text
built-read-written rigid poses b c each e box =
    rw (built-lists rigid poses c (poses-places poses each) e)
    (read-written poses (Bounds3f-list b) (poses-floats poses each) (built-room rigid poses c e) box)
