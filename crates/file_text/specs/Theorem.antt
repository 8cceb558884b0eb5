-- What is written of poses and a box is read back with the same bits, and the written forms of two files tell whether the files hold the same bits.
--
-- Quotations are of document 02, "One way to write a move file". A float stands for its bits; a NaN, which has many, is in no accepted file. The statements of
-- `read-written`, `chain-read-written`, `built-read-written`, `move-text-length`, `chain-text-length`, `Written-Read`, `same-written`, `accepted-written` and
-- `same_bits`.
use Rattle.std.specs.Prelude.{ℕ, ◌+◌, ◌*◌, ◌≤◌, ◌<◌, ◌≡◌, ◌↔◌, Bool, false, List, [], ◌∷◌, ◌++◌, map, length, get_or, take, Float}
use Rattle.std.specs.Float.{binary32}
use Rattle.std.specs.Float.Ieee.{of_bits}
use Rattle.motion_text.specs.bounds3.declared.Bounds3f.{Bounds3f}
use Rattle.motion_text.specs.bounds3.List.{Bounds3f-list}
use Rattle.motion_text.specs.matrix4x4.IsAffine.{bottom_row}
use Rattle.built_poses.specs.bounds_query.Query.{Bounds3f-refusal}
use Rattle.built_poses.specs.motion_chain.Chain.{Chain, Chain-moves, built, Chain-new}
use Rattle.built_poses.specs.motion_chain.Built.{Each}
use Rattle.built_poses.specs.chain_poses.Poses.{Poses-of_lists}
use Rattle.built_poses.specs.Poses.{Chain-poses, places_per_pose, Poses-lists}
use Rattle.motion_text.specs.motion_file.Layout.{MoveFile-read, MoveFile-box, MoveFile-poses}
use Rattle.file_text.specs.Text.{pose_columns, pose_values, MoveFile-text, Chain-text, MoveFile-written}
use Rattle.file_text.specs.RoundTrip.{Floats}

-- ---- what is written

-- a pose with the bottom row 0 0 0 1, its zeros +0
abbrev pub with_bottom_row : List Float → List Float
with_bottom_row pose = take 13 pose ++ (bottom_row ++ (get_or pose 17 (of_bits binary32 0) ∷ []))

-- "Reading it gives the same bits, a bottom row's zeros as +0."
pub record ReadsAs (bytes : List ℕ) (poses : List (List Float)) (bounds : List Float) : Type 0 where
  pub said : MoveFile-read bytes ≡ record { count = length poses; bounds = bounds; refusal = 0 }
  pub same-poses : MoveFile-poses bytes ≡ map with_bottom_row poses

-- a file of fourteen names has room for so many poses
abbrev pub max_padded_lines : ℕ
max_padded_lines = 519

-- of any poses for which such a file has room
abbrev pub ReadWritten : List (List Float) → List Float → Type 0
ReadWritten poses bounds =
    Each (λ pose. Floats pose_columns (pose_values pose)) poses → length poses ≤ max_padded_lines → Floats 6 bounds
    → ReadsAs (MoveFile-text poses bounds) poses bounds

-- of any chain, and a box
abbrev pub ChainReadWritten : Chain → Bounds3f → Type 0
ChainReadWritten c b =
    Each (Floats places_per_pose) (Poses-lists (Chain-poses c)) → length (Chain-moves c) < max_padded_lines → Floats 6 (Bounds3f-list b)
    → ReadsAs (Chain-text c b) (Poses-lists (Chain-poses c)) (Bounds3f-list b)

-- of a chain that was built from poses in a lent array, as rigid or not: these are read
abbrev pub BuiltReadWritten : Bool → List (List Float) → Bounds3f → Type 0
BuiltReadWritten rigid poses b =
    (c : Chain) → Each (Floats places_per_pose) poses → Chain-new rigid (Poses-of_lists poses) ≡ built c → Floats 6 (Bounds3f-list b)
    → ReadsAs (Chain-text c b) poses (Bounds3f-list b)

-- the lines of names have 57 and 18 bytes, a pose's 126, a box's 54
abbrev pub MoveTextLength : List (List Float) → List Float → Type 0
MoveTextLength poses bounds =
    Each (λ pose. places_per_pose ≤ length pose) poses → length bounds ≡ 6
    → length (MoveFile-text poses bounds) ≡ 57 + 126 * length poses + 72

abbrev pub ChainTextLength : Chain → Bounds3f → Type 0
ChainTextLength c b =
    Each (λ pose. places_per_pose ≤ length pose) (Poses-lists (Chain-poses c))
    → length (Chain-text c b) ≡ 57 + 126 * (length (Chain-moves c) + 1) + 72

-- ---- the written forms of files

-- two files hold the same
pub record HoldSame (f g : List ℕ) : Type 0 where
  pub poses : MoveFile-poses f ≡ MoveFile-poses g
  pub bounds : (MoveFile-read f).bounds ≡ (MoveFile-read g).bounds

-- of any bytes, since those that depart from the layout are read as no poses and a box of +0: the written form keeps the layout and holds what they hold, where
-- it has room for their poses, which of thirteen names may be more,
abbrev pub WrittenRead : List ℕ → Type 0
WrittenRead f = length (MoveFile-poses f) ≤ max_padded_lines → ((MoveFile-read (MoveFile-written f)).refusal ≡ 0) × HoldSame (MoveFile-written f) f

-- and tells what they hold, however many
abbrev pub SameWritten : List ℕ → List ℕ → Type 0
SameWritten f g = HoldSame f g ↔ (MoveFile-written f ≡ MoveFile-written g)

-- "accepted files (refused neither for layout, chain nor box)": c is a file's chain
pub record MoveFile-Accepted (bytes : List ℕ) (c : Chain) : Type 0 where
  pub layout : (MoveFile-read bytes).refusal ≡ 0
  pub chain : Chain-new false (Poses-of_lists (MoveFile-poses bytes)) ≡ built c
  pub box : Bounds3f-refusal (MoveFile-box bytes) ≡ 0

-- what is written of an accepted file's chain and box is its written form,
abbrev pub AcceptedWritten : List ℕ → Chain → Type 0
AcceptedWritten f c = MoveFile-Accepted f c → Chain-text c (MoveFile-box f) ≡ MoveFile-written f

-- and "Two accepted files .. hold the same bits exactly when their written forms are the same bytes."
abbrev pub SameBits : List ℕ → List ℕ → Type 0
SameBits f g =
    (c d : Chain) → MoveFile-Accepted f c → MoveFile-Accepted g d
    → (HoldSame f g ↔ (Chain-text c (MoveFile-box f) ≡ Chain-text d (MoveFile-box g)))
