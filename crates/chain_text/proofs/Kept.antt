-- What is written of the rows of a built chain is the chain's own text, `kept-text`, which is read back: `written_back`.
use Prim.Native.Nat.{◌≤◌, ◌<◌}
use native.Mathlib.Omega.{arith}
use mathlib.Core.Path.{◌≡◌, refl, ap, subst, ◌∙◌}
use mathlib.Core.Bool.{Bool, true, false}
use mathlib.Core.List.{List, [], ◌∷◌, map}
use lib.Dec.{T, leb}
use lib.ListN.{length, get_or-eq_default}
use lib.Ieee.{Float, nan, le, lt, eq, of_bits}
use borrow.Author.Tests.{leb-true, leb-false}
use Rattle.motion_text.specs.matrix4x4.Rows.{Rows}
use Rattle.bounds3.specs.declared.Bounds3f.{Bounds3f}
use Rattle.bounds3.specs.List.{Bounds3f-list}
use Rattle.lent_arrays.specs.pose_pair.Pose.{Pose-is_padded}
use Rattle.lent_arrays.specs.Arrays.{Pose-of_list}
use Rattle.chain_rows.specs.motion_chain.Chain.{Chain, built, Chain-new}
use Rattle.chain_rows.specs.motion_chain.Built.{Each}
use Rattle.chain_rows.proofs.motion_chain.Built.{checks-passed, new-built}
use Rattle.kept_poses.specs.chain_poses.Poses.{Poses-of_lists}
use Rattle.chain_rows.specs.Kept.{Chain-to_rows, Moves-chain}
use Rattle.chain_rows.proofs.Kept.{chain-inverse}
use Rattle.kept_poses.specs.built_poses.Poses.{Poses-lists, Chain-poses, places_per_pose}
use Rattle.kept_poses.proofs.built_poses.Built.{built-poses}
use Rattle.motion_text.specs.motion_file.Layout.{padded_names}
use Rattle.file_text.specs.Text.{pose_columns, pose_values, file_text, MoveFile-text, Chain-text}
use Rattle.file_text.specs.RoundTrip.{Floats}
use Rattle.file_text.specs.Theorem.{ReadsAs}
use Rattle.file_text.proofs.Written.{read-written, built-room}
use Rattle.chain_text.specs.Write.{Pose-values, Moves-text}
use Rattle.chain_text.specs.Theorem.{WrittenBack}
use Rattle.chain_text.proofs.Floats.{values_same}

-- of poses in lists, both ways to take a line's values are one
lines_same : (lists : List (List Float)) → map Pose-values (Poses-of_lists lists) ≡ map pose_values (Poses-lists (Poses-of_lists lists))
unfolding Poses-of_lists Poses-lists
lines_same [] = refl
lines_same (l ∷ lists) = ap (λ (lines : List (List Float)). Pose-values (Pose-of_list l) ∷ lines) (lines_same lists)

kept-poses : (rigid : Bool) (rows : List Rows) (lists : List (List Float)) (c : Chain)
    → Chain-new rigid (Poses-of_lists lists) ≡ built c → rows ≡ Chain-to_rows c → Chain-poses (Moves-chain rows) ≡ Poses-of_lists lists
kept-poses rigid rows lists c s e = rw (e, chain-inverse c) (built-poses rigid (Poses-of_lists lists) c s)

pub kept-text : (rigid : Bool) (rows : List Rows) (b : Bounds3f) (lists : List (List Float)) (c : Chain)
    → Chain-new rigid (Poses-of_lists lists) ≡ built c → rows ≡ Chain-to_rows c
    → Moves-text rows b ≡ Chain-text c b
unfolding Moves-text Chain-text MoveFile-text
kept-text rigid rows b lists c s e =
    rw (kept-poses rigid rows lists c s e, built-poses rigid (Poses-of_lists lists) c s, lines_same lists)

-- ---- what was built has all its places: a pad that isn't there would be a NaN
long-list : (l : List Float) → T (Pose-is_padded (Pose-of_list l)) → places_per_pose ≤ length l
unfolding Pose-is_padded le lt eq of_bits
long-list l h = go (leb places_per_pose (length l)) (leb-true places_per_pose (length l)) (leb-false places_per_pose (length l))
  where
    go : (s : Bool) → (s ≡ true → places_per_pose ≤ length l) → (s ≡ false → length l < places_per_pose) → places_per_pose ≤ length l
    go true f g = f refl
    go false f g = let short = g refl in absurd (rw (get_or-eq_default l nan {n = 17} (omega (arith, short))) at h)

long-lists : (lists : List (List Float)) → Each (λ p. T (Pose-is_padded p)) (Poses-of_lists lists) → Each (λ l. places_per_pose ≤ length l) lists
unfolding Poses-of_lists
long-lists [] hs = tt
long-lists (l ∷ lists) (h, hs) = (long-list l h, long-lists lists hs)

-- such lists' lines are those of their poses, and 32-bit floats where these are
long-lines : (lists : List (List Float)) → Each (λ l. places_per_pose ≤ length l) lists → map Pose-values (Poses-of_lists lists) ≡ map pose_values lists
unfolding Poses-of_lists
long-lines [] hs = refl
long-lines (l ∷ lists) (h, hs) = rw (values_same l h, long-lines lists hs)

long-floats : (lists : List (List Float)) → Each (Floats pose_columns) (map pose_values lists) → Each (λ l. Floats pose_columns (pose_values l)) lists
long-floats [] hs = tt
long-floats (l ∷ lists) (h, hs) = (h, long-floats lists hs)

module _ (rows : List Rows) (b : Bounds3f)
    (floats : Each (Floats pose_columns) (map Pose-values (Chain-poses (Moves-chain rows)))) (box : Floats 6 (Bounds3f-list b)) where
  reads : (rigid : Bool) (lists : List (List Float)) (c : Chain) → Chain-new rigid (Poses-of_lists lists) ≡ built c → rows ≡ Chain-to_rows c
      → ReadsAs (Moves-text rows b) lists (Bounds3f-list b)
  unfolding Moves-text MoveFile-text
  reads rigid lists c s e =
      let passed = checks-passed rigid (Poses-of_lists lists) (new-built rigid (Poses-of_lists lists) c s).0 in
      let lines : map Pose-values (Chain-poses (Moves-chain rows)) ≡ map pose_values lists =
      ap (map Pose-values) (kept-poses rigid rows lists c s e) ∙ long-lines lists (long-lists lists passed.padded) in
      let each = long-floats lists (subst (Each (Floats pose_columns)) lines floats) in
      rw lines (read-written lists (Bounds3f-list b) each (built-room rigid lists c s) box)

  pub written_back : WrittenBack rows b (Moves-text rows b)
  written_back = record { own-text = λ rigid lists c s e. kept-text rigid rows b lists c s e; reads-back = reads }
