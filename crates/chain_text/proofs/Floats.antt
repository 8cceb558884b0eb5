-- What is written are 32-bit floats, since the rows and the box that are lent are: of an array that a function is handed by value, `array-floats`; of such a
-- box, `box-floats`; of a pose's line, `pose-floats`; of the moves' ends, one more, `ends_next`; of all lines, `lines-floats`.
use Prim.Native.Nat.{ℕ, zero, suc, ◌+◌, ◌≤◌, ◌<◌}
use native.Mathlib.Omega.{arith}
use mathlib.Core.Path.{◌≡◌, refl, ap, subst}
use mathlib.Core.Bool.{true}
use mathlib.Core.List.{List, [], ◌∷◌, map}
use lib.Dec.{T}
use lib.ListN.{length, get_or, take, drop}
use lib.Seq.{drop-cons}
use lib.Ieee.{Float, nan, binary32, of_bits, fits}
use lib.Ieee.Fits.{and_i}
use mir.Val.{Val}
use denote.Array.{each}
use denote.Floats.{FloatOf, passes}
use denote.Shadow.{shadow}
use Rattle.motion_text.specs.matrix4x4.Rows.{Rows}
use Rattle.bounds3.specs.declared.Bounds3f.{Bounds3f}
use Rattle.bounds3.specs.List.{Bounds3f-list}
use Rattle.lent_arrays.specs.pose_pair.declared.Pose.{Pose}
use Rattle.lent_arrays.specs.Arrays.{Pose-of_list}
use Rattle.chain_rows.specs.motion_rows.Rows.{AnimatedTransform-from_rows}
use Rattle.chain_rows.specs.motion_chain.Chain.{every}
use Rattle.chain_rows.specs.motion_chain.Built.{Each}
use Rattle.chain_rows.specs.Kept.{Moves-chain}
use Rattle.kept_poses.specs.built_poses.Poses.{AnimatedTransform-start_pose, AnimatedTransform-end_pose, Chain-poses, places_per_pose}
use Rattle.file_text.specs.Text.{pose_columns, pose_values}
use Rattle.file_text.specs.RoundTrip.{Floats}
use Rattle.file_text.proofs.Written.{every_get, floats-take, floats-behind}
use Rattle.chain_text.specs.Write.{Pose-values}
use Rattle.chain_text.specs.means.Lines.{Rows-end_values}
use Rattle.chain_text.proofs.Lines.{ends-map}

-- ---- an array by value
array-fits : (xs : List Float) (us : List Val) → shadow (each Float (FloatOf binary32).own_val xs us) → T (every (fits binary32) xs)
unfolding every
array-fits [] [] h = tt
array-fits [] (u ∷ us) h = tt
array-fits (x ∷ xs) [] h = absurd h
array-fits (x ∷ xs) (u ∷ us) (p, q) = and_i (fits binary32 x) (every (fits binary32) xs) (passes (fits binary32 x) p.1) (array-fits xs us q)

pub array-floats : (xs : List Float) (us : List Val) (n : ℕ) → length xs ≡ n → shadow (each Float (FloatOf binary32).own_val xs us) → Floats n xs
array-floats xs us n e h = record { count = e; each-binary32 = array-fits xs us h }

-- ---- a box by value
pub box-floats : (b : Bounds3f)
    → fits binary32 b.p_min.x ≡ true → fits binary32 b.p_min.y ≡ true → fits binary32 b.p_min.z ≡ true
    → fits binary32 b.p_max.x ≡ true → fits binary32 b.p_max.y ≡ true → fits binary32 b.p_max.z ≡ true
    → Floats 6 (Bounds3f-list b)
unfolding every
box-floats b x0 y0 z0 x1 y1 z1 = record { count = refl; each-binary32 = rw (x0, y0, z0, x1, y1, z1) tt }

-- ---- a pose's line
abbrev values_from : ℕ → ℕ → List Float → List Float
values_from zero i l = []
values_from (suc n) i l = get_or l i nan ∷ values_from n (suc i) l

taken-values : (n i : ℕ) (l : List Float) → i + n ≤ length l → take n (drop i l) ≡ values_from n i l
taken-values zero i l h = refl
taken-values (suc n) i l h =
    rw (drop-cons l i nan (omega (arith, h))) (ap (λ (r : List Float). get_or l i nan ∷ r) (taken-values n (suc i) l (omega (arith, h))))

get_d-same : (n : ℕ) (l : List Float) (d e : Float) → n < length l → get_or l n d ≡ get_or l n e
get_d-same n [] d e h = absurd (omega (arith, h))
get_d-same zero (x ∷ l) d e h = refl
get_d-same (suc n) (x ∷ l) d e h = get_d-same n l d e (omega (arith, h))

pub values_same : (l : List Float) → places_per_pose ≤ length l → pose_values l ≡ Pose-values (Pose-of_list l)
values_same l h =
    rw (taken-values 13 0 l (omega (arith, h)), get_d-same 17 l (of_bits binary32 0) nan (omega (arith, h)))

pub pose-floats : (l : List Float) → Floats places_per_pose l → Floats pose_columns (Pose-values (Pose-of_list l))
pose-floats l h =
    rw (← values_same l (omega (arith, h.count)))
    (floats-behind 13 (take 13 l) (get_or l 17 (of_bits binary32 0)) (floats-take 13 places_per_pose l (omega arith) h) (every_get 17 l h.each-binary32))

same-floats : {p q : Pose} → p ≡ q → Floats pose_columns (Pose-values p) → Floats pose_columns (Pose-values q)
same-floats e h = subst (λ (p : Pose). Floats pose_columns (Pose-values p)) e h

-- ---- the lines of a kept chain
pub ends_next : (rows : List Rows) (i : ℕ) (l : List Float) → i < length rows → Each (Floats pose_columns) (map Rows-end_values (take i rows))
    → Pose-of_list l ≡ AnimatedTransform-end_pose (AnimatedTransform-from_rows (get_or rows i [])) → Floats places_per_pose l
    → Each (Floats pose_columns) (map Rows-end_values (take (i + 1) rows))
ends_next rows i l h hs e floats = let n : i + 1 ≡ suc i = omega arith in rw n (go rows i h hs (same-floats e (pose-floats l floats)))
  where
    go : (rows : List Rows) (i : ℕ) → i < length rows → Each (Floats pose_columns) (map Rows-end_values (take i rows))
        → Floats pose_columns (Rows-end_values (get_or rows i [])) → Each (Floats pose_columns) (map Rows-end_values (take (suc i) rows))
    go [] i h hs x = absurd (omega (arith, h))
    go (m ∷ rows) zero h hs x = (x, tt)
    go (m ∷ rows) (suc i) h (y, hs) x = (y, go rows i (omega (arith, h)) hs x)

pub lines-floats : (rows : List Rows) (l : List Float) → 0 < length rows
    → Pose-of_list l ≡ AnimatedTransform-start_pose (AnimatedTransform-from_rows (get_or rows 0 [])) → Floats places_per_pose l
    → Each (Floats pose_columns) (map Rows-end_values rows) → Each (Floats pose_columns) (map Pose-values (Chain-poses (Moves-chain rows)))
unfolding Chain-poses Moves-chain
lines-floats [] l h e floats hs = absurd (omega (arith, h))
lines-floats (m ∷ rows) l h e floats (y, hs) = (same-floats e (pose-floats l floats), (y, rw (ends-map rows) hs))
