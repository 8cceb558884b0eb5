-- What a decomposition can be: its refusal is 0, 4 or 5 (`decompose-refusal`), and without one the quaternion and all of the
-- scale are finite, and the translation is the matrix's (`Accepted`, `decompose-accepted`).
-- Rests on `inverse-refusal`: a round hands on no number but the inverse's and 5.
use mathlib.Core.Path.{◌≡◌, refl, ap}
use mathlib.Core.Bool.{Bool, true, false, ◌&&◌, cond}
use mathlib.Core.Logic.{◌⊎◌, inl, inr}
use Prim.Native.Nat.{ℕ}
use native.Mathlib.Omega.{arith}
use borrow.Author.Tests.{eqb-false}
use lib.Dec.{T, eqb}
use lib.Ieee.{le}
use lib.Ieee.Fits.{and_l, and_r}
use Rattle.matrix4x4.specs.Rows.{Rows, Matrix4x4-to_rows, Matrix4x4-from_rows}
use Rattle.matrix4x4.specs.Transpose.{Matrix4x4-transpose}
use Rattle.matrix4x4.specs.IsFinite.{Matrix4x4-is_finite}
use Rattle.matrix_inverse.specs.Inverse.{InverseAnswer, Matrix4x4-inverse}
use Rattle.matrix_inverse.proofs.control_flow.Loop.{loop-keeps}
use Rattle.matrix_inverse.proofs.Refusal.{inverse-refusal}
use Rattle.quaternion.specs.declared.Quaternion.{Quaternion}
use Rattle.quaternion.specs.IsFinite.{Quaternion-is_finite}
use Rattle.matrix_quaternion.specs.FromMatrix.{Quaternion-from_matrix}
use Rattle.decomposition.specs.Decompose.{DecompositionAnswer}
use Rattle.polar_round.specs.PolarRound.{linear_part, mean, distance}
use Rattle.decomposition.specs.Polar.{settled_norm, Polar, refused, unsettled, settled, judged_round, polar_round, polar}
use Rattle.decomposition.specs.Decompose.{Decomposition-refused, translation_of, Decomposition-judged, scale_by, parts, finish, Matrix4x4-decompose}

-- The parts of m that were not refused: the translation as it stands in m, a finite quaternion, a finite scale.
pub record Accepted (m : Rows) (d : DecompositionAnswer) : Type 0 where
  pub translation : d.t ≡ translation_of m
  pub rotation : T (Quaternion-is_finite d.r)
  pub scale : T (Matrix4x4-is_finite (Matrix4x4-to_rows d.s))

-- the numbers of a refusal
data Number : ℕ → Type 0 where
  zero_pivot : Number 4
  not_finite : Number 5

number : {n : ℕ} → (n ≡ 0) ⊎ ((n ≡ 4) ⊎ (n ≡ 5)) → (n ≡ 0 → ⊥) → Number n
number (inl e) z = absurd (z e)
number (inr (inl e)) z = rw e zero_pivot
number (inr (inr e)) z = rw e not_finite

-- Where the rounds stand, a refusal has one of the numbers.
data Numbered : Polar → Type 0 where
  stopped : {n : ℕ} → Number n → Numbered (refused n)
  going : {r : Rows} → Numbered (unsettled r)
  done : {r : Rows} → Numbered (settled r)

judged-numbered : (r rnext : Rows) → Numbered (judged_round r rnext)
unfolding judged_round
judged-numbered r rnext = go (Matrix4x4-is_finite rnext) (le (distance r rnext) settled_norm)
  where
    go : (a b : Bool) → Numbered (cond a (cond b (settled rnext) (unsettled rnext)) (refused 5))
    go true true = done
    go true false = going
    go false b = stopped not_finite

round-numbered : (k : ℕ) (s : Polar) → Numbered s → Numbered (polar_round k s)
unfolding polar_round
round-numbered k (refused n) h = h
round-numbered k (settled r) h = h
round-numbered k (unsettled r) h = go (eqb rit.refusal 0) refl
  where
    rit : InverseAnswer
    rit = Matrix4x4-inverse (Matrix4x4-transpose r)

    go : (b : Bool) → eqb rit.refusal 0 ≡ b → Numbered (cond b (judged_round r (mean r rit.m)) (refused rit.refusal))
    go true e = judged-numbered r (mean r rit.m)
    go false e = stopped (number (inverse-refusal (Matrix4x4-transpose r)) (eqb-false rit.refusal 0 e))

polar-numbered : (m : Rows) → Numbered (polar m)
unfolding polar
polar-numbered m = loop-keeps (λ k s. Numbered s) polar_round 100 (λ k s l h. round-numbered k s h) (unsettled (linear_part m)) going

data Answered (m : Rows) (d : DecompositionAnswer) : Type 0 where
  none : (n : ℕ) → Number n → d ≡ Decomposition-refused n → Answered m d
  parted : d.refusal ≡ 0 → Accepted m d → Answered m d

judged-answered : (m : Rows) (q : Quaternion) (s : Rows) → Answered m (Decomposition-judged m q s)
unfolding Decomposition-judged Matrix4x4-is_finite
judged-answered m q s = go (Quaternion-is_finite q && Matrix4x4-is_finite s) (λ h. h)
  where
    good : DecompositionAnswer
    good = record { t = translation_of m; r = q; s = Matrix4x4-from_rows s; refusal = 0 }

    go : (b : Bool) → (T b → T (Quaternion-is_finite q && Matrix4x4-is_finite s)) → Answered m (cond b good (Decomposition-refused 5))
    go true f = parted refl (record {
      translation = refl;
      rotation = and_l (Quaternion-is_finite q) (Matrix4x4-is_finite s) (f tt);
      scale = and_r (Quaternion-is_finite q) (Matrix4x4-is_finite s) (f tt);
    })
    go false f = none 5 not_finite refl

parts-answered : (rigid : Bool) (m r : Rows) → Answered m (parts rigid m r)
unfolding parts
parts-answered rigid m r = go (eqb (Matrix4x4-inverse r).refusal 0) refl
  where
    go : (b : Bool) → eqb (Matrix4x4-inverse r).refusal 0 ≡ b
        → Answered m (cond b (Decomposition-judged m (Quaternion-from_matrix r) (scale_by rigid (Matrix4x4-inverse r).m m))
        (Decomposition-refused (Matrix4x4-inverse r).refusal))
    go true e = judged-answered m (Quaternion-from_matrix r) (scale_by rigid (Matrix4x4-inverse r).m m)
    go false e = none (Matrix4x4-inverse r).refusal (number (inverse-refusal r) (eqb-false (Matrix4x4-inverse r).refusal 0 e)) refl

finish-answered : (rigid : Bool) (m : Rows) (s : Polar) → Numbered s → Answered m (finish rigid m s)
unfolding finish
finish-answered rigid m (refused n) (stopped h) = none n h refl
finish-answered rigid m (unsettled r) h = parts-answered rigid m r
finish-answered rigid m (settled r) h = parts-answered rigid m r

decompose-answered : (rigid : Bool) (m : Rows) → Answered m (Matrix4x4-decompose rigid m)
unfolding Matrix4x4-decompose
decompose-answered rigid m = finish-answered rigid m (polar m) (polar-numbered m)

pub decompose-refusal : (rigid : Bool) (m : Rows)
    → ((Matrix4x4-decompose rigid m).refusal ≡ 0) ⊎ (((Matrix4x4-decompose rigid m).refusal ≡ 4) ⊎ ((Matrix4x4-decompose rigid m).refusal ≡ 5))
decompose-refusal rigid m = go (Matrix4x4-decompose rigid m) (decompose-answered rigid m)
  where
    go : (d : DecompositionAnswer) → Answered m d → (d.refusal ≡ 0) ⊎ ((d.refusal ≡ 4) ⊎ (d.refusal ≡ 5))
    go d (parted e a) = inl e
    go d (none _ zero_pivot e) = inr (inl (ap (λ (x : DecompositionAnswer). x.refusal) e))
    go d (none _ not_finite e) = inr (inr (ap (λ (x : DecompositionAnswer). x.refusal) e))

pub decompose-accepted : (rigid : Bool) (m : Rows) → (Matrix4x4-decompose rigid m).refusal ≡ 0 → Accepted m (Matrix4x4-decompose rigid m)
decompose-accepted rigid m h = go (Matrix4x4-decompose rigid m) h (decompose-answered rigid m)
  where
    go : (d : DecompositionAnswer) → d.refusal ≡ 0 → Answered m d → Accepted m d
    go d h (parted e a) = a
    go d h (none _ zero_pivot e) = absurd (let i : d.refusal ≡ 4 = ap (λ (x : DecompositionAnswer). x.refusal) e in omega arith)
    go d h (none _ not_finite e) = absurd (let i : d.refusal ≡ 5 = ap (λ (x : DecompositionAnswer). x.refusal) e in omega arith)
