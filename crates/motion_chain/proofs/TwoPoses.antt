-- A chain of two poses is document 01's move, but for times that don't rise strictly:
-- `two-poses`, `single-move`. The checks of the chain are those of the pair (`checks-same`). A time is never refused beside itself: `same-time`.
use Prim.Native.Nat.{ℕ, ◌+◌, ◌*◌}
use mathlib.Core.Path.{◌≡◌, refl, sym, ◌∙◌}
use mathlib.Core.Bool.{Bool, true, false, not, ◌&&◌, cond}
use mathlib.Core.List.{[], ◌∷◌}
use native.Mathlib.Nat.{mul-pos, zero-lt-suc}
use native.Mathlib.Omega.{arith}
use borrow.Author.Tests.{eqb-true, eqb-false, eq-eqb, le-ltb}
use lib.Dec.{T, eqb}
use lib.Ieee.{Float, nan, inf, fin, binary32, up, down, lt}
use lib.Ieee.Bits.{is_true, is_false}
use lib.Ieee.Fits.{and_l, and_r}
use lib.Ieee.Scale.{finite}
use lib.Ieee.Positive.{den, den_pos}
use Rattle.bounds_answers.specs.refusal.First.{first_refusal}
use Rattle.bounds_answers.proofs.rounding.Rational.{num_pos, num_neg, FractionLe}
use Rattle.bounds_answers.proofs.rounding.Order.{≼_refl, finite_number, between-finite}
use Rattle.bounds_answers.proofs.rounding.Monotone.{rounds-mono}
use Rattle.bounds_answers.proofs.rounding.Arithmetic.{sub-rounds}
use Rattle.bounds_answers.specs.float32.Operators.{◌⊖◌}
use Rattle.bounds_answers.proofs.float32.Constants.{zero-finite, zero-rounds}
use Rattle.bounds_answers.proofs.unit_interval.DtUnit.{sub-nonnegative}
use Rattle.bounds_answers.specs.matrix4x4.Rows.{Matrix4x4-to_rows}
use Rattle.bounds_answers.specs.matrix4x4.IsFinite.{Matrix4x4-is_finite}
use Rattle.bounds_answers.specs.pose_pair.declared.Pose.{Pose}
use Rattle.bounds_answers.specs.pose_pair.Pose.{Pose-is_finite, Pose-is_affine, Pose-is_padded, times_refusal, poses_refusal, Pose-kind_number}
use Rattle.bounds_answers.specs.animated_transform.declared.AnimatedTransform.{AnimatedTransform}
use Rattle.bounds_answers.specs.animated_transform.New.{AnimatedTransformAnswer}
use Rattle.bounds_answers.specs.animated_transform.New.{AnimatedTransformAnswer-refused, AnimatedTransform-from_poses, build_refusal, AnimatedTransform-new}
use Rattle.motion_chain.specs.Chain.{neighbours, every, first_number, Pose-number, Pair-number, kind_stage}
use Rattle.motion_chain.specs.Chain.{chain_refusal, built, refused, ChainAnswer-from_moves, Chain-new}
use Rattle.motion_chain.specs.Chain.{move_from, Chain-move_at, Chain-transform_point, union_covers, Chain-cover}
use Rattle.motion_chain.specs.TwoPoses.{Chain-single, Checked, TwoPoses, SingleMove}
use Rattle.motion_chain.proofs.Built.{first-only, PosePassed, pair-worked}

-- ---- the checks
-- The stages of two poses, of which f and g are finite, a and b affine, c and d padded, where the times rise.
stages-same : (f g a b c d : Bool) (n k : ℕ)
    → first_number (
    first_number (cond f 0 1 ∷ cond g 0 1 ∷ [])
    ∷ first_number (cond a 0 2 ∷ cond b 0 2 ∷ [])
    ∷ first_number (cond c 0 16 ∷ cond d 0 16 ∷ [])
    ∷ 0
    ∷ first_number (0 ∷ [])
    ∷ first_number (n ∷ [])
    ∷ k
    ∷ []
    )
    ≡ first_refusal (cond (not (f && g)) 1 (cond (not (a && b)) 2 (cond (not (c && d)) 16 n))) k
unfolding first_number
stages-same true true true true true true n k = rw (first-only n, first-only k)
stages-same true true true true true false n k = refl
stages-same true true true true false d n k = refl
stages-same true true true false c d n k = refl
stages-same true true false b c d n k = refl
stages-same true false a b c d n k = refl
stages-same false g a b c d n k = refl

kinds-same : (rigid : Bool) (p q : Pose) → kind_stage rigid (p ∷ q ∷ []) ≡ first_refusal (Pose-kind_number rigid p) (Pose-kind_number rigid q)
unfolding kind_stage Pose-number Pose-kind_number first_number
kinds-same true p q = rw (first-only (Pose-kind_number true q))
kinds-same false p q = refl

checks-same : (rigid : Bool) (p q : Pose) → T (lt p.time q.time) → chain_refusal rigid (p ∷ q ∷ []) ≡ build_refusal rigid p q
unfolding chain_refusal poses_refusal Pose-number Pair-number neighbours
checks-same rigid p q l =
    rw (is_true (lt p.time q.time) l, kinds-same rigid p q)
    (stages-same (Pose-is_finite p) (Pose-is_finite q) (Pose-is_affine p) (Pose-is_affine q) (Pose-is_padded p) (Pose-is_padded q) (times_refusal p.time q.time)
    (first_refusal (Pose-kind_number rigid p) (Pose-kind_number rigid q)))

-- ---- one move's answer as a chain's
module _ (a : AnimatedTransformAnswer) where
  from-move-built : a.refusal ≡ 0 → ChainAnswer-from_moves (a ∷ []) ≡ built (Chain-single a.value)
  unfolding ChainAnswer-from_moves first_number
  from-move-built e = rw (first-only a.refusal, eq-eqb a.refusal 0 e)

  from-move-refused : (a.refusal ≡ 0 → ⊥) → ChainAnswer-from_moves (a ∷ []) ≡ refused a.refusal
  unfolding ChainAnswer-from_moves first_number
  from-move-refused f = rw (first-only a.refusal) (go (eqb a.refusal 0) (eqb-true a.refusal 0))
    where
      go : (b : Bool) → (b ≡ true → a.refusal ≡ 0) → cond b (built (Chain-single a.value)) (refused a.refusal) ≡ refused a.refusal
      go true g = absurd (f (g refl))
      go false g = refl

rising-same : (rigid : Bool) (p q : Pose) → T (lt p.time q.time)
    → Chain-new rigid (p ∷ q ∷ []) ≡ ChainAnswer-from_moves (AnimatedTransform-new rigid p q ∷ [])
unfolding Chain-new AnimatedTransform-new neighbours
rising-same rigid p q l = rw (checks-same rigid p q l) (go (eqb (build_refusal rigid p q) 0) (eqb-false (build_refusal rigid p q) 0))
  where
    go : (b : Bool) → (b ≡ false → build_refusal rigid p q ≡ 0 → ⊥)
        → cond b (ChainAnswer-from_moves (cond b (AnimatedTransform-from_poses rigid p q) (AnimatedTransformAnswer-refused (build_refusal rigid p q)) ∷ []))
        (refused (build_refusal rigid p q))
        ≡ ChainAnswer-from_moves (cond b (AnimatedTransform-from_poses rigid p q) (AnimatedTransformAnswer-refused (build_refusal rigid p q)) ∷ [])
    go true f = refl
    go false f = sym (from-move-refused (AnimatedTransformAnswer-refused (build_refusal rigid p q)) (f refl))

-- ---- times that don't rise
both : (test : Pose → Bool) (p q : Pose) → T (every test (p ∷ q ∷ [])) → T (test p) × T (test q)
unfolding every
both test p q h = (and_l (test p) (test q && true) h, and_l (test q) true (and_r (test p) (test q && true) h))

passed : (rigid : Bool) (p q : Pose) → Checked p q → Pose-kind_number rigid p ≡ 0 → Pose-kind_number rigid q ≡ 0 → PosePassed rigid p × PosePassed rigid q
passed rigid p q h i j =
    let (f, f') = both Pose-is_finite p q h.finite in
    let (a, a') = both Pose-is_affine p q h.affine in
    let (z, z') = both Pose-is_padded p q h.padded in
    (record { finite = f; affine = a; padded = z; kind = i }, record { finite = f'; affine = a'; padded = z'; kind = j })

not-rising-refused : (rigid : Bool) (p q : Pose) → Checked p q → T (not (lt p.time q.time)) → Chain-new rigid (p ∷ q ∷ []) ≡ refused 12
unfolding Chain-new chain_refusal Pose-number Pair-number neighbours first_number Pose-kind_number
not-rising-refused rigid p q checked l =
    let (h, k) = passed false p q checked refl refl in
    let falls = is_false (lt p.time q.time) l in
    rw (
      is_true (Pose-is_finite p) h.finite,
      is_true (Pose-is_finite q) k.finite,
      is_true (Pose-is_affine p) h.affine,
      is_true (Pose-is_affine q) k.affine,
      is_true (Pose-is_padded p) h.padded,
      is_true (Pose-is_padded q) k.padded,
      falls,
    )

lt_irrefl : (x : Float) → lt x x ≡ false
unfolding lt
lt_irrefl nan = refl
lt_irrefl (inf true) = refl
lt_irrefl (inf false) = refl
lt_irrefl (fin true m e) = le-ltb (m * up e * down e) (m * up e * down e) (omega arith)
lt_irrefl (fin false m e) = le-ltb (m * up e * down e) (m * up e * down e) (omega arith)

-- x − x is between +0 and +0.
sub-same-finite : (x : Float) → T (finite x) → T (finite (x ⊖ x))
sub-same-finite x f =
    between-finite zero-finite zero-finite (sub-nonnegative f f (≼_refl x (finite_number x f)))
    (rounds-mono (sub-rounds binary32 x x f f) zero-rounds (mul-pos (den_pos x) (den_pos x)) (zero-lt-suc 0) (level (num_pos x) (num_neg x) (den x)))
  where
    level : (p n d : ℕ) → FractionLe (p * d + n * d) (n * d + p * d) (d * d) 0 0 1
    level p n d = omega arith

-- A move from a pose to itself, at its time, is not refused for its times.
pub same-time : (x : Float) → T (finite x) → times_refusal x x ≡ 0
unfolding times_refusal
same-time x f = rw (lt_irrefl x, is_true (finite (x ⊖ x)) (sub-same-finite x f))

time-finite : (p : Pose) → T (Pose-is_finite p) → T (finite p.time)
unfolding Pose-is_finite
time-finite p f =
    let matrix = Matrix4x4-is_finite (Matrix4x4-to_rows p.m) in
    and_l (finite p.time) matrix (and_l (finite p.time && matrix) (finite p.pad) f)

equal-times-worked : (rigid : Bool) (p q : Pose) → Checked p q → Pose-kind_number rigid p ≡ 0 → Pose-kind_number rigid q ≡ 0 → p.time ≡ q.time
    → AnimatedTransform-new rigid p q ≡ AnimatedTransform-from_poses rigid p q
equal-times-worked rigid p q checked i j e =
    let (h, k) = passed rigid p q checked i j in
    pair-worked rigid p q h k (rw (← e) (same-time p.time (time-finite p h.finite)))

pub two-poses : (rigid : Bool) (p q : Pose) → TwoPoses rigid p q
two-poses rigid p q = record {
  same_move = λ l e. rising-same rigid p q l ∙ from-move-built (AnimatedTransform-new rigid p q) e;
  same-refusal = λ l f. rising-same rigid p q l ∙ from-move-refused (AnimatedTransform-new rigid p q) f;
  not-rising = not-rising-refused rigid p q;
  equal-times = equal-times-worked rigid p q;
}

pub single-move : (m : AnimatedTransform) → SingleMove m
unfolding move_from Chain-move_at Chain-transform_point union_covers Chain-cover
single-move m = record { point = λ time p. refl; cover = λ b depth. refl }
