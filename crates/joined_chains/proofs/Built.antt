-- Two built chains that share a pose are one built chain, whose moves are theirs: `joins`. The pairs of the poses with that pose once are
-- the pairs of the first and then those of the second (`neighbours-append`), so that no check but the count can newly fail (`join-passed`, `joins-rise`),
-- and the moves of the pairs are those that stand.
use Prim.Native.Nat.{ℕ, suc, ◌+◌, ◌≤◌}
use mathlib.Core.Path.{◌≡◌, refl, sym, ap, subst, ◌∙◌}
use mathlib.Core.Bool.{Bool, true, false, beq, ◌&&◌, ◌||◌, cond}
use mathlib.Core.List.{List, [], ◌∷◌, ◌++◌, map}
pub use mathlib.Core.List.{map-append}
use native.Mathlib.Omega.{arith}
use borrow.Author.Tests.{eq-eqb, le-ltb, ltb-false}
use lib.Dec.{T, ltb}
use lib.ListN.{length, drop}
use lib.Ieee.Fits.{and_l, and_r, and_i}
use Rattle.built_poses.specs.refusal.First.{first_refusal}
use Rattle.built_poses.proofs.refusal.First.{first-zero}
use Rattle.pose_bits.specs.pose_pair.declared.Pose.{Pose}
use Rattle.pose_bits.specs.pose_pair.Pose.{Pose-is_binary32}
use Rattle.pose_bits.specs.Bits.{Pose-same_bits}
use Rattle.built_poses.specs.animated_transform.declared.AnimatedTransform.{AnimatedTransform}
use Rattle.built_poses.specs.animated_transform.New.{AnimatedTransformAnswer}
use Rattle.built_poses.specs.animated_transform.New.{AnimatedTransform-new}
use Rattle.built_poses.specs.motion_chain.Chain.{min_poses, max_poses, neighbours, every, first_number, stage, Pose-number, Pair-number, kind_stage, chain_stages, chain_refusal}
use Rattle.built_poses.specs.motion_chain.Chain.{Chain, Chain-moves, built, ChainAnswer-from_moves, Chain-new}
use Rattle.built_poses.specs.motion_chain.Built.{BuiltChain, Each}
use Rattle.built_poses.specs.motion_chain.MoveAt.{last_from}
use Rattle.built_poses.proofs.motion_chain.Built.{first-none, first-each, checks-passed, answers, values, BuiltFrom, built-from}
use Rattle.built_poses.specs.Poses.{AnimatedTransform-start_pose, AnimatedTransform-end_pose, Chain-poses, Chain-is_rigid}
use Rattle.built_poses.proofs.Built.{built-poses, built-kind}
use Rattle.joined_chains.specs.Join.{Chain-last_pose, Chain-first_pose, Chain-joined_poses}
use Rattle.joined_chains.specs.Join.{mismatch_refusal, count_refusal, rise_refusal, Chain-join_refusal, Chain-join}
use Rattle.joined_chains.specs.Theorem.{Chain-append, Joins}

-- ---- lists
every_append : {A : Type 0} (test : A → Bool) (xs ys : List A) → T (every test xs) → T (every test ys) → T (every test (xs ++ ys))
unfolding every
every_append test [] ys h k = k
every_append test (x ∷ xs) ys h k =
    and_i (test x) (every test (xs ++ ys)) (and_l (test x) (every test xs) h) (every_append test xs ys (and_r (test x) (every test xs) h) k)

-- ---- the pairs
unfoldable last_of : Pose → List Pose → Pose
last_of p [] = p
last_of p (q ∷ poses) = last_of q poses

neighbours-append : (p : Pose) (ps qs : List Pose) → neighbours ((p ∷ ps) ++ qs) ≡ neighbours (p ∷ ps) ++ neighbours (last_of p ps ∷ qs)
unfolding neighbours last_of
neighbours-append p [] qs = refl
neighbours-append p (q ∷ ps) qs = ap (λ (l : List (Pose × Pose)). (p, q) ∷ l) (neighbours-append q ps qs)

last-pose : (p : Pose) (m : AnimatedTransform) (moves : List AnimatedTransform)
    → last_of p (map AnimatedTransform-end_pose (m ∷ moves)) ≡ AnimatedTransform-end_pose (last_from m moves)
unfolding last_of last_from
last-pose p m [] = refl
last-pose p m (next ∷ moves) = last-pose (AnimatedTransform-end_pose m) next moves

-- ---- the checks
each_first : (ns : List ℕ) → Each (λ n. n ≡ 0) ns → first_number ns ≡ 0
unfolding first_number
each_first [] h = refl
each_first (n ∷ ns) (z, h) = rw z (each_first ns h)

stage-append : {A : Type 0} (number : A → ℕ) (xs ys : List A) → stage number xs ≡ 0 → stage number ys ≡ 0 → stage number (xs ++ ys) ≡ 0
unfolding first_number
stage-append number [] ys e f = f
stage-append number (x ∷ xs) ys e f = let (z, h) = first-none (number x) (map number xs) e in rw z (stage-append number xs ys h f)

module _ (rigid : Bool) (p q : Pose) (ps qs : List Pose) (same : last_of p ps ≡ q) where
  pose-stage : (number : Pose → ℕ) → stage number (p ∷ ps) ≡ 0 → stage number (q ∷ qs) ≡ 0 → stage number ((p ∷ ps) ++ qs) ≡ 0
  pose-stage number e f = stage-append number (p ∷ ps) qs e (first-none (number q) (map number qs) f).1

  pairs-append : neighbours ((p ∷ ps) ++ qs) ≡ neighbours (p ∷ ps) ++ neighbours (q ∷ qs)
  pairs-append = neighbours-append p ps qs ∙ ap (λ (x : Pose). neighbours (p ∷ ps) ++ neighbours (x ∷ qs)) same

  pair-stage : (number : Pose × Pose → ℕ) → stage number (neighbours (p ∷ ps)) ≡ 0 → stage number (neighbours (q ∷ qs)) ≡ 0
      → stage number (neighbours ((p ∷ ps) ++ qs)) ≡ 0
  pair-stage number e f = ap (λ (l : List (Pose × Pose)). stage number l) pairs-append ∙ stage-append number (neighbours (p ∷ ps)) (neighbours (q ∷ qs)) e f

  kind-stage : kind_stage rigid (p ∷ ps) ≡ 0 → kind_stage rigid (q ∷ qs) ≡ 0 → kind_stage rigid ((p ∷ ps) ++ qs) ≡ 0
  kind-stage = go rigid
    where
      go : (kind : Bool) → kind_stage kind (p ∷ ps) ≡ 0 → kind_stage kind (q ∷ qs) ≡ 0 → kind_stage kind ((p ∷ ps) ++ qs) ≡ 0
      go true = unfold kind_stage in pose-stage (Pose-number 17)
      go false = unfold kind_stage in λ _ _. refl

  join-passed : length ((p ∷ ps) ++ qs) ≤ max_poses → chain_refusal rigid (p ∷ ps) ≡ 0 → chain_refusal rigid (q ∷ qs) ≡ 0 → chain_refusal rigid ((p ∷ ps) ++ qs) ≡ 0
  unfolding chain_refusal
  join-passed most e f =
      let (a1, (a2, (a16, (_, (a12, (a3, (a17, _))))))) = first-each (chain_stages rigid (p ∷ ps)) e in
      let (b1, (b2, (b16, (_, (b12, (b3, (b17, _))))))) = first-each (chain_stages rigid (q ∷ qs)) f in
      each_first (chain_stages rigid ((p ∷ ps) ++ qs)) (
        pose-stage (Pose-number 1) a1 b1,
        (
          pose-stage (Pose-number 2) a2 b2,
          (
            pose-stage (Pose-number 16) a16 b16,
            (count, (pair-stage (Pair-number 12) a12 b12, (pair-stage (Pair-number 3) a3 b3, (kind-stage a17 b17, tt)))),
          ),
        ),
      )
    where
      longer : (xs : List Pose) → length xs ≤ length (xs ++ qs)
      longer [] = omega arith
      longer (x ∷ xs) = let h = longer xs in omega (arith, h)

      count : ◌≡◌ {A = ℕ} (cond (ltb (length ((p ∷ ps) ++ qs)) min_poses || ltb max_poses (length ((p ∷ ps) ++ qs))) 12 0) 0
      count =
          let n = length ((p ∷ ps) ++ qs) in
          let h = (checks-passed rigid (p ∷ ps) e).least in
          let k = longer (p ∷ ps) in
          rw (le-ltb n min_poses (omega (arith, h, k)), le-ltb max_poses n most)

-- ---- what came of the pairs
abbrev number : AnimatedTransformAnswer → ℕ
number a = a.refusal

-- The chain of moves of which there is a first.
abbrev chain_of : Chain → List AnimatedTransform → Chain
chain_of d [] = d
chain_of d (m ∷ moves) = record { first = m; rest = moves }

abbrev is_some : List AnimatedTransform → Bool
is_some [] = false
is_some (m ∷ moves) = true

built-from-moves : (rs : List AnimatedTransformAnswer) (c : Chain) → stage number rs ≡ 0 → values rs ≡ Chain-moves c → ChainAnswer-from_moves rs ≡ built c
unfolding ChainAnswer-from_moves
built-from-moves [] c z e = absurd (subst T (sym (ap is_some e)) tt)
built-from-moves (a ∷ rs) c z e = rw (eq-eqb (stage number (a ∷ rs)) 0 z) (ap (λ (l : List AnimatedTransform). built (chain_of c l)) e)

worked-new : (rigid : Bool) (poses : List Pose) (c : Chain) → BuiltFrom rigid poses c → Chain-new rigid poses ≡ built c
unfolding Chain-new
worked-new rigid poses c w = rw (eq-eqb (chain_refusal rigid poses) 0 w.passed) (built-from-moves (answers rigid poses) c w.none (sym w.moves))

module _ (rigid : Bool) (p q : Pose) (ps qs : List Pose) (same : last_of p ps ≡ q) (c d : Chain) where
  join-worked : length ((p ∷ ps) ++ qs) ≤ max_poses → BuiltFrom rigid (p ∷ ps) c → BuiltFrom rigid (q ∷ qs) d
      → BuiltFrom rigid ((p ∷ ps) ++ qs) (Chain-append c d)
  join-worked most v w = record {
    passed = join-passed rigid p q ps qs same most v.passed w.passed;
    none =
        ap (λ (l : List AnimatedTransformAnswer). stage number l) pairs
        ∙ stage-append number (answers rigid (p ∷ ps)) (answers rigid (q ∷ qs)) v.none w.none;
    moves =
        (λ i. v.moves i ++ w.moves i) ∙ sym (ap values pairs ∙ map-append (λ a. a.value) (answers rigid (p ∷ ps)) (answers rigid (q ∷ qs)));
  }
    where
      pairs : answers rigid ((p ∷ ps) ++ qs) ≡ answers rigid (p ∷ ps) ++ answers rigid (q ∷ qs)
      pairs =
          ap (map (λ (x, y). AnimatedTransform-new rigid x y)) (pairs-append rigid p q ps qs same)
          ∙ map-append (λ (x, y). AnimatedTransform-new rigid x y) (neighbours (p ∷ ps)) (neighbours (q ∷ qs))

-- ---- two built chains
record OwnPoses (rigid : Bool) (c : Chain) : Type 0 where
  binary32 : T (every Pose-is_binary32 (Chain-poses c))
  accepted : Chain-new rigid (Chain-poses c) ≡ built c

own-poses : {c : Chain} → BuiltChain c → OwnPoses (Chain-is_rigid c) c
own-poses {c} b =
    let same = built-poses b.rigid b.poses c b.accepted in
    let kind = built-kind b.rigid b.poses c b.accepted in
    let again : Chain-new (Chain-is_rigid c) (Chain-poses c) ≡ Chain-new b.rigid b.poses = λ i. Chain-new (kind i) (same i) in
    record { binary32 = rw same b.poses-binary32; accepted = again ∙ b.accepted }

-- chains that are not refused with 20 have one kind
same_kind : (c d : Chain) → mismatch_refusal c d ≡ 0 → Chain-is_rigid d ≡ Chain-is_rigid c
unfolding mismatch_refusal
same_kind c d = go (Pose-same_bits (Chain-last_pose c) (Chain-first_pose d)) (Chain-is_rigid c) (Chain-is_rigid d)
  where
    go : (b x y : Bool) → ◌≡◌ {A = ℕ} (cond (b && beq x y) 0 20) 0 → y ≡ x
    go true true true e = refl
    go true false false e = refl
    go true true false e = absurd (omega (arith, e))
    go true false true e = absurd (omega (arith, e))
    go false x y e = absurd (omega (arith, e))

count-passed : (n : ℕ) → count_refusal n ≡ 0 → n ≤ max_poses
count-passed n = go (ltb max_poses n) (ltb-false max_poses n)
  where
    go : (b : Bool) → (b ≡ false → n ≤ max_poses) → ◌≡◌ {A = ℕ} (cond b 12 0) 0 → n ≤ max_poses
    go true f e = absurd (omega (arith, e))
    go false f e = f refl

-- The times of a built chain rise, and so do those of two that share a pose: the count alone can newly fail.
own-rise : {c : Chain} → BuiltChain c → rise_refusal (Chain-poses c) ≡ 0
unfolding chain_refusal
own-rise {c} b =
    let rigid = Chain-is_rigid c in
    let poses = Chain-poses c in
    (first-each (chain_stages rigid poses) (built-from rigid poses c (own-poses b).accepted).passed).1.1.1.1.0

pub joins-rise : (c d : Chain) → BuiltChain c → BuiltChain d → Chain-last_pose c ≡ Chain-first_pose d → rise_refusal (Chain-joined_poses c d) ≡ 0
unfolding Chain-joined_poses Chain-poses
joins-rise c d bc bd same =
    let p = Chain-first_pose c in
    let ps = map AnimatedTransform-end_pose (Chain-moves c) in
    pair-stage (Chain-is_rigid c) p (Chain-first_pose d) ps (map AnimatedTransform-end_pose (Chain-moves d))
    (last-pose p c.first c.rest ∙ same) (Pair-number 12) (own-rise bc) (own-rise bd)

pub joins : (c d : Chain) → Joins c d
unfolding Chain-joined_poses Chain-join_refusal Chain-join Chain-poses every
joins c d bc bd same none =
    let own = own-poses bc in
    let poses = Chain-joined_poses c d in
    let met = first-zero (mismatch_refusal c d) (first_refusal (count_refusal (length poses)) (rise_refusal poses)) none in
    let few = (first-zero (count_refusal (length poses)) (rise_refusal poses) met.1).0 in
    let other = subst (λ (kind : Bool). OwnPoses kind d) (same_kind c d met.0) (own-poses bd) in
    let rigid = Chain-is_rigid c in
    let p = Chain-first_pose c in
    let q = Chain-first_pose d in
    let ps = map AnimatedTransform-end_pose (Chain-moves c) in
    let qs = map AnimatedTransform-end_pose (Chain-moves d) in
    let shared : last_of p ps ≡ q = last-pose p c.first c.rest ∙ same in
    let most = count-passed (length ((p ∷ ps) ++ qs)) few in
    let new = worked-new rigid ((p ∷ ps) ++ qs) (Chain-append c d)
    (join-worked rigid p q ps qs shared c d most (built-from rigid (p ∷ ps) c own.accepted) (built-from rigid (q ∷ qs) d other.accepted)) in (
      rw none new,
      record {
        rigid = rigid;
        poses = (p ∷ ps) ++ qs;
        poses-binary32 = every_append Pose-is_binary32 (p ∷ ps) qs own.binary32 (and_r (Pose-is_binary32 q) (every Pose-is_binary32 qs) other.binary32);
        accepted = new;
      },
    )
