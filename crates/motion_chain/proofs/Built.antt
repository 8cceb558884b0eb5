-- Every move of a built chain is built by itself, its times rise, and it starts where the one before it ended: `built-moves`. The poses have passed
-- the whole chain's checks (`checks-passed`), after which each pair is worked (`pairs-worked`), and no pair's number was met (`from-moves-built`): so of every
-- chain that was built (`built-from`), and one is where building's number is 0 (`none-built`). What holds of 0 and of every number holds of the first one met
-- (`number-keeps`, `stage-keeps`).
use Prim.Native.Nat.{ℕ, suc, ◌≤◌}
use mathlib.Core.Path.{◌≡◌, refl, sym, ap, subst}
use mathlib.Core.Bool.{Bool, true, false, not, ◌||◌, cond, false≢true}
use mathlib.Core.List.{List, [], ◌∷◌, map}
use native.Mathlib.Omega.{arith}
use borrow.Author.Tests.{eqb-true, eqb-false}
use lib.Dec.{T, eqb, ltb, nltb→le}
use lib.ListN.{length}
use lib.Ieee.{Float, lt}
use lib.Ieee.Bits.{is_true}
use lib.Ieee.Fits.{and_l, and_r}
use Rattle.bounds_answers.proofs.refusal.First.{first-zero, first-right, first-keeps}
use Rattle.bounds_answers.specs.refusal.First.{first_refusal}
use Rattle.bounds_answers.specs.pose_pair.declared.Pose.{Pose}
use Rattle.bounds_answers.specs.pose_pair.Pose.{Pose-is_finite, Pose-is_binary32, Pose-is_affine, Pose-is_padded, times_refusal, poses_refusal, Pose-kind_number}
use Rattle.bounds_answers.specs.animated_transform.declared.AnimatedTransform.{AnimatedTransform}
use Rattle.bounds_answers.specs.animated_transform.New.{AnimatedTransformAnswer}
use Rattle.bounds_answers.specs.animated_transform.New.{AnimatedTransform-from_poses, AnimatedTransform-new}
use Rattle.bounds_answers.specs.animated_transform.Built.{Built}
use Rattle.bounds_answers.proofs.animated_transform.Kept.{new-kept}
use Rattle.bounds_answers.proofs.UnionAll.{each_of}
use Rattle.motion_chain.specs.Chain.{min_poses, max_poses, neighbours, every, first_number, stage}
use Rattle.motion_chain.specs.Chain.{Pose-number, Pair-number, kind_stage, chain_stages, chain_refusal}
use Rattle.motion_chain.specs.Chain.{Chain, Chain-moves, ChainAnswer, built, refused, ChainAnswer-refusal, ChainAnswer-from_moves, Chain-new}
use Rattle.motion_chain.specs.Built.{BuiltChain, Each, Contiguous, BuiltMoves, PairsWorked}

-- ---- numbers that were not met
pub first-none : (n : ℕ) (ns : List ℕ) → first_number (n ∷ ns) ≡ 0 → (n ≡ 0) × (first_number ns ≡ 0)
unfolding first_number
first-none n ns = first-zero n (first_number ns)

pub first-only : (n : ℕ) → first_refusal n 0 ≡ n
first-only n = sym (first-right n)

pub first-each : (ns : List ℕ) → first_number ns ≡ 0 → Each (λ n. n ≡ 0) ns
first-each [] e = tt
first-each (n ∷ ns) e = let (z, h) = first-none n ns e in (z, first-each ns h)

pub stage-each : {A : Type 0} (number : A → ℕ) (xs : List A) → stage number xs ≡ 0 → Each (λ x. number x ≡ 0) xs
stage-each number [] e = tt
stage-each number (x ∷ xs) e = let (z, h) = first-none (number x) (map number xs) e in (z, stage-each number xs h)

pub number-keeps : (P : ℕ → Type 0) → P 0 → (ns : List ℕ) → Each P ns → P (first_number ns)
unfolding first_number
number-keeps P z [] h = z
number-keeps P z (n ∷ ns) (h, hs) = first-keeps P n (first_number ns) h (number-keeps P z ns hs)

pub stage-keeps : {A : Type 0} (P : ℕ → Type 0) → P 0 → (number : A → ℕ) (xs : List A) → Each (λ x. P (number x)) xs → P (stage number xs)
unfolding first_number
stage-keeps P z number [] h = z
stage-keeps P z number (x ∷ xs) (h, hs) = first-keeps P (number x) (stage number xs) h (stage-keeps P z number xs hs)

-- A stage that asks one test of each.
tested-each : {A : Type 0} (test : A → Bool) (n : ℕ) (xs : List A) → stage (λ x. cond (test x) 0 (suc n)) xs ≡ 0 → Each (λ x. T (test x)) xs
tested-each test n [] e = tt
tested-each test n (x ∷ xs) e =
    let (z, h) = first-none (cond (test x) 0 (suc n)) (map (λ y. cond (test y) 0 (suc n)) xs) e in
    (passed (test x) z, tested-each test n xs h)
  where
    passed : (b : Bool) → ◌≡◌ {A = ℕ} (cond b 0 (suc n)) 0 → T b
    passed true e = tt
    passed false e = absurd (omega (arith, e))

-- ---- a chain, or a refusal
abbrev is_built : ChainAnswer → Bool
is_built (built c) = true
is_built (refused n) = false

pub refused-built : {n : ℕ} {c : Chain} → refused n ≡ built c → ⊥
refused-built e = false≢true (ap is_built e)

pub built-same : {c d : Chain} → built c ≡ built d → c ≡ d
built-same {c} e = ap chain_of e
  where
    chain_of : ChainAnswer → Chain
    chain_of (built d) = d
    chain_of (refused n) = c

-- A tested number, then a chain: the number was 0.
tested-built : (n : ℕ) (a : ChainAnswer) (c : Chain) → cond (eqb n 0) a (refused n) ≡ built c → (n ≡ 0) × (a ≡ built c)
tested-built n a c = go (eqb n 0) (eqb-true n 0)
  where
    go : (b : Bool) → (b ≡ true → n ≡ 0) → cond b a (refused n) ≡ built c → (n ≡ 0) × (a ≡ built c)
    go true f e = (f refl, e)
    go false f e = absurd (refused-built e)

abbrev IsBuilt : ChainAnswer → Type 0
IsBuilt a = (c : Chain) × (a ≡ built c)

tested-none : (n : ℕ) (a : ChainAnswer) → (ChainAnswer-refusal a ≡ 0 → IsBuilt a)
    → ChainAnswer-refusal (cond (eqb n 0) a (refused n)) ≡ 0 → IsBuilt (cond (eqb n 0) a (refused n))
tested-none n a h = go (eqb n 0) (eqb-false n 0)
  where
    go : (b : Bool) → (b ≡ false → n ≡ 0 → ⊥) → ChainAnswer-refusal (cond b a (refused n)) ≡ 0 → IsBuilt (cond b a (refused n))
    go true f e = h e
    go false f e = absurd (f refl e)

-- ---- the checks
pub record Passed (rigid : Bool) (poses : List Pose) : Type 0 where
  pub finite : Each (λ p. T (Pose-is_finite p)) poses
  pub affine : Each (λ p. T (Pose-is_affine p)) poses
  pub padded : Each (λ p. T (Pose-is_padded p)) poses
  pub least : min_poses ≤ length poses
  pub greatest : length poses ≤ max_poses
  pub rise : Each (λ (p, q). T (lt p.time q.time)) (neighbours poses)
  pub times : Each (λ (p, q). times_refusal p.time q.time ≡ 0) (neighbours poses)
  pub kind : Each (λ p. Pose-kind_number rigid p ≡ 0) poses

kind-passed : (rigid : Bool) (poses : List Pose) → kind_stage rigid poses ≡ 0 → Each (λ p. Pose-kind_number rigid p ≡ 0) poses
unfolding kind_stage Pose-number Pose-kind_number
kind-passed true poses e = stage-each (Pose-kind_number true) poses e
kind-passed false poses e = each_of (λ p. refl) poses

pub checks-passed : (rigid : Bool) (poses : List Pose) → chain_refusal rigid poses ≡ 0 → Passed rigid poses
unfolding chain_refusal Pose-number Pair-number
checks-passed rigid poses e =
    let (finite, (affine, (padded, (count, (rise, (times, (kind, _))))))) = first-each (chain_stages rigid poses) e in
    let (least, greatest) =
    counted (ltb (length poses) min_poses) (ltb max_poses (length poses)) (nltb→le (length poses) min_poses) (nltb→le max_poses (length poses)) count in
    record {
      finite = tested-each Pose-is_finite 0 poses finite;
      affine = tested-each Pose-is_affine 1 poses affine;
      padded = tested-each Pose-is_padded 15 poses padded;
      least = least;
      greatest = greatest;
      rise = tested-each (λ (p, q). lt p.time q.time) 11 (neighbours poses) rise;
      times = stage-each (λ (p, q). times_refusal p.time q.time) (neighbours poses) times;
      kind = kind-passed rigid poses kind;
    }
  where
    counted : (few many : Bool) → (T (not few) → min_poses ≤ length poses) → (T (not many) → length poses ≤ max_poses)
        → ◌≡◌ {A = ℕ} (cond (few || many) 12 0) 0 → (min_poses ≤ length poses) × (length poses ≤ max_poses)
    counted false false l g e = (l tt, g tt)
    counted false true l g e = absurd (omega (arith, e))
    counted true many l g e = absurd (omega (arith, e))

-- what is asked of a pose by itself
pub record PosePassed (rigid : Bool) (p : Pose) : Type 0 where
  pub finite : T (Pose-is_finite p)
  pub affine : T (Pose-is_affine p)
  pub padded : T (Pose-is_padded p)
  pub kind : Pose-kind_number rigid p ≡ 0

pub pair-worked : (rigid : Bool) (p q : Pose) → PosePassed rigid p → PosePassed rigid q → times_refusal p.time q.time ≡ 0
    → AnimatedTransform-new rigid p q ≡ AnimatedTransform-from_poses rigid p q
unfolding AnimatedTransform-new poses_refusal
pair-worked rigid p q h k e =
    rw (
      is_true (Pose-is_finite p) h.finite,
      is_true (Pose-is_finite q) k.finite,
      is_true (Pose-is_affine p) h.affine,
      is_true (Pose-is_affine q) k.affine,
      is_true (Pose-is_padded p) h.padded,
      is_true (Pose-is_padded q) k.padded,
      e,
      h.kind,
      k.kind,
    )

pub pairs-worked : (rigid : Bool) (poses : List Pose) → PairsWorked rigid poses
unfolding neighbours
pairs-worked rigid poses e =
    let h = checks-passed rigid poses e in
    go poses (each poses h.finite h.affine h.padded h.kind) h.times
  where
    each : (xs : List Pose) → Each (λ p. T (Pose-is_finite p)) xs → Each (λ p. T (Pose-is_affine p)) xs → Each (λ p. T (Pose-is_padded p)) xs
        → Each (λ p. Pose-kind_number rigid p ≡ 0) xs → Each (PosePassed rigid) xs
    each [] fs bs ps ks = tt
    each (x ∷ xs) (f, fs) (b, bs) (p, ps) (k, ks) = (record { finite = f; affine = b; padded = p; kind = k }, each xs fs bs ps ks)

    go : (xs : List Pose) → Each (PosePassed rigid) xs
        → Each (λ (p, q). times_refusal p.time q.time ≡ 0) (neighbours xs)
        → Each (λ (p, q). AnimatedTransform-new rigid p q ≡ AnimatedTransform-from_poses rigid p q) (neighbours xs)
    go [] hs ts = tt
    go (p ∷ []) hs ts = tt
    go (p ∷ q ∷ xs) (h, (k, hs)) (t, ts) = (pair-worked rigid p q h k t, go (q ∷ xs) (k, hs) ts)

-- ---- the pairs, from a pose on
abbrev pub answers : Bool → List Pose → List AnimatedTransformAnswer
answers rigid poses = map (λ (p, q). AnimatedTransform-new rigid p q) (neighbours poses)

abbrev numbers : List AnimatedTransformAnswer → List ℕ
numbers = map (λ a. a.refusal)

abbrev pub values : List AnimatedTransformAnswer → List AnimatedTransform
values = map (λ a. a.value)

record Worked (time : Float) (moves : List AnimatedTransform) : Type 0 where
  each : Each Built moves
  contiguous : Contiguous time moves

moves-worked : (rigid : Bool) (p : Pose) (poses : List Pose) → T (every Pose-is_binary32 (p ∷ poses))
    → Each (λ (p, q). T (lt p.time q.time)) (neighbours (p ∷ poses))
    → first_number (numbers (answers rigid (p ∷ poses))) ≡ 0 → Worked p.time (values (answers rigid (p ∷ poses)))
unfolding neighbours every
moves-worked rigid p [] f r n = record { each = tt; contiguous = tt }
moves-worked rigid p (q ∷ poses) f (r, rs) n =
    let a = AnimatedTransform-new rigid p q in
    let rest = answers rigid (q ∷ poses) in
    let (z, n') = first-none a.refusal (numbers rest) n in
    let f' = and_r (Pose-is_binary32 p) (every Pose-is_binary32 (q ∷ poses)) f in
    let t = new-kept rigid p q z in
    let w = moves-worked rigid q poses f' rs n' in
    let move : Built a.value = record {
      rigid = rigid;
      start = p;
      end = q;
      start-binary32 = and_l (Pose-is_binary32 p) (every Pose-is_binary32 (q ∷ poses)) f;
      end-binary32 = and_l (Pose-is_binary32 q) (every Pose-is_binary32 poses) f';
      accepted = ap (λ (k : ℕ). record { value = a.value; refusal = k }) z;
    } in
    record {
      each = (move, w.each);
      contiguous = (
        t.start-time,
        rw (t.start-time, t.end-time) r,
        rw t.end-time w.contiguous,
      );
    }

answers-count : (rigid : Bool) (p : Pose) (poses : List Pose) → length (values (answers rigid (p ∷ poses))) ≡ length poses
unfolding neighbours
answers-count rigid p [] = refl
answers-count rigid p (q ∷ poses) = ap (λ (n : ℕ). suc n) (answers-count rigid q poses)

-- ---- the chain
pub new-built : (rigid : Bool) (poses : List Pose) (c : Chain) → Chain-new rigid poses ≡ built c
    → (chain_refusal rigid poses ≡ 0) × (ChainAnswer-from_moves (answers rigid poses) ≡ built c)
unfolding Chain-new
new-built rigid poses c e = tested-built (chain_refusal rigid poses) (ChainAnswer-from_moves (answers rigid poses)) c e

pub from-moves-built : (a : AnimatedTransformAnswer) (rest : List AnimatedTransformAnswer) (c : Chain) → ChainAnswer-from_moves (a ∷ rest) ≡ built c
    → (stage (λ x. x.refusal) (a ∷ rest) ≡ 0) × (c ≡ record { first = a.value; rest = values rest })
unfolding ChainAnswer-from_moves
from-moves-built a rest c e =
    let (z, s) = tested-built (stage (λ x. x.refusal) (a ∷ rest)) (built (record { first = a.value; rest = values rest })) c e in
    (z, built-same (sym s))

-- What was built of poses: they have passed the checks, no pair's number was met, and its moves are those of the pairs.
pub record BuiltFrom (rigid : Bool) (poses : List Pose) (c : Chain) : Type 0 where
  pub passed : chain_refusal rigid poses ≡ 0
  pub none : stage (λ x. x.refusal) (answers rigid poses) ≡ 0
  pub moves : Chain-moves c ≡ values (answers rigid poses)

list-built : (list : List AnimatedTransformAnswer) (c : Chain) → ChainAnswer-from_moves list ≡ built c
    → (stage (λ x. x.refusal) list ≡ 0) × (Chain-moves c ≡ values list)
unfolding ChainAnswer-from_moves
list-built [] c e = absurd (refused-built e)
list-built (a ∷ rest) c e = let (n, s) = from-moves-built a rest c e in (n, ap Chain-moves s)

pub built-from : (rigid : Bool) (poses : List Pose) (c : Chain) → Chain-new rigid poses ≡ built c → BuiltFrom rigid poses c
built-from rigid poses c e =
    let (z, f) = new-built rigid poses c e in
    let (n, m) = list-built (answers rigid poses) c f in
    record { passed = z; none = n; moves = m }

moves-none : (list : List AnimatedTransformAnswer) → ChainAnswer-refusal (ChainAnswer-from_moves list) ≡ 0 → IsBuilt (ChainAnswer-from_moves list)
unfolding ChainAnswer-from_moves
moves-none [] e = absurd (omega (arith, e))
moves-none (a ∷ rest) e =
    tested-none (stage (λ x. x.refusal) (a ∷ rest)) (built (record { first = a.value; rest = values rest }))
    (λ _. (record { first = a.value; rest = values rest }, refl)) e

pub none-built : (rigid : Bool) (poses : List Pose) → ChainAnswer-refusal (Chain-new rigid poses) ≡ 0 → (c : Chain) × (Chain-new rigid poses ≡ built c)
unfolding Chain-new
none-built rigid poses e = tested-none (chain_refusal rigid poses) _ (moves-none _) e

pub built-moves : {c : Chain} → BuiltChain c → BuiltMoves c
unfolding ChainAnswer-from_moves neighbours
built-moves {c} b = go b.rigid b.poses b.poses-binary32 b.accepted
  where
    go : (rigid : Bool) (poses : List Pose) → T (every Pose-is_binary32 poses) → Chain-new rigid poses ≡ built c → BuiltMoves c
    go rigid [] f e = absurd (refused-built (new-built rigid [] c e).1)
    go rigid (p ∷ []) f e = absurd (refused-built (new-built rigid (p ∷ []) c e).1)
    go rigid (p ∷ q ∷ poses) f e =
        let (z, g) = new-built rigid (p ∷ q ∷ poses) c e in
        let passed = checks-passed rigid (p ∷ q ∷ poses) z in
        let (n, s) = from-moves-built (AnimatedTransform-new rigid p q) (answers rigid (q ∷ poses)) c g in
        let w = moves-worked rigid p (q ∷ poses) f passed.rise n in
        let l = answers-count rigid p (q ∷ poses) in
        let h = passed.greatest in
        subst BuiltMoves (sym s) (record { each = w.each; contiguous = (refl, w.contiguous.1, w.contiguous.2); count = omega (arith, l, h) })
