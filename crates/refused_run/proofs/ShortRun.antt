-- Every chain that is refused with a number but 12 has a run of one pose or of two with that number: `short-run`.
-- Where a check refuses a pose by itself, that pose alone has the number (`self-number`); where it refuses two
-- neighbours, or a move is refused, these two have it (`pair-number`), since they pass all that comes before.
use Prim.Native.Nat.{ℕ, suc, ◌+◌, ◌≤◌, ◌<◌}
use mathlib.Core.Path.{◌≡◌, refl, sym, ap, ◌∙◌}
use mathlib.Core.Bool.{Bool, true, false, not, ◌&&◌, ◌||◌, cond}
use mathlib.Core.List.{List, [], ◌∷◌}
use native.Mathlib.Omega.{arith}
use borrow.Author.Tests.{eqb-true, ne_eqb}
use lib.Dec.{T, eqb, ltb}
use lib.ListN.{length, drop}
use lib.Ieee.{lt}
use lib.Ieee.Scale.{finite}
use lib.Ieee.Fits.{and_l}
use Rattle.chain_number.proofs.refusal.First.{first-assoc}
use Rattle.chain_number.specs.refusal.First.{first_refusal}
use Rattle.chain_number.specs.matrix4x4.Rows.{Matrix4x4-to_rows}
use Rattle.chain_number.specs.matrix4x4.IsFinite.{Matrix4x4-is_finite}
use Rattle.chain_number.specs.pose_pair.declared.Pose.{Pose}
use Rattle.chain_number.specs.pose_pair.Pose.{Pose-is_finite, Pose-is_affine, Pose-is_padded, times_refusal, poses_refusal, Pose-kind_number}
use Rattle.chain_number.specs.animated_transform.New.{AnimatedTransformAnswer}
use Rattle.chain_number.specs.animated_transform.New.{AnimatedTransformAnswer-refused, AnimatedTransform-from_poses, AnimatedTransform-new}
use Rattle.chain_number.proofs.bounds_answers.UnionAll.{each_of, each-implies}
use Rattle.chain_number.specs.motion_chain.Chain.{min_poses, max_poses, neighbours, first_number, stage, Pose-number, Pair-number, kind_stage, chain_stages, chain_refusal}
use Rattle.chain_number.specs.motion_chain.Built.{Each}
use Rattle.chain_number.proofs.motion_chain.Built.{first-none, first-only, stage-each, checks-passed}
use Rattle.chain_number.proofs.motion_chain.TwoPoses.{same-time}
use Rattle.chain_number.specs.Number.{Move-number, Chain-number}
use Rattle.chain_number.proofs.ChainNumber.{chain-number}
use Rattle.refused_run.specs.Run.{run_at, run_number}

pub record ShortRun (rigid : Bool) (poses : List Pose) (number : ℕ) : Type 0 where
  pub place : ℕ
  pub count : ℕ
  pub some : 0 < count
  pub short : count ≤ 2
  pub within : place + count ≤ length poses
  pub same_number : run_number rigid (run_at poses place count) ≡ number

-- ---- numbers, one after the other
met : {A : Type 0} (a b n : ℕ) → first_refusal a b ≡ n → (a ≡ n → A) → (a ≡ 0 → b ≡ n → A) → A
met {A} a b n e = go (eqb a 0) (eqb-true a 0) e
  where
    go : (c : Bool) → (c ≡ true → a ≡ 0) → cond c b a ≡ n → (a ≡ n → A) → (a ≡ 0 → b ≡ n → A) → A
    go true z e first later = later (z refl) e
    go false z e first later = first e

met-first : {A : Type 0} (a : ℕ) (ns : List ℕ) (n : ℕ) → first_number (a ∷ ns) ≡ n → (a ≡ n → A) → (a ≡ 0 → first_number ns ≡ n → A) → A
unfolding first_number
met-first a ns n e = met a (first_number ns) n e

-- ---- what is asked of a pose by itself, before anything is asked of two
record Cleared (p : Pose) : Type 0 where
  finite : Pose-number 1 p ≡ 0
  affine : Pose-number 2 p ≡ 0
  padded : Pose-number 16 p ≡ 0

cleared : (poses : List Pose) → Each (λ p. Pose-number 1 p ≡ 0) poses → Each (λ p. Pose-number 2 p ≡ 0) poses → Each (λ p. Pose-number 16 p ≡ 0) poses
    → Each Cleared poses
cleared [] fs bs ds = tt
cleared (p ∷ poses) (f, fs) (b, bs) (d, ds) = (record { finite = f; affine = b; padded = d }, cleared poses fs bs ds)

own-times : (p : Pose) → Cleared p → times_refusal p.time p.time ≡ 0
unfolding Pose-number Pose-is_finite
own-times p c =
    let finites = passed (Pose-is_finite p) c.finite in
    same-time p.time (and_l (finite p.time) (Matrix4x4-is_finite (Matrix4x4-to_rows p.m))
    (and_l (finite p.time && Matrix4x4-is_finite (Matrix4x4-to_rows p.m)) (finite p.pad) finites))
  where
    passed : (b : Bool) → ◌≡◌ {A = ℕ} (cond b 0 1) 0 → T b
    passed true e = tt
    passed false e = absurd (omega (arith, e))

module _ (rigid : Bool) where
  further : (p : Pose) {poses : List Pose} {n : ℕ} → ShortRun rigid poses n → ShortRun rigid (p ∷ poses) n
  further p s =
      record {
        place = suc s.place;
        count = s.count;
        some = s.some;
        short = s.short;
        within = let h = s.within in omega (arith, h);
        same_number = s.same_number;
      }

  -- ---- a run of one pose
  module _ (p : Pose) where
    abbrev times : ℕ
    times = times_refusal p.time p.time

    abbrev kind : ℕ
    kind = Pose-kind_number rigid p

    abbrev worked : AnimatedTransformAnswer
    worked = AnimatedTransform-from_poses rigid p p

    kind-twice : first_refusal kind kind ≡ kind
    kind-twice = go (eqb kind 0)
      where
        go : (b : Bool) → cond b kind kind ≡ kind
        go true = refl
        go false = refl

    -- 3, then 17 and 18, then what is worked
    judged : (t k : ℕ) → (cond (eqb (first_refusal t k) 0) worked
        (AnimatedTransformAnswer-refused (first_refusal t k))).refusal ≡ first_refusal t (first_refusal k worked.refusal)
    judged t k = go (eqb t 0) refl
      where
        last : (b : Bool) → (cond b worked (AnimatedTransformAnswer-refused k)).refusal ≡ cond b worked.refusal k
        last true = refl
        last false = refl

        go : (b : Bool) → eqb t 0 ≡ b
            → (cond (eqb (cond b k t) 0) worked (AnimatedTransformAnswer-refused (cond b k t))).refusal ≡ cond b (first_refusal k worked.refusal) t
        go true e = last (eqb k 0)
        go false e = rw e

    -- the numbers in their order, with those of the kind and of what is worked left open
    abbrev in_order : Bool → Bool → Bool → ℕ → ℕ
    in_order f a d k = first_refusal (cond f 0 1) (first_refusal (cond a 0 2) (first_refusal (cond d 0 16) (first_refusal times (first_refusal k worked.refusal))))

    self-number : Move-number rigid (p, p)
        ≡ first_refusal (Pose-number 1 p)
        (first_refusal (Pose-number 2 p) (first_refusal (Pose-number 16 p) (first_refusal times (first_refusal kind worked.refusal))))
    unfolding AnimatedTransform-new poses_refusal Pose-number
    self-number =
        go (first_refusal kind kind) (Pose-is_finite p) (Pose-is_affine p) (Pose-is_padded p)
        ∙ ap (in_order (Pose-is_finite p) (Pose-is_affine p) (Pose-is_padded p)) kind-twice
      where
        asked : Bool → Bool → Bool → ℕ → ℕ
        asked f a d k = first_refusal (cond (not (f && f)) 1 (cond (not (a && a)) 2 (cond (not (d && d)) 16 times))) k

        go : (k : ℕ) (f a d : Bool) → (cond (eqb (asked f a d k) 0) worked (AnimatedTransformAnswer-refused (asked f a d k))).refusal ≡ in_order f a d k
        go k true true true = judged times k
        go k true true false = refl
        go k true false d = refl
        go k false a d = refl

  module _ (number : Pose → ℕ) (n : ℕ) (refused : n ≡ 0 → ⊥) where
    pose-run : (poses : List Pose) → Each (λ p. number p ≡ n → Move-number rigid (p, p) ≡ n) poses → stage number poses ≡ n → ShortRun rigid poses n
    unfolding first_number run_number
    pose-run [] hs e = absurd (refused (sym e))
    pose-run (p ∷ poses) (h, hs) e =
        met (number p) (stage number poses) n e
        (λ e. record { place = 0; count = 1; some = omega arith; short = omega arith; within = omega arith; same_number = h e })
        (λ z e. further p (pose-run poses hs e))

  -- ---- a run of two poses
  abbrev pair_number : Pose × Pose → ℕ
  pair_number (p, q) = first_refusal (Pair-number 3 (p, q)) (first_refusal (kind_stage rigid (p ∷ q ∷ [])) (Move-number rigid (p, q)))

  pair-number : (p q : Pose) → Cleared p → Cleared q → Pair-number 12 (p, q) ≡ 0 → Chain-number rigid (p ∷ q ∷ []) ≡ pair_number (p, q)
  unfolding chain_refusal first_number neighbours
  pair-number p q h k rise =
      chain-number rigid (p ∷ q ∷ [])
      ∙ rw (
        h.finite,
        k.finite,
        h.affine,
        k.affine,
        h.padded,
        k.padded,
        rise,
        first-only (Pair-number 3 (p, q)),
        first-only (kind_stage rigid (p ∷ q ∷ [])),
        first-only (Move-number rigid (p, q)),
      )
      (first-assoc (Pair-number 3 (p, q)) (kind_stage rigid (p ∷ q ∷ [])) (Move-number rigid (p, q)))

  module _ (number : Pose × Pose → ℕ) (n : ℕ) (refused : n ≡ 0 → ⊥) where
    pair-run : (poses : List Pose) → Each Cleared poses → Each (λ pair. Pair-number 12 pair ≡ 0) (neighbours poses)
        → Each (λ pair. number pair ≡ n → pair_number pair ≡ n) (neighbours poses) → stage number (neighbours poses) ≡ n → ShortRun rigid poses n
    unfolding first_number neighbours run_number
    pair-run [] cs rs hs e = absurd (refused (sym e))
    pair-run (p ∷ []) cs rs hs e = absurd (refused (sym e))
    pair-run (p ∷ q ∷ poses) (c, (d, cs)) (r, rs) (h, hs) e =
        met (number (p, q)) (stage number (neighbours (q ∷ poses))) n e
        (λ e. record { place = 0; count = 2; some = omega arith; short = omega arith; within = omega arith; same_number = pair-number p q c d r ∙ h e })
        (λ z e. further p (pair-run (q ∷ poses) (d, cs) rs hs e))

-- ---- the kind
kind-run : (rigid : Bool) (n : ℕ) → (n ≡ 0 → ⊥) → (poses : List Pose) → Each Cleared poses → kind_stage rigid poses ≡ n → ShortRun rigid poses n
unfolding kind_stage Pose-number
kind-run false n refused poses cs e = absurd (refused (sym e))
kind-run true n refused poses cs e =
    pose-run true (Pose-kind_number true) n refused poses
    (each-implies (λ p c e. self-number true p ∙ rw (c.finite, c.affine, c.padded, own-times p c, e, ne_eqb n 0 refused)) poses cs) e

pair-kind : (rigid : Bool) (p q : Pose) → Pose-kind_number rigid p ≡ 0 → Pose-kind_number rigid q ≡ 0 → kind_stage rigid (p ∷ q ∷ []) ≡ 0
unfolding kind_stage Pose-number first_number
pair-kind false p q h k = refl
pair-kind true p q h k = rw (h, k)

pair-kinds : (rigid : Bool) (poses : List Pose) → Each (λ p. Pose-kind_number rigid p ≡ 0) poses
    → Each (λ (p, q). kind_stage rigid (p ∷ q ∷ []) ≡ 0) (neighbours poses)
unfolding neighbours
pair-kinds rigid [] hs = tt
pair-kinds rigid (p ∷ []) hs = tt
pair-kinds rigid (p ∷ q ∷ poses) (h, (k, hs)) = (pair-kind rigid p q h k, pair-kinds rigid (q ∷ poses) (k, hs))

-- ---- the chain's stages, in their order
module _ (rigid : Bool) (poses : List Pose) (n : ℕ) (refused : n ≡ 0 → ⊥) (not-twelve : n ≡ 12 → ⊥) where
  abbrev pairs : List (Pose × Pose)
  pairs = neighbours poses

  abbrev Clear : ℕ → Type 0
  Clear k = stage (Pose-number k) poses ≡ 0

  not_finite : stage (Pose-number 1) poses ≡ n → ShortRun rigid poses n
  not_finite = pose-run rigid (Pose-number 1) n refused poses (each_of (λ p e. self-number rigid p ∙ rw (e, ne_eqb n 0 refused)) poses)

  not-affine : Clear 1 → stage (Pose-number 2) poses ≡ n → ShortRun rigid poses n
  not-affine finite =
      pose-run rigid (Pose-number 2) n refused poses
      (each-implies (λ p z e. self-number rigid p ∙ rw (z, e, ne_eqb n 0 refused)) poses (stage-each (Pose-number 1) poses finite))

  not-padded : Clear 1 → Clear 2 → stage (Pose-number 16) poses ≡ n → ShortRun rigid poses n
  not-padded finite affine =
      pose-run rigid (Pose-number 16) n refused poses (both poses (stage-each (Pose-number 1) poses finite) (stage-each (Pose-number 2) poses affine))
    where
      both : (xs : List Pose) → Each (λ p. Pose-number 1 p ≡ 0) xs → Each (λ p. Pose-number 2 p ≡ 0) xs
          → Each (λ p. Pose-number 16 p ≡ n → Move-number rigid (p, p) ≡ n) xs
      both [] fs bs = tt
      both (p ∷ xs) (f, fs) (b, bs) = ((λ e. self-number rigid p ∙ rw (f, b, e, ne_eqb n 0 refused)), both xs fs bs)

  all-cleared : Clear 1 → Clear 2 → Clear 16 → Each Cleared poses
  all-cleared f a d = cleared poses (stage-each (Pose-number 1) poses f) (stage-each (Pose-number 2) poses a) (stage-each (Pose-number 16) poses d)

  not-counted : cond (ltb (length poses) min_poses || ltb max_poses (length poses)) 12 0 ≡ n → ⊥
  not-counted = go (ltb (length poses) min_poses || ltb max_poses (length poses))
    where
      go : (b : Bool) → cond b 12 0 ≡ n → ⊥
      go true e = not-twelve (sym e)
      go false e = refused (sym e)

  not-rising : (xs : List (Pose × Pose)) → stage (Pair-number 12) xs ≡ n → ⊥
  unfolding first_number Pair-number
  not-rising [] e = refused (sym e)
  not-rising ((p, q) ∷ xs) e = met (Pair-number 12 (p, q)) (stage (Pair-number 12) xs) n e (go (lt p.time q.time)) (λ z. not-rising xs)
    where
      go : (b : Bool) → cond b 0 12 ≡ n → ⊥
      go true e = refused (sym e)
      go false e = not-twelve (sym e)

  module _ (clear : Each Cleared poses) (rise : stage (Pair-number 12) pairs ≡ 0) where
    not-timed : stage (Pair-number 3) pairs ≡ n → ShortRun rigid poses n
    not-timed =
        pair-run rigid (Pair-number 3) n refused poses clear (stage-each (Pair-number 12) pairs rise) (each_of (λ pair e. rw (e, ne_eqb n 0 refused)) pairs)

    not-moved : chain_refusal rigid poses ≡ 0 → stage (Pair-number 3) pairs ≡ 0 → stage (Move-number rigid) pairs ≡ n → ShortRun rigid poses n
    not-moved passed times =
        pair-run rigid (Move-number rigid) n refused poses clear (stage-each (Pair-number 12) pairs rise)
        (both pairs (stage-each (Pair-number 3) pairs times) (pair-kinds rigid poses (checks-passed rigid poses passed).kind))
      where
        both : (xs : List (Pose × Pose)) → Each (λ pair. Pair-number 3 pair ≡ 0) xs → Each (λ (p, q). kind_stage rigid (p ∷ q ∷ []) ≡ 0) xs
            → Each (λ pair. Move-number rigid pair ≡ n → pair_number rigid pair ≡ n) xs
        both [] ts ks = tt
        both (pair ∷ xs) (t, ts) (k, ks) = ((λ e. rw (t, k, e)), both xs ts ks)

  -- the stages behind the first k
  abbrev behind : ℕ → List ℕ
  behind k = drop k (chain_stages rigid poses)

  by-stages : first_refusal (chain_refusal rigid poses) (stage (Move-number rigid) pairs) ≡ n → ShortRun rigid poses n
  unfolding chain_refusal first_number
  by-stages e =
      met (chain_refusal rigid poses) (stage (Move-number rigid) pairs) n e
      (λ e. met-first (stage (Pose-number 1) poses) (behind 1) n e not_finite
      (λ f e. met-first (stage (Pose-number 2) poses) (behind 2) n e (not-affine f)
      (λ a e. met-first (stage (Pose-number 16) poses) (behind 3) n e (not-padded f a)
      (λ d e. met-first (cond (ltb (length poses) min_poses || ltb max_poses (length poses)) 12 0) (behind 4) n e (λ e. absurd (not-counted e))
      (λ c e. met-first (stage (Pair-number 12) pairs) (behind 5) n e (λ e. absurd (not-rising pairs e))
      (λ r e. met-first (stage (Pair-number 3) pairs) (behind 6) n e (not-timed (all-cleared f a d) r)
      (λ t e. met-first (kind_stage rigid poses) [] n e (kind-run rigid n refused poses (all-cleared f a d))
      (λ k e. absurd (refused (sym e))))))))))
      (λ passed e.
      let (f, z1) = first-none (stage (Pose-number 1) poses) (behind 1) passed in
      let (a, z2) = first-none (stage (Pose-number 2) poses) (behind 2) z1 in
      let (d, z3) = first-none (stage (Pose-number 16) poses) (behind 3) z2 in
      let (c, z4) = first-none (cond (ltb (length poses) min_poses || ltb max_poses (length poses)) 12 0) (behind 4) z3 in
      let (r, z5) = first-none (stage (Pair-number 12) pairs) (behind 5) z4 in
      let (t, z6) = first-none (stage (Pair-number 3) pairs) (behind 6) z5 in
      not-moved (all-cleared f a d) r passed t e)

pub short-run : (rigid : Bool) (poses : List Pose) → (Chain-number rigid poses ≡ 0 → ⊥) → (Chain-number rigid poses ≡ 12 → ⊥)
    → ShortRun rigid poses (Chain-number rigid poses)
short-run rigid poses f g = by-stages rigid poses (Chain-number rigid poses) f g (sym (chain-number rigid poses))
