-- A changed pose changes the moves beside it alone: `changed-beside`. The poses of a built chain have passed every check, so that of the
-- changed ones only those in the window tell (`Window.antt`), and the window is what the moves beside the place store (`beside-window`). If
-- the changed chain is built, its poses are binary32 where the new one is: `changed-built`. A chain whose number is 0 is built: `new_none`.
use Prim.Native.Nat.{ℕ, zero, suc, ◌-◌, ◌≤◌, ◌<◌}
use mathlib.Core.Path.{◌≡◌, refl, sym, ap, ◌∙◌}
use mathlib.Core.Bool.{Bool, true, false, ◌||◌, cond}
use mathlib.Core.List.{List, [], ◌∷◌, ◌++◌, map, map-map}
use native.Mathlib.Omega.{arith}
use borrow.Author.Tests.{eq-eqb, ne_eqb, eqb-true, eqb-false, le-ltb}
use lib.Dec.{T, eqb, ltb}
use lib.ListN.{length, take, drop, set, length-set, length-map}
use lib.Seq.{sets}
use Rattle.built_poses.specs.pose_pair.declared.Pose.{Pose}
use Rattle.built_poses.specs.pose_pair.Pose.{Pose-is_binary32}
use Rattle.built_poses.specs.animated_transform.declared.AnimatedTransform.{AnimatedTransform}
use Rattle.built_poses.specs.animated_transform.New.{AnimatedTransformAnswer}
use Rattle.built_poses.specs.animated_transform.New.{AnimatedTransform-new}
use Rattle.built_poses.specs.motion_chain.Chain.{min_poses, max_poses, neighbours, every, first_number, stage, Pose-number, Pair-number, kind_stage, chain_stages, chain_refusal}
use Rattle.built_poses.specs.motion_chain.Chain.{Chain, Chain-moves, ChainAnswer, built, refused, ChainAnswer-refusal, ChainAnswer-from_moves, Chain-new}
use Rattle.built_poses.specs.motion_chain.Built.{BuiltChain}
use Rattle.built_poses.proofs.motion_chain.Built as chain
use Rattle.built_poses.proofs.motion_chain.Built.{first-none, first-each, refused-built, checks-passed, values, BuiltFrom, built-from, none-built}
use Rattle.built_poses.specs.Poses.{AnimatedTransform-start_pose, AnimatedTransform-end_pose, Chain-poses, Chain-is_rigid}
use Rattle.built_poses.proofs.Built.{new-poses, built-poses, built-kind}
use Rattle.changed_chain.specs.Trial.{Chain-changed}
use Rattle.changed_chain.specs.Beside.{Chain-beside, Chain-new_beside, BuiltOf, ChangedBeside}
use Rattle.changed_chain.proofs.Window.{window, window-least, window-greatest, stage-window, pairs-window, every-window, map-sets, answers-window}

-- of one kind, rigid or not
module _ (rigid : Bool) where
  -- ---- what came of each pair
  abbrev answers : List Pose → List AnimatedTransformAnswer
  answers = chain.answers rigid

  abbrev number : List AnimatedTransformAnswer → ℕ
  number = stage (λ a. a.refusal)

  abbrev pair_number : Pose × Pose → ℕ
  pair_number (p, q) = (AnimatedTransform-new rigid p q).refusal

  number_same : (poses : List Pose) → number (answers poses) ≡ stage pair_number (neighbours poses)
  number_same poses = ap first_number (map-map (λ a. a.refusal) (λ (p, q). AnimatedTransform-new rigid p q) (neighbours poses))

  answers-some : (poses : List Pose) → 2 ≤ length poses → 1 ≤ length (answers poses)
  unfolding neighbours
  answers-some [] l = absurd (omega (arith, l))
  answers-some (p ∷ []) l = absurd (omega (arith, l))
  answers-some (p ∷ q ∷ poses) l = omega arith

  -- ---- one answer of them
  from-refused : (list : List AnimatedTransformAnswer) → 1 ≤ length list → (number list ≡ 0 → ⊥) → ChainAnswer-from_moves list ≡ refused (number list)
  unfolding ChainAnswer-from_moves
  from-refused [] l f = absurd (omega (arith, l))
  from-refused (a ∷ list) l f = rw (ne_eqb (number (a ∷ list)) 0 f)

  from-built : (list : List AnimatedTransformAnswer) → 1 ≤ length list → number list ≡ 0 → BuiltOf (ChainAnswer-from_moves list) (values list)
  unfolding ChainAnswer-from_moves
  from-built [] l z = absurd (omega (arith, l))
  from-built (a ∷ list) l z =
      record {
        chain = record { first = a.value; rest = values list };
        is-built = rw (eq-eqb (number (a ∷ list)) 0 z);
        same-moves = refl;
      }

  abbrev moves_of : ChainAnswer → List AnimatedTransform
  moves_of (built c) = Chain-moves c
  moves_of (refused n) = []

  -- ---- building, by its two numbers
  checked : (list : List Pose) → chain_refusal rigid list ≡ 0 → Chain-new rigid list ≡ ChainAnswer-from_moves (answers list)
  unfolding Chain-new
  checked list z = rw (eq-eqb (chain_refusal rigid list) 0 z)

  unchecked : (list : List Pose) → (chain_refusal rigid list ≡ 0 → ⊥) → Chain-new rigid list ≡ refused (chain_refusal rigid list)
  unfolding Chain-new
  unchecked list f = rw (ne_eqb (chain_refusal rigid list) 0 f)

  of-moves : {a : ChainAnswer} (list : List AnimatedTransformAnswer) → a ≡ ChainAnswer-from_moves list
      → BuiltOf (ChainAnswer-from_moves list) (values list) → BuiltOf a (values list)
  of-moves list e b = record { chain = b.chain; is-built = e ∙ b.is-built; same-moves = b.same-moves }

  -- a chain whose number is 0 is built
  pub new_none : (poses : List Pose) → ChainAnswer-refusal (Chain-new rigid poses) ≡ 0 → BuiltOf (Chain-new rigid poses) (values (answers poses))
  new_none poses e = let (c, s) = none-built rigid poses e in record { chain = c; is-built = s; same-moves = (built-from rigid poses c s).moves }

  -- ---- two lists of poses with the same numbers
  data Both (a b : ChainAnswer) (moves others : List AnimatedTransform) : Type 0 where
    both-refused : (n : ℕ) → a ≡ refused n → b ≡ refused n → Both a b moves others
    both-built : BuiltOf a moves → BuiltOf b others → Both a b moves others

  module _ (poses others : List Pose) (checks : chain_refusal rigid poses ≡ chain_refusal rigid others)
      (numbers : number (answers poses) ≡ number (answers others))
      (l : 2 ≤ length poses) (k : 2 ≤ length others) where
    abbrev AlikeNew : Type 0
    AlikeNew = Both (Chain-new rigid poses) (Chain-new rigid others) (values (answers poses)) (values (answers others))

    alike-new : AlikeNew
    alike-new = go (eqb (chain_refusal rigid others) 0) refl (eqb (number (answers others)) 0) refl
      where
        go : (s : Bool) → eqb (chain_refusal rigid others) 0 ≡ s → (t : Bool) → eqb (number (answers others)) 0 ≡ t → AlikeNew
        go false s t u =
            let f = eqb-false (chain_refusal rigid others) 0 s in
            both-refused (chain_refusal rigid others) (unchecked poses (λ z. f (sym checks ∙ z)) ∙ ap refused checks) (unchecked others f)
        go true s false u =
            let z = eqb-true (chain_refusal rigid others) 0 s in
            let f = eqb-false (number (answers others)) 0 u in
            both-refused (number (answers others))
            (checked poses (checks ∙ z) ∙ (from-refused (answers poses) (answers-some poses l) (λ n. f (sym numbers ∙ n)) ∙ ap refused numbers))
            (checked others z ∙ from-refused (answers others) (answers-some others k) f)
        go true s true u =
            let z = eqb-true (chain_refusal rigid others) 0 s in
            let n = eqb-true (number (answers others)) 0 u in
            both-built
            (of-moves (answers poses) (checked poses (checks ∙ z)) (from-built (answers poses) (answers-some poses l) (numbers ∙ n)))
            (of-moves (answers others) (checked others z) (from-built (answers others) (answers-some others k) n))

  -- ---- the window
  module _ (p : Pose) where
    abbrev beside_of : List AnimatedTransform → ℕ → List Pose
    beside_of moves i = map AnimatedTransform-start_pose (drop (i - 1) (take i moves)) ++ p ∷ map AnimatedTransform-end_pose (take 1 (drop i moves))

    pub beside-window : (poses : List Pose) (i : ℕ) → number (answers poses) ≡ 0
        → i < length poses → beside_of (values (answers poses)) i ≡ window (set poses i p) i
    unfolding neighbours
    beside-window [] i z h = absurd (omega (arith, h))
    beside-window (a ∷ []) zero z h = refl
    beside-window (a ∷ []) (suc i) z h = absurd (omega (arith, h))
    beside-window (a ∷ b ∷ poses) zero z h =
        let (n, _) = first-none (pair_number (a, b)) (map (λ x. x.refusal) (answers (b ∷ poses))) z in
        rw ((new-poses rigid a b).end-pose n)
    beside-window (a ∷ b ∷ []) (suc zero) z h =
        let (n, _) = first-none (pair_number (a, b)) (map (λ x. x.refusal) (answers (b ∷ []))) z in
        rw ((new-poses rigid a b).start-pose n)
    beside-window (a ∷ b ∷ c ∷ poses) (suc zero) z h =
        let (n, y) = first-none (pair_number (a, b)) (map (λ x. x.refusal) (answers (b ∷ c ∷ poses))) z in
        let (m, _) = first-none (pair_number (b, c)) (map (λ x. x.refusal) (answers (c ∷ poses))) y in
        rw ((new-poses rigid a b).start-pose n, (new-poses rigid b c).end-pose m)
    beside-window (a ∷ b ∷ poses) (suc (suc i)) z h =
        let (_, y) = first-none (pair_number (a, b)) (map (λ x. x.refusal) (answers (b ∷ poses))) z in
        let k : suc i - 1 ≡ i = omega arith in
        let e : suc (suc i) - 1 ≡ suc i = omega arith in
        rw e (rw k at (beside-window (b ∷ poses) (suc i) y (omega (arith, h))))

  -- ---- the checks
  count_none : (n : ℕ) → min_poses ≤ n → n ≤ max_poses → ◌≡◌ {A = ℕ} (cond (ltb n min_poses || ltb max_poses n) 12 0) 0
  count_none n l g = rw (le-ltb n min_poses l, le-ltb max_poses n g)

  module _ (p : Pose) (poses : List Pose) (i : ℕ) (passed : chain_refusal rigid poses ≡ 0) (h : i < length poses) where
    abbrev after : List Pose
    after = set poses i p

    -- what is asked of a rigid chain alone
    kind-window : kind_stage rigid poses ≡ 0 → kind_stage rigid after ≡ kind_stage rigid (window after i)
    kind-window = go rigid
      where
        go : (kind : Bool) → kind_stage kind poses ≡ 0 → kind_stage kind after ≡ kind_stage kind (window after i)
        go true z = unfold kind_stage in stage-window p (Pose-number 17) poses i (unfold kind_stage in z) h
        go false z = unfold kind_stage in refl

    pub checks-window : chain_refusal rigid after ≡ chain_refusal rigid (window after i)
    unfolding chain_refusal
    checks-window =
        let (one, (two, (sixteen, (_, (rise, (times, (whole, _))))))) = first-each (chain_stages rigid poses) passed in
        let all = checks-passed rigid poses passed in
        let n = length-set poses i p in
        let least = all.least in
        let greatest = all.greatest in
        let few = window-least after i (omega (arith, n, least)) (omega (arith, n, h)) in
        let many = window-greatest after i in
        rw (
          stage-window p (Pose-number 1) poses i one h,
          stage-window p (Pose-number 2) poses i two h,
          stage-window p (Pose-number 16) poses i sixteen h,
          count_none (length after) (omega (arith, n, least)) (omega (arith, n, greatest)),
          count_none (length (window after i)) few (omega (arith, many)),
          pairs-window p (Pair-number 12) poses i rise h,
          pairs-window p (Pair-number 3) poses i times h,
          kind-window whole,
        )

  -- ---- the law
  module _ (c : Chain) (poses : List Pose) (accepted : Chain-new rigid poses ≡ built c) (place : ℕ) (p : Pose) (h : place < length (Chain-poses c)) where
    kind : Chain-is_rigid c ≡ rigid
    kind = built-kind rigid poses c accepted

    own : Chain-poses c ≡ poses
    own = built-poses rigid poses c accepted

    was : BuiltFrom rigid poses c
    was = built-from rigid poses c accepted

    abbrev changed : List Pose
    changed = set poses place p

    inside : place < length poses
    inside = rw (← own) h

    pub beside_same : Chain-beside c place p ≡ window changed place
    unfolding Chain-beside
    beside_same = rw was.moves (beside-window p poses place was.none inside)

    numbers : number (answers changed) ≡ number (answers (window changed place))
    numbers =
        number_same changed ∙ (pairs-window p pair_number poses place (sym (number_same poses) ∙ was.none) inside ∙ sym (number_same (window changed place)))

    moves-changed : values (answers changed) ≡ sets (Chain-moves c) (place - 1) (values (answers (window changed place)))
    moves-changed =
        ap values (answers-window (λ (a, b). AnimatedTransform-new rigid a b) p poses place inside)
        ∙ (map-sets (λ (a : AnimatedTransformAnswer). a.value) (answers poses) (place - 1) (answers (window changed place))
        ∙ ap (λ (l : List AnimatedTransform). sets l (place - 1) (values (answers (window changed place)))) (sym was.moves))

    both : Both (Chain-new rigid changed) (Chain-new rigid (window changed place)) (values (answers changed)) (values (answers (window changed place)))
    both =
        let n = length-set poses place p in
        let least = (checks-passed rigid poses was.passed).least in
        let k : 2 ≤ length changed = omega (arith, n, least) in
        alike-new changed (window changed place) (checks-window p poses place was.passed inside) numbers k
        (window-least changed place k (omega (arith, n, inside)))

    changed-new : Chain-changed c place p ≡ Chain-new rigid changed
    unfolding Chain-changed
    changed-new = λ i. Chain-new (kind i) (set (own i) place p)

    beside-new : Chain-new_beside c place p ≡ Chain-new rigid (window changed place)
    beside-new = λ i. Chain-new (kind i) (beside_same i)

    pub changed-beside : ChangedBeside c place p
    changed-beside = go both
      where
        go : Both (Chain-new rigid changed) (Chain-new rigid (window changed place)) (values (answers changed)) (values (answers (window changed place)))
            → ChangedBeside c place p
        go (both-refused m a b) =
            record {
              refused-beside = λ n e. changed-new ∙ (a ∙ (sym b ∙ (sym beside-new ∙ e)));
              built-beside = λ d e. absurd (refused-built (sym b ∙ (sym beside-new ∙ e)));
            }
        go (both-built a b) =
            record {
              refused-beside = λ n e. absurd (refused-built (sym e ∙ (beside-new ∙ b.is-built)));
              built-beside = λ d e.
                  let new : values (answers (window changed place)) ≡ Chain-moves d =
                  sym b.same-moves ∙ ap moves_of (sym b.is-built ∙ (sym beside-new ∙ e)) in
                  record {
                    chain = a.chain;
                    is-built = changed-new ∙ a.is-built;
                    same-moves = a.same-moves ∙ (moves-changed ∙ ap (λ (l : List AnimatedTransform). sets (Chain-moves c) (place - 1) l) new);
                  };
            }

    -- d is what was built of the poses beside the place
    pub changed-built : (d e : Chain) → BuiltChain d → Chain-new_beside c place p ≡ built d
        → T (every Pose-is_binary32 poses) → Chain-changed c place p ≡ built e → BuiltChain e
    changed-built d e b f fits a =
        let same : b.poses ≡ window changed place =
        sym (built-poses b.rigid b.poses d b.accepted) ∙ (built-poses (Chain-is_rigid c) (Chain-beside c place p) d f ∙ beside_same) in
        record {
          rigid = rigid;
          poses = changed;
          poses-binary32 = every-window p Pose-is_binary32 poses place fits (rw (← same) b.poses-binary32);
          accepted = sym changed-new ∙ a;
        }
