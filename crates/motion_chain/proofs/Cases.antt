-- Chains built and asked by computing: the identity at 0, the identity with m03 = 1 at 1, the identity at 2. Its inner time belongs
-- to the earlier move, and it meets the guarantee's hypotheses (`hypotheses-met`), as a rigid chain does (`rigid-hypotheses-met`). Lists of times asked of it,
-- answered and refused.
-- The counts, the times and the order of the checks: 12 after 1 and before 3, and 3 before anything is worked.
use Rattle.std.specs.Prelude.{Ok, Err}
use Prim.Native.Nat.{ℕ, zero, suc, ◌*◌, ◌^◌}
use mathlib.Core.Path.{◌≡◌, refl, subst}
use mathlib.Core.Bool.{true, false}
use mathlib.Core.List.{List, [], ◌∷◌}
use lib.Ieee.{Float, nan, inf, binary32, round, fits}
use Rattle.bounds_answers.specs.rounding.Order.{◌≼◌}
use Rattle.bounds_answers.specs.matrix4x4.declared.Matrix4x4.{Matrix4x4}
use Rattle.bounds_answers.specs.bounds3.declared.Point3f.{Point3f}
use Rattle.bounds_answers.specs.bounds3.declared.Bounds3f.{Bounds3f}
use Rattle.bounds_answers.specs.transform.Answer.{BoundsAnswer-refusal, BoundsAnswer-bounds}
use Rattle.bounds_answers.specs.pose_pair.declared.Pose.{Pose}
use Rattle.bounds_answers.specs.animated_transform.declared.AnimatedTransform.{AnimatedTransform}
use Rattle.bounds_answers.specs.animated_transform.New.{AnimatedTransform-new}
use Rattle.bounds_answers.specs.motion_cover.Theorem.{MovedInside}
use Rattle.motion_chain.specs.Chain.{chain_refusal, Chain, built, refused, Chain-new, Chain-transform_point, Chain-pad_at, Chain-cover}
use Rattle.motion_chain.specs.Built.{BuiltChain}
use Rattle.motion_chain.specs.MoveAt.{index_from, Chain-index_at}
use Rattle.motion_chain.specs.Times as times
use Rattle.motion_chain.specs.Times.{Chain-transform_points, Chain-points_left}
use Rattle.motion_chain.specs.Stretches.{Chain-stretches}
use Rattle.motion_chain.specs.means.Computing.{computing}
use Rattle.motion_chain.proofs.Cover.{chain-contains}

-- ---- floats, poses, a box

-- The float nearest to n / d, and to −n / d.
abbrev fraction : ℕ → ℕ → Float
fraction n d = round binary32 false n d

abbrev negative : ℕ → ℕ → Float
negative n d = round binary32 true n d

abbrev o : Float
o = fraction 0 1

abbrev one : Float
one = fraction 1 1

abbrev far : Float
far = fraction (3 * 10 ^ 38) 1

-- The diagonal d, d, d, 1 with m03 = x.
abbrev pose : Float → Float → Float → Pose
pose time d x =
    let m : Matrix4x4 = record { r0 = d ∷ o ∷ o ∷ x ∷ []; r1 = o ∷ d ∷ o ∷ o ∷ []; r2 = o ∷ o ∷ d ∷ o ∷ []; r3 = o ∷ o ∷ o ∷ one ∷ [] } in
    record { time = time; m = m; pad = o }

abbrev identity_at : Float → Pose
identity_at time = pose time one o

abbrev shifted_at : Float → Pose
shifted_at time = pose time one one

abbrev on_x : Float → Point3f
on_x x = record { x = x; y = o; z = o }

abbrev segment : Float → Float → Bounds3f
segment x y = record { p_min = on_x x; p_max = on_x y }

-- ---- there and back
abbrev poses : List Pose
poses = identity_at o ∷ shifted_at one ∷ identity_at (fraction 2 1) ∷ []

abbrev there : AnimatedTransform
there = (AnimatedTransform-new false (identity_at o) (shifted_at one)).value

abbrev back : AnimatedTransform
back = (AnimatedTransform-new false (shifted_at one) (identity_at (fraction 2 1))).value

abbrev chain : Chain
chain = record { first = there; rest = back ∷ [] }

chain-built : Chain-new false poses ≡ built chain
unfolding computing
chain-built = refl

inner-time-earlier-move : Chain-index_at chain one ≡ 0
unfolding computing index_from
inner-time-earlier-move = refl

after-inner-time-later-move : Chain-index_at chain (fraction 3 2) ≡ 1
unfolding computing index_from
after-inner-time-later-move = refl

before-first-pose-first-move : Chain-index_at chain (inf true) ≡ 0
unfolding computing index_from
before-first-pose-first-move = refl

after-last-pose-last-move : Chain-index_at chain (inf false) ≡ 1
unfolding computing index_from
after-last-pose-last-move = refl

point-at-inner-time : Chain-transform_point chain one (on_x o) ≡ Ok (on_x one)
unfolding computing
point-at-inner-time = refl

point-on-the-way-back : Chain-transform_point chain (fraction 3 2) (on_x o) ≡ Ok (on_x (fraction 1 2))
unfolding computing
point-on-the-way-back = refl

nan-time-refused : Chain-transform_point chain nan (on_x o) ≡ Err 6
unfolding computing
nan-time-refused = refl

-- ---- the guarantee's hypotheses can be met
pub record HypothesesMet : Type 0 where
  pub built : BuiltChain chain
  pub accepted : BoundsAnswer-refusal (Chain-cover chain (segment o o) 1) ≡ 0
  pub box : BoundsAnswer-bounds (Chain-cover chain (segment o o) 1) ≡ segment o one

pub hypotheses-met : HypothesesMet
unfolding fits computing
hypotheses-met = record { built = record { rigid = false; poses = poses; poses-binary32 = tt; accepted = refl }; accepted = refl; box = refl }

zero-refl : o ≼ o
unfolding computing
zero-refl = record { holds = tt }

pub way-back-covered : MovedInside (segment o one) (Chain-pad_at chain (fraction 3 2)) (Chain-transform_point chain (fraction 3 2) (on_x o))
unfolding computing
way-back-covered =
    subst (λ (box : Bounds3f). MovedInside box (Chain-pad_at chain (fraction 3 2)) (Chain-transform_point chain (fraction 3 2) (on_x o))) hypotheses-met.box
    (chain-contains chain (segment o o) 1 (fraction 3 2) (on_x o) hypotheses-met.built hypotheses-met.accepted tt
    (record { x = (zero-refl, zero-refl); y = (zero-refl, zero-refl); z = (zero-refl, zero-refl) }))

-- ---- lists of times
abbrev on_the_way : List Float
on_the_way = inf true ∷ one ∷ one ∷ fraction 3 2 ∷ []

abbrev nine_places : List Float
nine_places = o ∷ o ∷ o ∷ o ∷ o ∷ o ∷ o ∷ o ∷ o ∷ []

-- The inner time, asked twice, ends the first move's stretch.
list-in-two-stretches : Chain-stretches chain on_the_way ≡ (inf true ∷ one ∷ one ∷ []) ∷ (fraction 3 2 ∷ []) ∷ []
unfolding computing
list-in-two-stretches = refl

list-answered : Chain-transform_points chain on_the_way (on_x o) 12 ≡ times.moved (on_x o ∷ on_x one ∷ on_x one ∷ on_x (fraction 1 2) ∷ [])
unfolding computing
list-answered = refl

list_left : Chain-points_left chain (one ∷ fraction 3 2 ∷ []) (on_x o) (nan ∷ nan ∷ nan ∷ nan ∷ nan ∷ nan ∷ []) ≡ one ∷ o ∷ o ∷ fraction 1 2 ∷ o ∷ o ∷ []
unfolding computing
list_left = refl

empty-list-answered : Chain-transform_points chain [] (on_x o) 0 ≡ times.moved []
unfolding computing
empty-list-answered = refl

-- 6 is judged before 13, of every time and of the point, also where there is no time.
nan-in-falling-list-refused : Chain-transform_points chain (one ∷ o ∷ nan ∷ []) (on_x o) 0 ≡ times.refused 6
unfolding computing
nan-in-falling-list-refused = refl

point-of-empty-list-refused : Chain-transform_points chain [] (on_x nan) 0 ≡ times.refused 6
unfolding computing
point-of-empty-list-refused = refl

falling-list-refused : Chain-points_left chain (o ∷ fraction 3 2 ∷ one ∷ []) (on_x o) nine_places ≡ nine_places
unfolding computing
falling-list-refused = refl

place-too-many-refused : Chain-transform_points chain (o ∷ one ∷ []) (on_x o) 7 ≡ times.refused 13
unfolding computing
place-too-many-refused = refl

places-for-empty-list-refused : Chain-transform_points chain [] (on_x o) 3 ≡ times.refused 13
unfolding computing
places-for-empty-list-refused = refl

-- A chain that doubles: the first time is answered, the second is 5, and that stands for the list.
abbrev doubling : Chain
doubling = record { first = (AnimatedTransform-new false (identity_at o) (pose one (fraction 2 1) o)).value; rest = [] }

second-time-refused : Chain-transform_points doubling (o ∷ one ∷ fraction 2 1 ∷ []) (on_x far) 9 ≡ times.refused 5
unfolding computing
second-time-refused = refl

second-time-leaves-all : Chain-points_left doubling (o ∷ one ∷ fraction 2 1 ∷ []) (on_x far) nine_places ≡ nine_places
unfolding computing
second-time-leaves-all = refl

-- -0 after +0 does not fall.
zeros-do-not-fall : Chain-transform_points chain (o ∷ negative 0 1 ∷ []) (on_x o) 6 ≡ times.moved (on_x o ∷ on_x o ∷ [])
unfolding computing
zeros-do-not-fall = refl

-- ---- counts

-- n poses at the times 0 to n − 1, in front of some.
abbrev rising : ℕ → List Pose → List Pose
rising zero later = later
rising (suc n) later = rising n (identity_at (fraction n 1) ∷ later)

no-pose-refused : Chain-new false [] ≡ refused 12
unfolding computing
no-pose-refused = refl

one-pose-refused : Chain-new false (identity_at o ∷ []) ≡ refused 12
unfolding computing
one-pose-refused = refl

checks-of-32-poses-passed : chain_refusal false (rising 32 []) ≡ 0
unfolding computing
checks-of-32-poses-passed = refl

poses-33-refused : Chain-new false (rising 33 []) ≡ refused 12
unfolding computing
poses-33-refused = refl

-- ---- times
equal-times-refused : Chain-new false (identity_at o ∷ shifted_at o ∷ []) ≡ refused 12
unfolding computing
equal-times-refused = refl

inner-time-falling-refused : Chain-new false (identity_at o ∷ shifted_at (fraction 2 1) ∷ identity_at one ∷ []) ≡ refused 12
unfolding computing
inner-time-falling-refused = refl

-- 1 is judged before the count, and 12 before 3: the first pair's times fall, and the second's difference isn't finite.
nan-time-of-one-pose-refused : Chain-new false (identity_at nan ∷ []) ≡ refused 1
unfolding computing
nan-time-of-one-pose-refused = refl

abbrev far_below : Float
far_below = negative (3 * 10 ^ 38) 1

falling-before-infinite-duration : Chain-new false (identity_at o ∷ shifted_at far_below ∷ identity_at far ∷ []) ≡ refused 12
unfolding computing
falling-before-infinite-duration = refl

-- A linear part of zeros in the first pair is 4 once it is worked, and the second pair's 3 is met before that.
infinite-duration-before-work : Chain-new false (pose (negative (32 * 10 ^ 37) 1) o o ∷ identity_at far_below ∷ identity_at far ∷ []) ≡ refused 3
unfolding computing
infinite-duration-before-work = refl

first-pair-that-fails : Chain-new false (identity_at o ∷ pose one o o ∷ identity_at (fraction 2 1) ∷ []) ≡ refused 4
unfolding computing
first-pair-that-fails = refl

-- ---- a rigid chain
rigid-chain-built : Chain-new true poses
    ≡ built (record {
      first = (AnimatedTransform-new true (identity_at o) (shifted_at one)).value;
      rest = (AnimatedTransform-new true (shifted_at one) (identity_at (fraction 2 1))).value ∷ [];
    })
unfolding computing
rigid-chain-built = refl

scaling-refused : Chain-new true (identity_at o ∷ pose one (fraction 2 1) o ∷ []) ≡ refused 17
unfolding computing
scaling-refused = refl

mirroring-refused : Chain-new true (identity_at o ∷ pose one (negative 1 1) o ∷ []) ≡ refused 18
unfolding computing
mirroring-refused = refl

-- Pose by pose: the first pose's 18 is met before the second's 17; and both after 3.
mirroring-pose-first : Chain-new true (pose o (negative 1 1) o ∷ pose one (fraction 2 1) o ∷ []) ≡ refused 18
unfolding computing
mirroring-pose-first = refl

infinite-duration-before-scaling : Chain-new true (identity_at far_below ∷ pose far (fraction 2 1) o ∷ []) ≡ refused 3
unfolding computing
infinite-duration-before-scaling = refl

-- ---- the guarantee's hypotheses can be met by a rigid chain: there and back again, with a slight scale, which 17 leaves, at the inner pose
abbrev slight_pose : Pose
slight_pose = pose one (fraction 4097 4096) one

abbrev slight_poses : List Pose
slight_poses = identity_at o ∷ slight_pose ∷ identity_at (fraction 2 1) ∷ []

abbrev rigid_chain : Chain
rigid_chain =
    record {
      first = (AnimatedTransform-new true (identity_at o) slight_pose).value;
      rest = (AnimatedTransform-new true slight_pose (identity_at (fraction 2 1))).value ∷ [];
    }

-- Of the point (1, 0, 0): between the poses nothing scales, so that x goes from 1 to 2, and at its own time the inner pose scales. The plain chain's cover is
-- x from 0.5 to 2.5 and more.
abbrev rigid_cover : Bounds3f
rigid_cover = segment one (fraction 8193 4096)

pub record RigidHypothesesMet : Type 0 where
  pub built : BuiltChain rigid_chain
  pub kind : built.rigid ≡ true
  pub accepted : BoundsAnswer-refusal (Chain-cover rigid_chain (segment one one) 1) ≡ 0
  pub box : BoundsAnswer-bounds (Chain-cover rigid_chain (segment one one) 1) ≡ rigid_cover

pub rigid-hypotheses-met : RigidHypothesesMet
unfolding fits computing
rigid-hypotheses-met =
    record { built = record { rigid = true; poses = slight_poses; poses-binary32 = tt; accepted = refl }; kind = refl; accepted = refl; box = refl }

one-refl : one ≼ one
unfolding computing
one-refl = record { holds = tt }

pub rigid-way-covered : MovedInside rigid_cover (Chain-pad_at rigid_chain (fraction 1 2)) (Chain-transform_point rigid_chain (fraction 1 2) (on_x one))
unfolding computing
rigid-way-covered =
    subst (λ (box : Bounds3f). MovedInside box (Chain-pad_at rigid_chain (fraction 1 2)) (Chain-transform_point rigid_chain (fraction 1 2) (on_x one)))
    rigid-hypotheses-met.box
    (chain-contains rigid_chain (segment one one) 1 (fraction 1 2) (on_x one) rigid-hypotheses-met.built rigid-hypotheses-met.accepted tt
    (record { x = (one-refl, one-refl); y = (zero-refl, zero-refl); z = (zero-refl, zero-refl) }))

-- the point on its way, unscaled; at the inner pose's own time, scaled
rigid-point-unscaled : Chain-transform_point rigid_chain (fraction 1 2) (on_x one) ≡ Ok (on_x (fraction 3 2))
unfolding computing
rigid-point-unscaled = refl

rigid-pose-as-set : Chain-transform_point rigid_chain one (on_x one) ≡ Ok (on_x (fraction 8193 4096))
unfolding computing
rigid-pose-as-set = refl
