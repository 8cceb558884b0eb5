-- The guarantee for a chain, `chain-contains`, and that its finer cover is never a wider one, `chain-cover-finer`. Each
-- move's cover lies in the accepted cover of the chain (`moves-within`), a time belongs to one of the moves (`each-move-at`),
-- and of each move both are known. So both hold of any built moves, whatever their times, also of one built by itself:
-- `moves-contain`, `moves-finer`.
use Prim.Native.Nat.{ℕ, ◌+◌, ◌≤◌}
use mathlib.Core.Path.{◌≡◌, ap, subst}
use mathlib.Core.Bool.{Bool, true, false, not, cond}
use mathlib.Core.List.{List, [], ◌∷◌, map}
use lib.Dec.{T}
use lib.Ieee.{Float, is_nan, le}
use Rattle.bounds_answers.specs.bounds3.declared.Point3f.{Point3f}
use Rattle.bounds_answers.specs.bounds3.declared.Bounds3f.{Bounds3f}
use Rattle.bounds_answers.specs.bounds3.Inside.{Inside}
use Rattle.bounds_answers.specs.transform.declared.BoundsAnswer.{BoundsAnswer}
use Rattle.bounds_answers.specs.transform.declared.BoundsAnswer.TheVariants.{Bounds}
use Rattle.bounds_answers.specs.transform.Answer.{BoundsAnswer-refusal, BoundsAnswer-bounds}
use Rattle.bounds_answers.specs.animated_transform.declared.AnimatedTransform.{AnimatedTransform}
use Rattle.bounds_answers.specs.animated_transform.Built.{Built}
use Rattle.bounds_answers.specs.motion_point.TransformPoint.{AnimatedTransform-transform_point}
use Rattle.bounds_answers.specs.bounds_query.Query.{max_depth}
use Rattle.bounds_answers.specs.motion_point.PadAt.{AnimatedTransform-pad_at}
use Rattle.bounds_answers.specs.motion_cover.Cover.{AnimatedTransform-cover}
use Rattle.bounds_answers.specs.motion_cover.Theorem.{MovedInside}
use Rattle.bounds_answers.specs.motion_cover.Answer.{Proper}
use Rattle.bounds_answers.proofs.motion_cover.Contains.{moved-wider, cover-contains}
use Rattle.bounds_answers.proofs.motion_cover.NonZero.{BoundsAnswer-NonZero, nonzero-box, cover-nonzero}
use Rattle.bounds_answers.proofs.motion_cover.Proper.{cover-proper}
use Rattle.bounds_answers.specs.cover_depth.Finer.{Within}
use Rattle.bounds_answers.proofs.cover_depth.Finer.{BoxWithin, box-within, within-subset, cover-box-finer}
use Rattle.bounds_answers.proofs.UnionAll.{each_map, each-unmap, each_of, union-all-proper, union-all-nonzero, union-all-within, union-all-parts}
use Rattle.motion_chain.specs.Chain.{Chain, Chain-moves, move_from, Chain-move_at, Chain-transform_point, Chain-pad_at, union_covers, Chain-cover}
use Rattle.motion_chain.specs.Built.{BuiltChain, Each}
use Rattle.motion_chain.specs.Theorem.{ChainContainsMotion, ChainCoverFiner}
use Rattle.motion_chain.proofs.Built.{built-moves}

-- ---- the move of a time is one of the chain's
module _ (P : AnimatedTransform → Type 0) (time : Float) where
  each-move-from : (m : AnimatedTransform) (moves : List AnimatedTransform) → Each P (m ∷ moves) → P (move_from m moves time)
  unfolding move_from
  each-move-from m [] (h, _) = h
  each-move-from m (next ∷ moves) (h, hs) = go (le time m.end_time) (each-move-from next moves hs)
    where
      go : (b : Bool) → P (move_from next moves time) → P (cond b m (move_from next moves time))
      go true k = h
      go false k = k

  pub each-move-at : (c : Chain) → Each P (Chain-moves c) → P (Chain-move_at c time)
  unfolding Chain-move_at
  each-move-at c h = each-move-from c.first c.rest h

-- ---- the covers of the moves, in an accepted union of them
module _ (b : Bounds3f) (d : ℕ) where
  abbrev cover_of : AnimatedTransform → BoundsAnswer
  cover_of m = AnimatedTransform-cover m b d

  covers-proper : (moves : List AnimatedTransform) → Each Built moves → Each Proper (map cover_of moves)
  covers-proper = each_map Proper cover_of (λ (m : AnimatedTransform) (h : Built m). cover-proper h b d)

  pub moves-proper : (c : Chain) → Each Built (Chain-moves c) → Proper (Chain-cover c b d)
  unfolding Chain-cover union_covers
  moves-proper c (h, hs) = union-all-proper (cover_of c.first) (map cover_of c.rest) (cover-proper h b d) (covers-proper c.rest hs)

  pub chain-cover-proper : {c : Chain} → BuiltChain c → Proper (Chain-cover c b d)
  chain-cover-proper {c} built = moves-proper c (built-moves built).each

  moves-within : (c : Chain) → Each Built (Chain-moves c) → (box : Bounds3f) → Chain-cover c b d ≡ Bounds box
      → Each (λ m. BoxWithin (AnimatedTransform-cover m b d) box) (Chain-moves c)
  unfolding Chain-cover union_covers
  moves-within c (h, hs) box e =
      let (w, ws) = union-all-parts (cover_of c.first) (map cover_of c.rest) box (cover-proper h b d) (covers-proper c.rest hs) e in
      (w, each-unmap (λ s. BoxWithin s box) cover_of c.rest ws)

-- ---- a chain's cover whose number is 0 is a box
module _ (b : Bounds3f) (d : ℕ) where
  pub chain-cover-nonzero : (c : Chain) → BoundsAnswer-NonZero (Chain-cover c b d)
  unfolding Chain-cover union_covers
  chain-cover-nonzero c =
      union-all-nonzero (cover_of b d c.first) (map (cover_of b d) c.rest) (cover-nonzero c.first b d)
      (each_map {P = λ (m : AnimatedTransform). Unit {0}} BoundsAnswer-NonZero (cover_of b d)
      (λ m _. cover-nonzero m b d) c.rest (each_of (λ m. tt) c.rest))

  pub chain-cover-answered : (c : Chain) → BoundsAnswer-refusal (Chain-cover c b d) ≡ 0 → Chain-cover c b d ≡ Bounds (BoundsAnswer-bounds (Chain-cover c b d))
  chain-cover-answered c = nonzero-box (Chain-cover c b d) (chain-cover-nonzero c)

-- ---- the guarantee
pub moves-contain : (c : Chain) (b : Bounds3f) (d : ℕ) (time : Float) (p : Point3f)
    → Each Built (Chain-moves c) → BoundsAnswer-refusal (Chain-cover c b d) ≡ 0 → T (not (is_nan time)) → Inside b p
    → MovedInside (BoundsAnswer-bounds (Chain-cover c b d)) (Chain-pad_at c time) (Chain-transform_point c time p)
unfolding Chain-transform_point Chain-pad_at
moves-contain c b d time p built e n i =
    let m = Chain-move_at c time in
    let box = BoundsAnswer-bounds (Chain-cover c b d) in
    let w = each-move-at (λ (x : AnimatedTransform). BoxWithin (AnimatedTransform-cover x b d) box) time c
    (moves-within b d c built box (chain-cover-answered b d c e)) in
    let a = cover-contains m b d time p (each-move-at Built time c built) (ap BoundsAnswer-refusal w.accepted) n i in
    moved-wider w.subset
    (subst (λ (x : Bounds3f). MovedInside x (AnimatedTransform-pad_at m time) (AnimatedTransform-transform_point m time p))
    (ap BoundsAnswer-bounds w.accepted) a)

pub chain-contains : (c : Chain) (b : Bounds3f) (d : ℕ) → ChainContainsMotion c b (Chain-cover c b d)
chain-contains c b d time p built e n i = moves-contain c b d time p (built-moves built).each e n i

-- ---- greater depths
pub moves-finer : (c : Chain) (b : Bounds3f) (d n : ℕ)
    → Each Built (Chain-moves c) → d + n ≤ max_depth → BoundsAnswer-refusal (Chain-cover c b d) ≡ 0
    → Within (Chain-cover c b (d + n)) (BoundsAnswer-bounds (Chain-cover c b d))
moves-finer c b d n built l e = box-within (go (finer (Chain-moves c) built (moves-within b d c built box (chain-cover-answered b d c e))))
  where
    box : Bounds3f
    box = BoundsAnswer-bounds (Chain-cover c b d)

    finer : (moves : List AnimatedTransform) → Each Built moves → Each (λ m. BoxWithin (AnimatedTransform-cover m b d) box) moves
        → Each (λ m. BoxWithin (AnimatedTransform-cover m b (d + n)) box) moves
    finer [] h w = tt
    finer (m ∷ moves) (h, hs) (w, ws) = (within-subset (cover-box-finer h b d n w.box l w.accepted) w.subset, finer moves hs ws)

    go : Each (λ m. BoxWithin (AnimatedTransform-cover m b (d + n)) box) (Chain-moves c) → BoxWithin (Chain-cover c b (d + n)) box
    go (w, ws) =
        unfold Chain-cover union_covers in union-all-within box (cover_of b (d + n) c.first) (map (cover_of b (d + n)) c.rest) w
        (each_map (λ s. BoxWithin s box) (cover_of b (d + n)) (λ m (v : BoxWithin (AnimatedTransform-cover m b (d + n)) box). v) c.rest ws)

pub chain-cover-finer : (c : Chain) (b : Bounds3f) → ChainCoverFiner c b
chain-cover-finer c b d n built l e = moves-finer c b d n (built-moves built).each l e
