-- The guarantee of a set, `chain-set-contains` and `move-set-contains`; that its finer covers are never wider ones, `chain-set-finer`; its numbers,
-- `chain-set-numbered` and `move-set-numbered`. A chain of one move has the move's own: `single-set`. What is known of each box's own cover is
-- known of the set: `set-contains`, `set-finer`; so of any built moves, whatever their times: `moves-set-contains`, `moves-set-finer`.
use Prim.Native.Nat.{ℕ, ◌+◌, ◌≤◌}
use mathlib.Core.Path.{◌≡◌, refl, sym, ap, subst, ◌∙◌}
use mathlib.Core.Bool.{not}
use mathlib.Core.List.{List, [], ◌∷◌, map}
use lib.Dec.{T}
use lib.Ieee.{Float, is_nan}
use Rattle.motion_chain.specs.formula.Promise.{Pairwise}
use Rattle.motion_chain.specs.bounds3.declared.Point3f.{Point3f}
use Rattle.motion_chain.specs.bounds3.declared.Bounds3f.{Bounds3f}
use Rattle.motion_chain.specs.bounds3.Inside.{Inside, Subset}
use Rattle.motion_chain.specs.transform.declared.BoundsAnswer.{BoundsAnswer}
use Rattle.motion_chain.specs.transform.declared.BoundsAnswer.TheVariants.{Bounds}
use Rattle.motion_chain.specs.transform.Answer.{PointAnswer, BoundsAnswer-refusal, BoundsAnswer-bounds}
use Rattle.motion_chain.specs.bounds_query.Query.{max_depth}
use Rattle.motion_chain.specs.animated_transform.declared.AnimatedTransform.{AnimatedTransform}
use Rattle.motion_chain.specs.animated_transform.Built.{Built}
use Rattle.motion_chain.specs.motion_point.TransformPoint.{AnimatedTransform-transform_point}
use Rattle.motion_chain.specs.motion_point.PadAt.{AnimatedTransform-pad_at}
use Rattle.motion_chain.specs.motion_cover.Cover.{AnimatedTransform-cover}
use Rattle.motion_chain.specs.motion_cover.Theorem.{MovedInside}
use Rattle.motion_chain.specs.motion_cover.Answer.{Proper}
use Rattle.motion_chain.proofs.motion_cover.Contains.{moved-wider, cover-contains}
use Rattle.motion_chain.proofs.motion_cover.NonZero.{BoundsAnswer-NonZero, nonzero-box, cover-nonzero}
use Rattle.motion_chain.proofs.motion_cover.Number.{cover-numbered}
use Rattle.motion_chain.proofs.motion_cover.Proper.{cover-proper}
use Rattle.motion_chain.specs.cover_depth.Finer.{Within}
use Rattle.motion_chain.proofs.cover_depth.Finer.{BoxWithin, within-subset}
use Rattle.motion_chain.specs.bounds_answers.UnionAll.{BoundsAnswer-union_all, Each}
use Rattle.motion_chain.proofs.bounds_answers.UnionAll.{each_map, union-all-within}
use Rattle.motion_chain.specs.Chain.{Chain, Chain-moves, Chain-transform_point, Chain-pad_at, Chain-cover}
use Rattle.motion_chain.specs.Built.{BuiltChain}
use Rattle.motion_chain.specs.TwoPoses.{Chain-single}
use Rattle.motion_chain.proofs.TwoPoses.{single-move}
use Rattle.motion_chain.proofs.Built.{built-moves}
use Rattle.motion_chain.proofs.Cover.{moves-proper, chain-cover-nonzero, moves-contain, moves-finer}
use Rattle.motion_chain.proofs.Numbers.{chain-cover-numbered}
use Rattle.box_set.specs.Set.{SetAnswer, covered, SetAnswer-refusal, SetAnswer-covers}
use Rattle.box_set.specs.Set.{SetAnswer-union, Boxes-covers, Chain-covers, AnimatedTransform-covers}
use Rattle.box_set.specs.Theorem.{SetContains, SetContainsMotion, MoveSetContainsMotion, SetWithin, SetFiner, SetAnswer-Numbered}
use Rattle.box_set.proofs.Set.{AcceptedSet, set-of-accepted, set-accepted, set-within, set-numbered}

-- ---- points
module _ (cover : Bounds3f → BoundsAnswer) (nonzero : (b : Bounds3f) → BoundsAnswer-NonZero (cover b)) (proper : (b : Bounds3f) → Proper (cover b))
    (pad : Float) (moved : Point3f → PointAnswer)
    (contains : (b : Bounds3f) → BoundsAnswer-refusal (cover b) ≡ 0 → (p : Point3f)
    → Inside b p → MovedInside (BoundsAnswer-bounds (cover b)) pad (moved p)) where
  each-contains : (u : Bounds3f) (boxes : List Bounds3f) → Each (λ b. BoxWithin (cover b) u) boxes
      → SetContains pad moved boxes (map (λ b. BoundsAnswer-bounds (cover b)) boxes) u
  each-contains u [] h = tt
  each-contains u (b ∷ boxes) (w, ws) = (one, each-contains u boxes ws)
    where
      one : (p : Point3f) → Inside b p → MovedInside (BoundsAnswer-bounds (cover b)) pad (moved p) × MovedInside u pad (moved p)
      one p i =
          let a = contains b (ap BoundsAnswer-refusal w.accepted) p i in
          (a, moved-wider w.subset (subst (λ (x : Bounds3f). MovedInside x pad (moved p)) (ap BoundsAnswer-bounds w.accepted) a))

  pub set-contains : (boxes : List Bounds3f) → SetAnswer-refusal (Boxes-covers cover boxes) ≡ 0
      → SetContains pad moved boxes (SetAnswer-covers (Boxes-covers cover boxes)) (SetAnswer-union (Boxes-covers cover boxes))
  set-contains boxes e =
      let a = set-accepted cover nonzero boxes e in
      subst (λ (s : SetAnswer). SetContains pad moved boxes (SetAnswer-covers s) (SetAnswer-union s)) (sym (set-of-accepted cover a))
      (each-contains a.union boxes (set-within cover proper a))

pub moves-set-contains : (c : Chain) (boxes : List Bounds3f) (d : ℕ) (time : Float)
    → Each Built (Chain-moves c) → SetAnswer-refusal (Chain-covers c boxes d) ≡ 0 → T (not (is_nan time))
    → SetContains (Chain-pad_at c time) (Chain-transform_point c time) boxes
    (SetAnswer-covers (Chain-covers c boxes d)) (SetAnswer-union (Chain-covers c boxes d))
moves-set-contains c boxes d time built e n =
    set-contains (λ b. Chain-cover c b d) (λ b. chain-cover-nonzero b d c) (λ b. moves-proper b d c built) (Chain-pad_at c time) (Chain-transform_point c time)
    (λ b z p i. moves-contain c b d time p built z n i) boxes e

pub chain-set-contains : (c : Chain) (boxes : List Bounds3f) (d : ℕ) → SetContainsMotion c boxes (Chain-covers c boxes d)
chain-set-contains c boxes d time built e n = moves-set-contains c boxes d time (built-moves built).each e n

pub move-set-contains : (m : AnimatedTransform) (boxes : List Bounds3f) (d : ℕ) → MoveSetContainsMotion m boxes (AnimatedTransform-covers m boxes d)
move-set-contains m boxes d time built e n =
    set-contains (λ b. AnimatedTransform-cover m b d) (λ b. cover-nonzero m b d) (λ b. cover-proper built b d)
    (AnimatedTransform-pad_at m time) (AnimatedTransform-transform_point m time)
    (λ b z p i. cover-contains m b d time p built z n i) boxes e

-- The set of a chain of one move is the move's own.
pub single-set : (m : AnimatedTransform) (boxes : List Bounds3f) (d : ℕ) → Chain-covers (Chain-single m) boxes d ≡ AnimatedTransform-covers m boxes d
single-set m boxes d =
    let chained : Bounds3f → BoundsAnswer = λ b. Chain-cover (Chain-single m) b d in
    let own : Bounds3f → BoundsAnswer = λ b. AnimatedTransform-cover m b d in
    let same : chained ≡ own = λ i b. (single-move m).cover b d i in
    ap (λ (f : Bounds3f → BoundsAnswer). Boxes-covers f boxes) same

-- ---- greater depths
module _ (fine coarse : Bounds3f → BoundsAnswer)
    (fine-nonzero : (b : Bounds3f) → BoundsAnswer-NonZero (fine b)) (nonzero : (b : Bounds3f) → BoundsAnswer-NonZero (coarse b))
    (proper : (b : Bounds3f) → Proper (coarse b))
    (finer : (b : Bounds3f) → BoundsAnswer-refusal (coarse b) ≡ 0 → Within (fine b) (BoundsAnswer-bounds (coarse b))) where
  -- A box that lies in the union, at the greater depth.
  box-finer : {u b : Bounds3f} → BoxWithin (coarse b) u → BoxWithin (fine b) u
  box-finer {u} {b} w =
      let f = finer b (ap BoundsAnswer-refusal w.accepted) in
      let fine_box = BoundsAnswer-bounds (fine b) in
      let in_coarse = subst (Subset fine_box) (ap BoundsAnswer-bounds w.accepted) f.subset in
      within-subset {r = fine b} (record { box = fine_box; accepted = nonzero-box (fine b) (fine-nonzero b) f.accepted; subset = in_coarse }) w.subset

  each-finer : (u : Bounds3f) (boxes : List Bounds3f) → Each (λ b. BoxWithin (coarse b) u) boxes → Each (λ b. BoxWithin (fine b) u) boxes
  each-finer u [] h = tt
  each-finer u (b ∷ boxes) (w, ws) = (box-finer {b = b} w, each-finer u boxes ws)

  each-subset : (u : Bounds3f) (boxes : List Bounds3f) → Each (λ b. BoxWithin (coarse b) u) boxes
      → Pairwise Subset (map (λ b. BoundsAnswer-bounds (fine b)) boxes) (map (λ b. BoundsAnswer-bounds (coarse b)) boxes)
  each-subset u [] h = tt
  each-subset u (b ∷ boxes) (w, ws) = ((finer b (ap BoundsAnswer-refusal w.accepted)).subset, each-subset u boxes ws)

  pub set-finer : (boxes : List Bounds3f) → SetAnswer-refusal (Boxes-covers coarse boxes) ≡ 0 → SetWithin (Boxes-covers fine boxes) (Boxes-covers coarse boxes)
  set-finer boxes e =
      let a = set-accepted coarse nonzero boxes e in
      let w = set-within coarse proper a in
      let (v, vs) = subst (Each (λ b. BoxWithin (fine b) a.union)) a.nonempty (each-finer a.union boxes w) in
      let rest = each_map (λ s. BoxWithin s a.union) fine (λ b (x : BoxWithin (fine b) a.union). x) a.rest vs in
      let u = union-all-within a.union (fine a.first) (map fine a.rest) v rest in
      let f : AcceptedSet fine boxes =
      record { count = a.count; first = a.first; rest = a.rest; nonempty = a.nonempty; union = u.box; joined = u.accepted } in
      rw (set-of-accepted fine f, set-of-accepted coarse a) (record { accepted = refl; each = each-subset a.union boxes w; union = u.subset })

pub moves-set-finer : (c : Chain) (boxes : List Bounds3f) (d n : ℕ)
    → Each Built (Chain-moves c) → d + n ≤ max_depth → SetAnswer-refusal (Chain-covers c boxes d) ≡ 0
    → SetWithin (Chain-covers c boxes (d + n)) (Chain-covers c boxes d)
moves-set-finer c boxes d n built l e =
    set-finer (λ b. Chain-cover c b (d + n)) (λ b. Chain-cover c b d) (λ b. chain-cover-nonzero b (d + n) c) (λ b. chain-cover-nonzero b d c)
    (λ b. moves-proper b d c built) (λ b z. moves-finer c b d n built l z) boxes e

pub chain-set-finer : (c : Chain) (boxes : List Bounds3f) → SetFiner c boxes
chain-set-finer c boxes d n built l e = moves-set-finer c boxes d n (built-moves built).each l e

-- ---- the numbers
abbrev cover_numbers : List ℕ
cover_numbers = 0 ∷ 5 ∷ 6 ∷ 7 ∷ 8 ∷ 10 ∷ []

pub chain-set-numbered : (c : Chain) (boxes : List Bounds3f) (d : ℕ) → SetAnswer-Numbered (0 ∷ 5 ∷ 6 ∷ 7 ∷ 8 ∷ 10 ∷ 14 ∷ []) (Chain-covers c boxes d)
chain-set-numbered c boxes d = set-numbered (λ b. Chain-cover c b d) cover_numbers (λ b. chain-cover-numbered c b d) boxes

pub move-set-numbered : (m : AnimatedTransform) (boxes : List Bounds3f) (d : ℕ)
    → SetAnswer-Numbered (0 ∷ 5 ∷ 6 ∷ 7 ∷ 8 ∷ 10 ∷ 14 ∷ []) (AnimatedTransform-covers m boxes d)
move-set-numbered m boxes d = set-numbered (λ b. AnimatedTransform-cover m b d) cover_numbers (λ b. cover-numbered m b d) boxes
