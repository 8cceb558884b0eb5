-- The boxes of a window are those of its poses: `boxes-poses`. The pieces one by one: `piece-place`, and as code halves an interval, `halving-first`,
-- `halving-lower`, `halving-upper`, `halving-last`. A pass over the moves: `pass-first`, `pass-next`, `pass-last`.
use Prim.Native.Nat.{ℕ, zero, suc, ◌+◌, ◌-◌, ◌*◌, ◌^◌, ◌≤◌, ◌<◌}
use mathlib.Core.Path.{◌≡◌, refl, sym, ap, subst, ◌∙◌}
use mathlib.Core.Bool.{Bool, true, false, cond}
use mathlib.Core.List.{List, [], ◌∷◌, ◌++◌, map, map-append, append_assoc, append-nil}
use native.Mathlib.Nat.{pow-suc}
use native.Mathlib.Omega.{arith}
use native.Mathlib.Numerals.{add-one}
use borrow.Author.Tests.{ltb-true, ltb-false, lt-ltb, le-ltb, ne_eqb}
use lib.Dec.{eqb, ltb}
use lib.ListN.{length, get_or, take, drop, length-append, length-map, get_or-append, get_or-map, drop_of_length-le}
use lib.Seq.{get_or-append-add, take-suc, take_all, drop-cons}
use lib.Ieee.{Float}
use Rattle.transform.specs.matrix4x4.Rows.{Rows}
use Rattle.float32.specs.MinMax.{max_num}
use Rattle.transform.specs.bounds3.declared.Bounds3f.{Bounds3f}
use Rattle.transform.specs.declared.Transform.{Transform}
use Rattle.transform.specs.declared.BoundsAnswer.{BoundsAnswer}
use Rattle.interval.specs.declared.Interval.{Interval}
use Rattle.animated_transform.specs.declared.AnimatedTransform.{AnimatedTransform}
use Rattle.motion_point.specs.TransformPoint.{AnimatedTransform-constants}
use Rattle.motion_piece.specs.motion_cover.Cover.{AnimatedTransform-enclose_bounds, Transform-enclose_padded}
use Rattle.motion_piece.specs.means.Piece.{PaddedPose}
use Rattle.motion_piece.specs.means.Piece.{PaddedPose-enclose_bounds, PaddedPose-stored}
use Rattle.motion_piece.proofs.Piece.{piece-composition, stored-composition}
use Rattle.reach_laws.specs.motion_chain.Chain.{Chain, Chain-moves}
use Rattle.dt_share.specs.Share.{lower_half, upper_half, pieces}
use Rattle.window_times.specs.declared.Window.{Window}
use Rattle.window_times.specs.Window.{Window-asks_first, Window-asks_end}
use Rattle.reach_laws.specs.chain_window.Cover.{moves_in, share_in, stays_in, slice_boxes, first_pose_boxes, end_pose_boxes, equal_pose_boxes, boxes_from, window_boxes, is_nil}
use Rattle.motion_rows.specs.Rows.{AnimatedTransform-from_rows}
use Rattle.window_cover.specs.chain_rows.Kept.{Moves-chain}
use Rattle.window_cover.proofs.Union.{last-at, moves-all}
use Rattle.reach_window.specs.means.Poses.{piece_at, pose_over, piece_poses, slice_poses, stored_poses, stage_poses, poses_from, window_poses}

-- ---- poses and boxes
module _ (b : Bounds3f) where
  abbrev box : PaddedPose → BoundsAnswer
  box p = PaddedPose-enclose_bounds p b

  pieces-boxes : (m : AnimatedTransform) (dts : List Interval)
      → map box (map (pose_over m) dts) ≡ map (λ dt. AnimatedTransform-enclose_bounds m (AnimatedTransform-constants m) dt b) dts
  pieces-boxes m [] = refl
  pieces-boxes m (dt ∷ dts) = rw (← piece-composition m (AnimatedTransform-constants m) dt b) (ap (λ (l : List BoundsAnswer). AnimatedTransform-enclose_bounds m (AnimatedTransform-constants m) dt b ∷ l) (pieces-boxes m dts))

  slices-boxes : (d : ℕ) (w : Window) (m : AnimatedTransform) → map box (slice_poses d w m) ≡ slice_boxes b d w m
  unfolding slice_poses slice_boxes
  slices-boxes d w m = go (moves_in w m)
    where
      go : (t : Bool) → map box (cond t (piece_poses m d (share_in w m)) [])
          ≡ cond t (map (λ dt. AnimatedTransform-enclose_bounds m (AnimatedTransform-constants m) dt b) (pieces d (share_in w m))) []
      go true = pieces-boxes m (pieces d (share_in w m))
      go false = refl

  stored-boxes : (asked : Bool) (pad : Float) (t : Transform) → map box (stored_poses asked pad t) ≡ cond asked (Transform-enclose_padded pad t b ∷ []) []
  stored-boxes true pad t = ap (λ (x : BoundsAnswer). x ∷ []) (sym (stored-composition pad t b))
  stored-boxes false pad t = refl

  from-boxes : (poses : Bool → Bool → AnimatedTransform → List PaddedPose) (boxes : Bool → Bool → AnimatedTransform → List BoundsAnswer)
      → ((first last : Bool) (m : AnimatedTransform) → map box (poses first last m) ≡ boxes first last m)
      → (first : Bool) (moves : List AnimatedTransform) → map box (poses_from poses first moves) ≡ boxes_from boxes first moves
  unfolding poses_from boxes_from
  from-boxes poses boxes h first [] = refl
  from-boxes poses boxes h first (m ∷ moves) =
      rw (map-append box (poses first (is_nil moves) m) (poses_from poses false moves), h first (is_nil moves) m, from-boxes poses boxes h false moves)

  ends-boxes : (d : ℕ) (w : Window) (first last : Bool) (m : AnimatedTransform) → map box (stage_poses d w 1 first last m) ≡ end_pose_boxes b w last m
  unfolding stage_poses end_pose_boxes
  ends-boxes d w first last m = stored-boxes (Window-asks_end w last m.end_time) m.pad1 m.end_transform

  equals-boxes : (d : ℕ) (w : Window) (first last : Bool) (m : AnimatedTransform) → map box (stage_poses d w 2 first last m) ≡ equal_pose_boxes b w first last m
  unfolding stage_poses equal_pose_boxes
  equals-boxes d w first last m = stored-boxes (stays_in w first last m) (max_num m.pad0 m.pad1) m.start_transform

  first-boxes : (d : ℕ) (w : Window) (first last : Bool) (m : AnimatedTransform) → map box (stage_poses d w 0 first last m) ≡ slice_boxes b d w m
  unfolding stage_poses
  first-boxes d w first last m = slices-boxes d w m

  pub boxes-poses : (c : Chain) (d : ℕ) (w : Window) → map box (window_poses c d w) ≡ window_boxes c b d w
  unfolding window_poses window_boxes first_pose_boxes
  boxes-poses c d w =
      let slices = poses_from (stage_poses d w 0) true (Chain-moves c) in
      let first = stored_poses (Window-asks_first w c.first.start_time) c.first.pad0 c.first.start_transform in
      let ends = poses_from (stage_poses d w 1) true (Chain-moves c) in
      let equals = poses_from (stage_poses d w 2) true (Chain-moves c) in
      rw (
        map-append box (slices ++ first ++ ends) equals,
        map-append box (slices ++ first) ends,
        map-append box slices first,
        from-boxes (stage_poses d w 0) (λ first last m. slice_boxes b d w m) (first-boxes d w) true (Chain-moves c),
        stored-boxes (Window-asks_first w c.first.start_time) c.first.pad0 c.first.start_transform,
        from-boxes (stage_poses d w 1) (λ first last m. end_pose_boxes b w last m) (ends-boxes d w) true (Chain-moves c),
        from-boxes (stage_poses d w 2) (equal_pose_boxes b w) (equals-boxes d w) true (Chain-moves c),
      )

-- ---- pieces
pieces-length : (d : ℕ) (i : Interval) → length (pieces d i) ≡ 2 ^ d
unfolding pieces
pieces-length zero i = refl
pieces-length (suc d) i =
    let l = pieces-length d (lower_half i) in
    let u = pieces-length d (upper_half i) in
    let a = length-append (pieces d (lower_half i)) (pieces d (upper_half i)) in
    let e = pow-suc 2 d in
    omega (arith, l, u, a, e)

pub piece-place : (d k : ℕ) (i none : Interval) → k < 2 ^ d → get_or (pieces d i) k none ≡ piece_at d k i
unfolding pieces piece_at
piece-place zero zero i none h = refl
piece-place zero (suc k) i none h = absurd (omega (arith, h))
piece-place (suc d) k i none h =
    go (ltb k (2 ^ d)) (ltb-true k (2 ^ d)) (ltb-false k (2 ^ d)) (λ l. piece-place d k (lower_half i) none l) (λ l. piece-place d (k - 2 ^ d) (upper_half i) none l)
  where
    lower : List Interval
    lower = pieces d (lower_half i)

    upper : List Interval
    upper = pieces d (upper_half i)

    go : (t : Bool) → (t ≡ true → k < 2 ^ d) → (t ≡ false → 2 ^ d ≤ k)
        → (k < 2 ^ d → get_or lower k none ≡ piece_at d k (lower_half i))
        → (k - 2 ^ d < 2 ^ d → get_or upper (k - 2 ^ d) none ≡ piece_at d (k - 2 ^ d) (upper_half i))
        → get_or (lower ++ upper) k none ≡ cond t (piece_at d k (lower_half i)) (piece_at d (k - 2 ^ d) (upper_half i))
    go true f g below above =
        let s = f refl in
        let l = pieces-length d (lower_half i) in
        get_or-append lower upper none k (omega (arith, s, l)) ∙ below s
    go false f g below above =
        let s = g refl in
        let e = pow-suc 2 d in
        let l = pieces-length d (lower_half i) in
        let same : length lower + (k - 2 ^ d) ≡ k = omega (arith, s, l) in
        subst (λ (n : ℕ). get_or (lower ++ upper) n none ≡ get_or upper (k - 2 ^ d) none) same (get_or-append-add lower upper (k - 2 ^ d) none)
        ∙ above (omega (arith, s, h, e))

-- An interval that is halved: what is left of it, the piece that is asked for among its own.
pub record Halving (d k : ℕ) (i : Interval) (n rest : ℕ) (part : Interval) : Type 0 where
  pub below : rest < 2 ^ n
  pub same : piece_at n rest part ≡ piece_at d k i

pub halving-first : {d k : ℕ} (i : Interval) → k < 2 ^ d → Halving d k i d k i
halving-first i h = record { below = h; same = refl }

halve : (n rest : ℕ) (part : Interval) → (n ≡ 0 → ⊥)
    → piece_at n rest part ≡ cond (ltb rest (2 ^ (n - 1))) (piece_at (n - 1) rest (lower_half part)) (piece_at (n - 1) (rest - 2 ^ (n - 1)) (upper_half part))
unfolding piece_at
halve zero rest part h = absurd (h refl)
halve (suc n) rest part h = let e : suc n - 1 ≡ n = omega arith in rw e

module _ {d k : ℕ} {i : Interval} {n rest : ℕ} {part : Interval} (h : Halving d k i n rest part) (some : n ≡ 0 → ⊥) {half : ℕ} (e : half ≡ 2 ^ (n - 1)) where
  pub halving-lower : {next : Interval} → rest < half → next ≡ lower_half part → Halving d k i (n - 1) rest next
  halving-lower {next} l s = record {
    below = omega (arith, l, e);
    same = rw s (sym (halve n rest part some ∙ rw (lt-ltb rest (2 ^ (n - 1)) (omega (arith, l, e)))) ∙ h.same);
  }

  pub halving-upper : {next : Interval} → half ≤ rest → next ≡ upper_half part → Halving d k i (n - 1) (rest - half) next
  halving-upper {next} l s =
      let below = h.below in
      record {
        below = upper-below n rest some below (omega (arith, l, e)) e;
        same = rw (s, e) (sym (halve n rest part some ∙ rw (le-ltb rest (2 ^ (n - 1)) (omega (arith, l, e)))) ∙ h.same);
      }
    where
      upper-below : (n rest : ℕ) → (n ≡ 0 → ⊥) → rest < 2 ^ n → 2 ^ (n - 1) ≤ rest → half ≡ 2 ^ (n - 1) → rest - half < 2 ^ (n - 1)
      upper-below zero rest some b l e = absurd (some refl)
      upper-below (suc n) rest some b l e =
          let p = pow-suc 2 n in
          let q : suc n - 1 ≡ n = omega arith in
          let f : half ≡ 2 ^ n = e ∙ ap (λ (x : ℕ). 2 ^ x) q in
          let g : 2 ^ n ≤ rest = subst (λ (x : ℕ). 2 ^ x ≤ rest) q l in
          subst (λ (x : ℕ). rest - half < 2 ^ x) (sym q) (omega (arith, b, p, f, g))

pub halving-last : {d k : ℕ} {i : Interval} {n rest : ℕ} {part : Interval} → Halving d k i n rest part → n ≡ 0 → part ≡ piece_at d k i
halving-last {n = zero} h e = unfold piece_at in h.same
halving-last {n = suc n} h e = absurd (omega (arith, e))

-- The poses of the first pieces, one by one.
pub pieces-next : (m : AnimatedTransform) (d k : ℕ) (i : Interval) → k < 2 ^ d
    → take (suc k) (piece_poses m d i) ≡ take k (piece_poses m d i) ++ (pose_over m (piece_at d k i) ∷ [])
pieces-next m d k i h =
    let l = pieces-length d i in
    let s = length-map (pieces d i) (pose_over m) in
    let at = get_or-map (pose_over m) (pieces d i) k i in
    take-suc (piece_poses m d i) k (pose_over m i) (omega (arith, h, l, s)) ∙ rw (at, piece-place d k i i h)

pub pieces-all : (m : AnimatedTransform) (d k : ℕ) (i : Interval) → 2 ^ d ≤ k → take k (piece_poses m d i) ≡ piece_poses m d i
pieces-all m d k i h =
    let l = pieces-length d i in
    let s = length-map (pieces d i) (pose_over m) in
    take_all k (piece_poses m d i) (omega (arith, h, l, s))

-- ---- the slices of a move
module _ (d : ℕ) (w : Window) (m : AnimatedTransform) where
  pub slices-asked : moves_in w m ≡ true → slice_poses d w m ≡ piece_poses m d (share_in w m)
  unfolding slice_poses
  slices-asked e = rw e

  pub slices-none : moves_in w m ≡ false → slice_poses d w m ≡ []
  unfolding slice_poses
  slices-none e = rw e

-- ---- a pass over the moves
module _ (poses : Bool → Bool → AnimatedTransform → List PaddedPose) (moves : List Rows) where
  -- What the moves from a place on bring.
  abbrev pub rest_from : ℕ → List PaddedPose
  rest_from i = poses_from poses (eqb i 0) (map AnimatedTransform-from_rows (drop i moves))

  -- What the move at a place brings.
  abbrev pub own_at : ℕ → List PaddedPose
  own_at i = poses (eqb i 0) (eqb (i + 1) (length moves)) (AnimatedTransform-from_rows (get_or moves i []))

  rest-split : (i : ℕ) (first : Bool) → i < length moves
      → poses_from poses first (map AnimatedTransform-from_rows (drop i moves))
      ≡ poses first (is_nil (map AnimatedTransform-from_rows (drop (suc i) moves))) (AnimatedTransform-from_rows (get_or moves i []))
      ++ poses_from poses false (map AnimatedTransform-from_rows (drop (suc i) moves))
  unfolding poses_from
  rest-split i first h = rw (drop-cons moves i [] h)

  pub rest-next : (i : ℕ) → i < length moves → rest_from i ≡ own_at i ++ rest_from (i + 1)
  rest-next i h =
      let n : i + 1 ≡ suc i = omega arith in
      let z : eqb (suc i) 0 ≡ false = ne_eqb (suc i) 0 (λ k. absurd (omega (arith, k))) in
      let rest = poses_from poses false (map AnimatedTransform-from_rows (drop (suc i) moves)) in
      let later : rest_from (i + 1) ≡ rest =
      ap rest_from n ∙ ap (λ (f : Bool). poses_from poses f (map AnimatedTransform-from_rows (drop (suc i) moves))) z in
      rest-split i (eqb i 0) h
      ∙ ap (λ (l : Bool). poses (eqb i 0) l (AnimatedTransform-from_rows (get_or moves i [])) ++ rest) (last-at moves i h)
      ∙ ap (λ (l : List PaddedPose). own_at i ++ l) (sym later)

  pub rest-last : (i : ℕ) → length moves ≤ i → rest_from i ≡ []
  unfolding poses_from
  rest-last i h = rw (drop_of_length-le moves {i = i} h)

-- ---- the passes in a row
pub window-passes : (moves : List Rows) (d : ℕ) (w : Window) → (length moves ≡ 0 → ⊥)
    → window_poses (Moves-chain moves) d w
    ≡ poses_from (stage_poses d w 0) true (map AnimatedTransform-from_rows moves)
    ++ stored_poses (Window-asks_first w (AnimatedTransform-from_rows (get_or moves 0 [])).start_time) (AnimatedTransform-from_rows (get_or moves 0 [])).pad0
    (AnimatedTransform-from_rows (get_or moves 0 [])).start_transform
    ++ poses_from (stage_poses d w 1) true (map AnimatedTransform-from_rows moves)
    ++ poses_from (stage_poses d w 2) true (map AnimatedTransform-from_rows moves)
unfolding window_poses Moves-chain
window-passes moves d w some = rw (moves-all moves some)
