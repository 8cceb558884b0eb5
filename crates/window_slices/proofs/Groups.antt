-- Groups of lean pieces are the pieces' own union but for zeros' signs: `groups-same`. What is judged is the union itself; both meet the two clauses of
-- `union_pieces` (`judged-clauses`, `same-clauses`).
use Prim.Native.Nat.{ℕ, zero, suc, ◌+◌, ◌-◌, ◌≤◌}
use mathlib.Core.Path.{◌≡◌, refl, sym, ap, subst}
use mathlib.Core.List.{List, [], ◌∷◌, map, Memᴰ}
use native.Mathlib.Omega.{arith}
use lib.Dec.{T}
use lib.Ieee.{Float}
use Rattle.bounds3.specs.declared.Bounds3f.{Bounds3f}
use Rattle.bounds3.proofs.Union.{subset-trans, finite-self}
use Rattle.matrix4x4.specs.declared.Matrix4x4.{Matrix4x4}
use Rattle.transform.specs.declared.BoundsAnswer.{BoundsAnswer}
use Rattle.transform.specs.declared.BoundsAnswer.TheVariants.{Bounds, Refused}
use Rattle.bounds_query.specs.Same.{BoundsAnswer-Same, same-box}
use Rattle.bounds_query.specs.Zeros.{BoundsAnswer-positive_zeros}
use Rattle.interval.specs.declared.Interval.{Interval}
use Rattle.dt_pieces.specs.dt_share.Share.{pieces}
use Rattle.pose_steps.specs.declared.PoseConstants.{PoseConstants}
use Rattle.pose_steps.specs.Enclose.{Pose-enclose_point}
use Rattle.cover_test.specs.pose_lean.means.Lean.{LeanPose-box, Lean-box}
use Rattle.cover_test.specs.pose_lean.means.Values.{PoseValues}
use Rattle.dt_pieces.specs.motion_pad.Pad.{Pad-enclose}
use Rattle.dt_pieces.proofs.motion_pad.Zeros.{answers-zeros}
use Rattle.dt_pieces.proofs.motion_cover.Proper.{box-refines}
use Rattle.dt_pieces.proofs.motion_cover.Zeros.{Valued, grow-valued}
use Rattle.interval.specs.Judged.{Judged-outcome, Judged-from}
use Rattle.dt_pieces.specs.motion_piece.means.Piece.{PaddedPose-enclose_bounds}
use Rattle.dt_pieces.proofs.motion_piece.Piece.{piece-steps}
use Rattle.dt_pieces.specs.cover_depth.means.Piece.{Pose-enclose_bounds}
use Rattle.dt_pieces.specs.bounds_answers.UnionAll.{BoundsAnswer-union_all, Each}
use Rattle.dt_pieces.proofs.bounds_answers.UnionAll.{union-all-refused}
use Rattle.cover_test.proofs.cover_lean.Join.{Self, union_list}
use Rattle.cover_test.proofs.cover_lean.Test.{tested-enclosable}
use Rattle.cover_test.proofs.cover_lean.Pieces.{each-lean, pieces-lean}
use Rattle.cover_slices.specs.means.Lean.{coarse_depth, BoundsAnswer-is_box}
use Rattle.cover_slices.proofs.Groups.{coarse-small, box-answered}
use Rattle.dt_pieces.specs.means.Pieces.{piece_box, union_pieces}
use Rattle.window_groups.specs.means.Halves.{lean_over, Halves-union}
use Rattle.window_slices.specs.means.Lean.{Lean}
use Rattle.window_slices.proofs.Same.{same-sym, same-trans, union-all-same}
use Rattle.window_slices.proofs.Join.{halves-same}

module _ (a : PoseConstants) (s0 s1 : Matrix4x4) (pad0 pad1 : Float) (b : Bounds3f) where
  abbrev piece : Interval → BoundsAnswer
  piece = piece_box a s0 s1 pad0 pad1 b

  pub piece-valued : (D : Interval) → Valued (piece D)
  unfolding piece_box PaddedPose-enclose_bounds
  piece-valued D = grow-valued (Judged-from (Judged-outcome (Pad-enclose pad0 pad1 D))) _

  abbrev judged : Interval → BoundsAnswer
  judged D = Pose-enclose_bounds a s0 s1 pad0 pad1 D b

  judged-piece : judged ≡ piece
  unfolding piece_box
  judged-piece i D = piece-steps a s0 s1 pad0 pad1 D b i

  -- Joined to answers that are the same.
  start-same : {r s : BoundsAnswer} (d : ℕ) (i : Interval) → BoundsAnswer-Same r s → BoundsAnswer-Same (union_pieces piece r d i) (union_pieces piece s d i)
  unfolding union_pieces
  start-same d i h = union-all-same h (map piece (pieces d i)) (valued (pieces d i))
    where
      valued : (l : List Interval) → Each Valued (map piece l)
      valued [] = tt
      valued (D ∷ l) = (piece-valued D, valued l)

  -- A refusal stands.
  pub refused-union : (d : ℕ) (i : Interval) (r : BoundsAnswer) (n : ℕ) → r ≡ Refused n → r ≡ union_pieces piece r d i
  unfolding union_pieces
  refused-union d i r n e = rw e (sym (union-all-refused n (map piece (pieces d i))))

  module _ (d : ℕ) (i : Interval) where
    abbrev Clauses : BoundsAnswer → BoundsAnswer → Type 0
    Clauses r u = (BoundsAnswer-positive_zeros u ≡ BoundsAnswer-positive_zeros (union_pieces piece r d i))
        × ((s : BoundsAnswer) → BoundsAnswer-Same r s → BoundsAnswer-Same u (union_pieces piece s d i))

    pub judged-clauses : (r u : BoundsAnswer) → u ≡ union_pieces piece r d i → Clauses r u
    judged-clauses r u e =
        (ap BoundsAnswer-positive_zeros e, λ s h. subst (λ (x : BoundsAnswer). BoundsAnswer-Same x (union_pieces piece s d i)) (sym e) (start-same d i h))

    pub same-clauses : (r u : BoundsAnswer) → BoundsAnswer-Same (union_pieces piece r d i) u → Clauses r u
    same-clauses r u h = (sym (answers-zeros h), λ s k. same-trans (same-sym h) (start-same d i k))

  module _ (i : Interval) (u : Bounds3f) (lean : Lean a s0 s1 pad0 pad1 b i u) where
    box-self : {r : BoundsAnswer} {x : Bounds3f} → BoundsAnswer-Same r (Bounds x) → Self x
    box-self (same-box s t) = subset-trans t s

    finer : (n h : ℕ) → coarse_depth a + n ≡ suc (suc h)
        → BoundsAnswer-Same (union_pieces piece (Bounds u) (suc (suc h)) i) (Bounds (Halves-union a s0 s1 pad0 pad1 b h i u))
    unfolding union_pieces Pose-enclose_point Halves-union Lean-box LeanPose-box lean_over
    finer n h e =
        let v = lean.numbers in
        let parts = tested-enclosable a s0 s1 pad0 pad1 v.pad0-number v.pad1-number lean.parts in
        let values : PoseValues a s0 s1 = record { constants = v.constants; scale0 = v.scale0; scale1 = v.scale1 } in
        let r = box-refines b lean.ordered in
        let c = box-answered (union_pieces judged (Bounds u) (coarse_depth a) i)
        (subst (λ (f : Interval → BoundsAnswer). T (BoundsAnswer-is_box (union_pieces f (Bounds u) (coarse_depth a) i))) (sym judged-piece) lean.coarse) in
        let self = finite-self lean.start in
        let box : Interval → Bounds3f = λ D. Lean-box a s0 s1 pad0 pad1 D b in
        let each : (D : Interval) → Memᴰ D (pieces (suc (suc h)) i) → Self (box D) =
        subst (λ (k : ℕ). (D : Interval) → Memᴰ D (pieces k i) → Self (box D)) e
        (λ D k. box-self (each-lean parts values b r lean.corners (coarse_depth a) n lean.share (Bounds u) c.box c.accepted D k)) in
        let same : BoundsAnswer-Same (BoundsAnswer-union_all (Bounds u) (map judged (pieces (suc (suc h)) i)))
        (Bounds (union_list u (map box (pieces (suc (suc h)) i)))) =
        subst (λ (k : ℕ). BoundsAnswer-Same (BoundsAnswer-union_all (Bounds u) (map judged (pieces k i))) (Bounds (union_list u (map box (pieces k i))))) e
        (pieces-lean parts values b r lean.corners (coarse_depth a) n lean.share (same-box self self) c.box c.accepted) in
        let lanes = halves-same (lean_over a s0 s1 pad0 pad1 b) h i u self each in
        subst (λ (f : Interval → BoundsAnswer). BoundsAnswer-Same (union_pieces f (Bounds u) (suc (suc h)) i) (Bounds (Halves-union a s0 s1 pad0 pad1 b h i u)))
        judged-piece (same-trans same (same-box lanes.within lanes.around))

    pub groups-same : (h : ℕ) → 2 ≤ h → BoundsAnswer-Same (union_pieces piece (Bounds u) h i) (Bounds (Halves-union a s0 s1 pad0 pad1 b (h - 2) i u))
    groups-same zero l = absurd (omega (arith, l))
    groups-same (suc zero) l = absurd (omega (arith, l))
    groups-same (suc (suc k)) l =
        let e : suc (suc k) - 2 ≡ k = omega arith in
        subst (λ (x : ℕ). BoundsAnswer-Same (union_pieces piece (Bounds u) (suc (suc k)) i) (Bounds (Halves-union a s0 s1 pad0 pad1 b x i u))) (sym e)
        (finer (suc (suc k) - coarse_depth a) k (omega (arith, coarse-small a)))
