-- The pieces of a window's share of dt: where those of a depth are accepted, with what stands before them, those of each greater depth are the lean
-- ones but for zeros' signs, `each-lean`, and so is their union, `pieces-lean`. For any list of intervals: `list-lean`.
use Prim.Native.Nat.{ℕ, ◌+◌}
use mathlib.Core.Path.{◌≡◌, refl, sym, subst}
use mathlib.Core.Logic.{inl, inr}
use mathlib.Core.List.Memᴰ
use mathlib.Core.List.{List, [], ◌∷◌, map, Memᴰ}
use lib.Ieee.{Float}
use Rattle.pose_lean.specs.bounds3.declared.Bounds3f.{Bounds3f}
use Rattle.pose_lean.specs.matrix4x4.declared.Matrix4x4.{Matrix4x4}
use Rattle.pose_lean.specs.transform.declared.BoundsAnswer.{BoundsAnswer}
use Rattle.pose_lean.specs.transform.declared.BoundsAnswer.TheVariants.{Bounds}
use Rattle.bounds_answers.specs.bounds_query.Query.{BoundsAnswer-union_bounds}
use Rattle.bounds_answers.specs.bounds_query.Same.{BoundsAnswer-Same}
use Rattle.bounds_answers.proofs.bounds_query.Union.{union-accepted, union-same}
use Rattle.dt_share.specs.interval.declared.Interval.{Interval}
use Rattle.dt_share.proofs.interval.Contains.{subset-finite}
use Rattle.dt_share.specs.Share.{pieces}
use Rattle.dt_share.specs.means.Part.{UnitPart}
use Rattle.dt_share.proofs.Pieces.{pieces-part, pieces-finer}
use Rattle.pose_lean.specs.alike.means.Alike.{Interval-Proper}
use Rattle.pose_lean.specs.pose_steps.declared.PoseConstants.{PoseConstants}
use Rattle.pose_lean.proofs.pose_steps.Angle.{unit-finite}
use Rattle.pose_lean.specs.means.Lean.{Lean-box}
use Rattle.pose_lean.specs.means.Values.{PoseValues, Bounds3f-Values}
use Rattle.bounds_answers.proofs.motion_cover.Proper.{BoxRefines}
use Rattle.bounds_answers.specs.cover_depth.means.Piece.{Pose-enclose_bounds, Enclosable}
use Rattle.bounds_answers.specs.UnionAll.{BoundsAnswer-union_all}
use Rattle.cover_lean.proofs.Piece.{piece-lean}
use Rattle.cover_lean.proofs.Join.{union_list}
use Rattle.cover_lean.proofs.Union.{Answered}

-- ---- a list of answers
start-answered : (r : BoundsAnswer) (answers : List BoundsAnswer) (c : Bounds3f) → BoundsAnswer-union_all r answers ≡ Bounds c → Answered r
start-answered r [] c e = record { box = c; accepted = e }
start-answered r (s ∷ answers) c e =
    let w = start-answered (BoundsAnswer-union_bounds r s) answers c e in
    let j = union-accepted r s w.box w.accepted in
    record { box = j.left; accepted = j.left-accepted }

-- Each part of an accepted union is accepted.
pub list-answered : (box : Interval → BoundsAnswer) (r : BoundsAnswer) (l : List Interval) (c : Bounds3f) → BoundsAnswer-union_all r (map box l) ≡ Bounds c
    → (D : Interval) → Memᴰ D l → Answered (box D)
list-answered box r [] c e D i = absurd (Memᴰ.not-nil i)
list-answered box r (E ∷ l) c e D i =
    let w = start-answered (BoundsAnswer-union_bounds r (box E)) (map box l) c e in
    let j = union-accepted r (box E) w.box w.accepted in
    let own : Answered (box E) = record { box = j.right; accepted = j.right-accepted } in
    elim (Memᴰ.cases_cons i) [
      | inl k ↦ subst (λ (x : Interval). Answered (box x)) (sym k) own
      | inr k ↦ list-answered box (BoundsAnswer-union_bounds r (box E)) l c e D k
    ]

-- Answers joined in order to what stands before, and their lean boxes.
pub list-lean : {r : BoundsAnswer} {u : Bounds3f} (box : Interval → BoundsAnswer) (lean : Interval → Bounds3f)
    → BoundsAnswer-Same r (Bounds u) → (l : List Interval)
    → ((D : Interval) → Memᴰ D l → BoundsAnswer-Same (box D) (Bounds (lean D)))
    → BoundsAnswer-Same (BoundsAnswer-union_all r (map box l)) (Bounds (union_list u (map lean l)))
unfolding BoundsAnswer-union_bounds union_list
list-lean box lean s [] t = s
list-lean {r = r} {u = u} box lean s (D ∷ l) t = list-lean {r = BoundsAnswer-union_bounds r (box D)} box lean (union-same s (t D (Memᴰ.head refl))) l (λ E i. t E (Memᴰ.tail i))

-- ---- pieces
part-proper : {D : Interval} → UnitPart D → Interval-Proper D
part-proper u = record { finite = subset-finite unit-finite u.subset; values = record { low = u.low_fits; high = u.high_fits }; rises = u.subset.proper }

module _ {a : PoseConstants} {s0 s1 : Matrix4x4} {pad0 pad1 : Float} (parts : Enclosable a s0 s1 pad0 pad1) (values : PoseValues a s0 s1)
    (b : Bounds3f) (r : BoxRefines b) (numbers : Bounds3f-Values b) where
  abbrev box : Interval → BoundsAnswer
  box D = Pose-enclose_bounds a s0 s1 pad0 pad1 D b

  abbrev lean : Interval → Bounds3f
  lean D = Lean-box a s0 s1 pad0 pad1 D b

  -- Each piece of a greater depth.
  pub each-lean : (d n : ℕ) {i : Interval} → UnitPart i → (s : BoundsAnswer) (c : Bounds3f) → BoundsAnswer-union_all s (map box (pieces d i)) ≡ Bounds c
      → (D : Interval) → Memᴰ D (pieces (d + n) i) → BoundsAnswer-Same (box D) (Bounds (lean D))
  each-lean d n {i} p s c e D k =
      let whole = pieces-finer d n p D k in
      let w = list-answered box s (pieces d i) c e whole.piece whole.member in
      piece-lean parts values b r numbers D whole.piece w.box (part-proper (pieces-part (d + n) p D k).unit) whole.subset
      (pieces-part d p whole.piece whole.member).unit.subset w.accepted

  pub pieces-lean : (d n : ℕ) {i : Interval} → UnitPart i → {s : BoundsAnswer} {u : Bounds3f} → BoundsAnswer-Same s (Bounds u)
      → (c : Bounds3f) → BoundsAnswer-union_all s (map box (pieces d i)) ≡ Bounds c
      → BoundsAnswer-Same (BoundsAnswer-union_all s (map box (pieces (d + n) i))) (Bounds (union_list u (map lean (pieces (d + n) i))))
  pieces-lean d n {i} p {s} same c e = list-lean box lean same (pieces (d + n) i) (each-lean d n p s c e)
