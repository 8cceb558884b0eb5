-- A piece of dt computed leanly is the cover's own but for zeros' signs, where a piece around it is accepted: `piece-lean`. No test of its own is needed.
use mathlib.Core.Path.{◌≡◌, refl, sym, subst}
use mathlib.Core.List.{[], ◌∷◌}
use lib.Dec.{T}
use lib.Ieee.{Float, le, of_bits, fits}
use lib.Ieee.Scale.{finite}
use Rattle.dt_share.specs.float32.Operators.{◌⊕◌, ◌⊖◌}
use Rattle.dt_share.specs.own_rounding.means.Alike.{Alike}
use Rattle.pose_lean.specs.bounds3.declared.Bounds3f.{Bounds3f}
use Rattle.pose_lean.specs.bounds3.Inside.{Subset}
use Rattle.pose_lean.specs.matrix4x4.declared.Matrix4x4.{Matrix4x4}
use Rattle.pose_lean.specs.transform.declared.BoundsAnswer.{BoundsAnswer}
use Rattle.pose_lean.specs.transform.declared.BoundsAnswer.TheVariants.{Bounds}
use Rattle.bounds_answers.specs.bounds_query.Same.{BoundsAnswer-Same, same-box}
use Rattle.dt_share.specs.interval.declared.Interval.{Interval}
use Rattle.dt_share.specs.interval.Contains as interval
use Rattle.dt_share.proofs.interval.Contains as contains
use Rattle.dt_share.specs.unit_interval.Unit.{unit_interval}
use Rattle.pose_lean.specs.alike.means.Alike.{Interval-Proper}
use Rattle.pose_lean.proofs.alike.Arithmetic.{add-alike, sub_alike}
use Rattle.pose_lean.specs.formula_lean.means.Lean.{number, range, Lean-of, Expr-lean, Expr-lean_all, Program-lean}
use Rattle.pose_lean.proofs.formula_lean.Operations.{Stands}
use Rattle.pose_lean.specs.pose_steps.declared.PoseConstants.{PoseConstants}
use Rattle.pose_lean.specs.pose_steps.declared.IntervalVector.{IntervalVector}
use Rattle.pose_lean.specs.pose_steps.Enclose.{Pose-enclose_transform_point, Pose-enclose_matrix, Pose-enclose_point, Bounds3f-intervals, IntervalVector-bounds}
use Rattle.pose_lean.specs.means.Lean.{lerp, one_minus, pad_high, LeanPose-over, Interval-grown}
use Rattle.pose_lean.specs.means.Lean.{IntervalVector-grown, LeanPose-vector, LeanPose-box, Lean-box}
use Rattle.pose_lean.specs.means.Values.{PoseValues, Bounds3f-Values}
use Rattle.pose_lean.proofs.Stages.{number-stands, range-stands, stage-lean, StandsVector}
use Rattle.pose_lean.proofs.Pose.{point-accepted}
use Rattle.bounds_answers.specs.animated_transform.Built.{Pad-Judged}
use Rattle.bounds_answers.specs.motion_pad.Pad.{pad_stage, Pad-inputs, Pad-enclose}
use Rattle.bounds_answers.specs.motion_pad.Grow.{Bounds3f-grow, BoundsAnswer-grow}
use Rattle.bounds_answers.proofs.motion_pad.Box.{grow-accepted}
use Rattle.bounds_answers.specs.motion_cover.Cover.{BoundsAnswer-from_enclosure}
use Rattle.bounds_answers.proofs.motion_cover.Contains.{from-enclosure-accepted}
use Rattle.bounds_answers.proofs.motion_cover.Zeros.{grow-valued}
use Rattle.bounds_answers.proofs.motion_cover.Proper.{BoxRefines}
use Rattle.pose_lean.proofs.bounds3.Union.{finite-self}
use Rattle.bounds_answers.specs.cover_depth.means.Piece.{Pose-enclose_bounds, Enclosable}
use Rattle.bounds_answers.proofs.cover_depth.Finer.{part-isotone}

-- ---- the pad
pad-stands : {pad0 pad1 : Float} {D : Interval} → Pad-Judged pad0 → Pad-Judged pad1 → Interval-Proper D → (Pad-enclose pad0 pad1 D).refusal ≡ 0
    → Stands (range (lerp pad0 pad1 (one_minus D) D)) (Pad-enclose pad0 pad1 D).interval
unfolding Pad-enclose Program-lean Expr-lean_all Expr-lean Lean-of le of_bits fits lerp one_minus
pad-stands {pad0} {pad1} {D} p q d h =
    (stage-lean pad_stage 0 (Pad-inputs pad0 pad1 D) (number pad0 ∷ number pad1 ∷ range D ∷ [])
    (number-stands pad0 p.finite p.binary32, (number-stands pad1 q.finite q.binary32, (range-stands d, tt))) tt tt h).0

-- ---- a box of proper intervals
box-stands : {b : Bounds3f} → BoxRefines b → Bounds3f-Values b → StandsVector (Bounds3f-intervals b) (Bounds3f-intervals b)
box-stands (x, (y, (z, _))) v =
    let (lx, (ly, (lz, _))) = v.low in
    let (hx, (hy, (hz, _))) = v.high in (
      range-stands (record { finite = x.finite; values = record { low = lx; high = hx }; rises = x.subset.proper }),
      (
        range-stands (record { finite = y.finite; values = record { low = ly; high = hy }; rises = y.subset.proper }),
        (range-stands (record { finite = z.finite; values = record { low = lz; high = hz }; rises = z.subset.proper }), tt),
      ),
    )

-- ---- alike boxes, grown by alike pads
record AlikeEnds (X Y : Interval) (pad pad' : Float) : Type 0 where
  low : Alike (X.low ⊖ pad) (Y.low ⊖ pad')
  high : Alike (X.high ⊕ pad) (Y.high ⊕ pad')

grown-ends : {X Y : Interval} {pad pad' : Float} → Stands (range X) Y → T (finite pad) → Alike pad pad' → AlikeEnds Y X pad pad'
grown-ends s f a = record {
  low = sub_alike s.proper.finite.low f s.alike.low a;
  high = add-alike s.proper.finite.high f s.alike.high a;
}

module _ {v W : IntervalVector} {pad pad' : Float} (s : StandsVector v W) (f : T (finite pad)) (a : Alike pad pad') where
  grown-within : Subset (Bounds3f-grow pad (IntervalVector-bounds W)) (IntervalVector-bounds (IntervalVector-grown pad' v))
  unfolding Bounds3f-grow IntervalVector-grown Interval-grown
  grown-within =
      let x = grown-ends s.0 f a in
      let y = grown-ends s.1.0 f a in
      let z = grown-ends s.1.1.0 f a in
      record { x = (x.low.from, x.high.to); y = (y.low.from, y.high.to); z = (z.low.from, z.high.to) }

  grown-around : Subset (IntervalVector-bounds (IntervalVector-grown pad' v)) (Bounds3f-grow pad (IntervalVector-bounds W))
  unfolding Bounds3f-grow IntervalVector-grown Interval-grown
  grown-around =
      let x = grown-ends s.0 f a in
      let y = grown-ends s.1.0 f a in
      let z = grown-ends s.1.1.0 f a in
      record { x = (x.low.to, x.high.from); y = (y.low.to, y.high.from); z = (z.low.to, z.high.from) }

-- ---- the piece
-- A pose once, and then boxes.
pub over-bounds : (a : PoseConstants) (s0 s1 : Matrix4x4) (pad0 pad1 : Float) (D : Interval) (b : Bounds3f)
    → BoundsAnswer-grow (Pad-enclose pad0 pad1 D) (BoundsAnswer-from_enclosure
    (Pose-enclose_transform_point (Pose-enclose_matrix a s0 s1 D).refusal (Pose-enclose_matrix a s0 s1 D).matrix (Bounds3f-intervals b)))
    ≡ Pose-enclose_bounds a s0 s1 pad0 pad1 D b
unfolding Pose-enclose_point
over-bounds a s0 s1 pad0 pad1 D b = refl

module _ {a : PoseConstants} {s0 s1 : Matrix4x4} {pad0 pad1 : Float} (parts : Enclosable a s0 s1 pad0 pad1) (values : PoseValues a s0 s1)
    (b : Bounds3f) (r : BoxRefines b) (numbers : Bounds3f-Values b) where
  -- One that is accepted.
  pub accepted-lean : {D : Interval} → Interval-Proper D → interval.Subset D unit_interval → (c : Bounds3f) → Pose-enclose_bounds a s0 s1 pad0 pad1 D b ≡ Bounds c
      → BoundsAnswer-Same (Pose-enclose_bounds a s0 s1 pad0 pad1 D b) (Bounds (Lean-box a s0 s1 pad0 pad1 D b))
  unfolding Lean-box LeanPose-box LeanPose-vector LeanPose-over pad_high
  accepted-lean {D} d u c e =
      let whole = Pose-enclose_point a s0 s1 D (Bounds3f-intervals b) in
      let pad = Pad-enclose pad0 pad1 D in
      let g = grow-accepted pad (BoundsAnswer-from_enclosure whole) c e in
      let k = from-enclosure-accepted whole g.before g.worked in
      let s = point-accepted a s0 s1 parts.constants parts.scale0 parts.scale1 values d u (Bounds3f-intervals b) (Bounds3f-intervals b)
      (box-stands r numbers) k.accepted in
      let p = pad-stands parts.pad0-judged parts.pad1-judged d g.accepted in
      let box = Bounds3f-grow pad.interval.high (IntervalVector-bounds whole.vector) in
      let same : box ≡ c = subst (λ (x : Bounds3f). Bounds3f-grow pad.interval.high x ≡ c) (sym k.bounds) g.grown in
      let lean = Lean-box a s0 s1 pad0 pad1 D b in
      subst (λ (x : BoundsAnswer). BoundsAnswer-Same x (Bounds lean)) (sym e)
      (same-box (subst (λ (x : Bounds3f). Subset x lean) same (grown-within s p.proper.finite.high p.alike.high))
      (subst (λ (x : Bounds3f). Subset lean x) same (grown-around s p.proper.finite.high p.alike.high)))

  -- One that lies in another, of which that is known.
  pub piece-lean : (D D' : Interval) (c : Bounds3f) → Interval-Proper D → interval.Subset D D' → interval.Subset D' unit_interval
      → Pose-enclose_bounds a s0 s1 pad0 pad1 D' b ≡ Bounds c
      → BoundsAnswer-Same (Pose-enclose_bounds a s0 s1 pad0 pad1 D b) (Bounds (Lean-box a s0 s1 pad0 pad1 D b))
  piece-lean D D' c d s u e =
      let v = (grow-valued (Pad-enclose pad0 pad1 D') (BoundsAnswer-from_enclosure (Pose-enclose_point a s0 s1 D' (Bounds3f-intervals b)))).values c e in
      let w = part-isotone parts b r D D' c s u (record { box = c; accepted = e; subset = finite-self v.finite }) in
      accepted-lean d (contains.subset-trans s u) w.box w.accepted
