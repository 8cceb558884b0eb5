-- The slices of a move as the code takes them: `slices-pieces` where the window asks for them, `slices-none` where it doesn't.
use Prim.Native.Nat.{ℕ}
use mathlib.Core.Path.{◌≡◌, sym, ap}
use mathlib.Core.Bool.{true, false}
use mathlib.Core.List.{map}
use Rattle.bounds3.specs.declared.Bounds3f.{Bounds3f}
use Rattle.transform.specs.declared.BoundsAnswer.{BoundsAnswer}
use Rattle.dt_share.specs.interval.declared.Interval.{Interval}
use Rattle.animated_transform.specs.declared.AnimatedTransform.{AnimatedTransform}
use Rattle.motion_point.specs.TransformPoint.{AnimatedTransform-constants}
use Rattle.motion_piece.specs.motion_cover.Cover.{AnimatedTransform-enclose_bounds}
use Rattle.motion_piece.proofs.Piece.{piece-composition}
use Rattle.chain_rows.specs.bounds_answers.UnionAll.{BoundsAnswer-union_all}
use Rattle.dt_share.specs.Share.{pieces}
use Rattle.window_slices.specs.dt_pieces.means.Pieces.{piece_box, union_pieces}
use Rattle.window_times.specs.declared.Window.{Window}
use Rattle.chain_window.specs.Cover.{moves_in, share_in, slice_boxes}

module _ (m : AnimatedTransform) (b : Bounds3f) (d : ℕ) (w : Window) (r : BoundsAnswer) where
  pub slices-pieces : moves_in w m ≡ true
      → union_pieces (piece_box (AnimatedTransform-constants m) m.s0 m.s1 m.pad0 m.pad1 b) r d (share_in w m)
      ≡ BoundsAnswer-union_all r (slice_boxes b d w m)
  unfolding slice_boxes union_pieces piece_box
  slices-pieces e =
      let a = AnimatedTransform-constants m in
      let f : Interval → BoundsAnswer = λ dt. AnimatedTransform-enclose_bounds m a dt b in
      let same : piece_box a m.s0 m.s1 m.pad0 m.pad1 b ≡ f = λ i dt. sym (piece-composition m a dt b) i in
      rw e (ap (λ (g : Interval → BoundsAnswer). BoundsAnswer-union_all r (map g (pieces d (share_in w m)))) same)

  pub slices-none : moves_in w m ≡ false → r ≡ BoundsAnswer-union_all r (slice_boxes b d w m)
  unfolding slice_boxes
  slices-none e = rw e
