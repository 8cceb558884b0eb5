-- `take_box` meets its contract: the box that is moved, by itself or joined to what stands in the place.
use mathlib.Core.Path.{ap, ◌∙◌}
use Rattle.transform.specs.declared.BoundsAnswer.TheVariants.{Bounds}
use Rattle.bounds_query.specs.Query.{BoundsAnswer-union_bounds}
use Rattle.motion_piece.specs.means.Piece.{PaddedPose-judged, PaddedPose-enclose_bounds}
use Rattle.box_front.proofs.Put.{put_first, put-joined}
use borrow.Author.Rules.{rules}
use Rattle.box_front.proofs.take_box.Goals as goal

pub returns-then-first : goal.returns-then-first
returns-then-first c = let a = c.args in let e = c.box_enclosure-moved.ensures.value ∙ ap (PaddedPose-enclose_bounds (PaddedPose-judged a.pose)) c.bounds.ensures.value in let all = put_first a.first _ _ _ _ _ c.if-first.true e c.put_bounds.ensures.refusal c.put_bounds.ensures.left in record { refusal = all.0; left = all.1 }

pub returns : goal.returns
returns c = let a = c.args in let e = c.box_enclosure-moved.ensures.value ∙ ap (PaddedPose-enclose_bounds (PaddedPose-judged a.pose)) c.bounds.ensures.value in let old = c.bounds-2.ensures.value in let u = c.union_bounds.ensures.value ∙ ap (λ x. BoundsAnswer-union_bounds (Bounds x) c.box_enclosure-moved.result) old in let all = put-joined a.first _ _ _ _ _ _ c.if-first.false e u c.put_bounds-2.ensures.refusal c.put_bounds-2.ensures.left in record { refusal = all.0; left = all.1 }
