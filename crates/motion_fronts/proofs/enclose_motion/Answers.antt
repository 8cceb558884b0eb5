-- `enclose_motion` meets its contract: the tests, the start transform, the end transform and the slices, each joined to those before it.
use mathlib.Core.Path.{ap, ◌∙◌}
use borrow.Author.Rules.{rules}
use borrow.Author.Tests.{not-true, not-false}
use Rattle.motion_piece.specs.means.Piece.{PaddedPose-stored}
use Rattle.motion_fronts.proofs.Front.{covered_same}
use Rattle.motion_fronts.proofs.Moved.{passed-depth, none_passed, moved-stored, moved-slices, start-covered, end-covered}
use Rattle.motion_fronts.proofs.enclose_motion.Goals as goal

pub returns-then-front-eq0 : goal.returns-then-front-eq0
returns-then-front-eq0 c = record {
  covered = let a = c.args in
      none_passed a.m a.depth a.boxes.now a.places.now c.judged-front.ensures.value c.if-front-eq0.true;
}

pub returns-then-not-m : goal.returns-then-not-m
returns-then-not-m c = record {
  covered = let a = c.args in
      let l = c.requires in
      let start = c.stored_enclosure-start.ensures.value ∙ ap (λ p. PaddedPose-stored p a.m.start_transform) c.start_pad-pad.ensures.value in
      let s = not-true a.m.actually_animated c.if-not-m.true in
      covered_same (λ b. moved-stored a.m a.depth b s)
      (start-covered a.m a.depth l c.judged-front.ensures.value start c.take_pose-started.ensures.front c.take_pose-started.ensures.places);
}

pub take_slices-requires : goal.take_slices-requires
take_slices-requires c = let a = c.args in let some = c.if-front-eq0.false in record { d_le_max_depth = passed-depth a.boxes.now a.depth (λ z. some (ap (λ f. f.count) c.judged-front.ensures.value ∙ z)); boxes_len_bound = c.requires }

pub returns : goal.returns
returns c = record {
  covered = let a = c.args in
      let l = c.requires in
      let start = c.stored_enclosure-start.ensures.value ∙ ap (λ p. PaddedPose-stored p a.m.start_transform) c.start_pad-pad.ensures.value in
      let s = not-false a.m.actually_animated c.if-not-m.false in
      let v = start-covered a.m a.depth l c.judged-front.ensures.value start c.take_pose-started.ensures.front c.take_pose-started.ensures.places in
      let end = c.stored_enclosure-end.ensures.value in
      let w = end-covered a.m a.depth l v end c.take_pose-ended.ensures.front c.take_pose-ended.ensures.places in
      covered_same (λ b. moved-slices a.m a.depth b s) (c.take_slices.ensures.covered _ _ w);
}
