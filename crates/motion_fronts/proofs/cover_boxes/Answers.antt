-- `cover_boxes` meets its contract: what is enclosed, with its zeros +0.
use borrow.Author.Rules.{rules}
use Rattle.motion_fronts.specs.means.Zeros.{AnimatedTransform-enclose_tested}
use Rattle.motion_fronts.proofs.Front.{covered_same}
use Rattle.motion_fronts.proofs.Zeros.{tested-zeros, zeros-covered}
use Rattle.motion_fronts.proofs.cover_boxes.Goals as goal

pub returns : goal.returns
returns c = record {
  covered = let a = c.args in
      covered_same (λ b. tested-zeros a.m b a.depth)
      (zeros-covered (λ b. AnimatedTransform-enclose_tested a.m b a.depth) c.enclose_motion-front.ensures.covered c.places_zeros.ensures.left);
}
