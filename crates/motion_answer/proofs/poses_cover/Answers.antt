-- `poses_cover` meets its contract: building's number chooses the case (proofs/Posed.antt). What was built is kept in the first moves, one fewer than poses.
use native.Mathlib.Omega.{arith}
use mathlib.Core.Path.{sym}
use lib.Seq.{length-take-le}
use borrow.Author.Rules.{rules}
use Rattle.chain_build.specs.motion_chain.Chain.{Chain-new}
use Rattle.chain_build.specs.chain_poses.Poses.{Poses-of_lists}
use Rattle.motion_answer.proofs.Posed.{refused-cover, built-count, built-cover, moves-room}
use Rattle.motion_answer.proofs.poses_cover.Goals as goal

pub returns-then-refusal-ne0 : goal.returns-then-refusal-ne0
returns-then-refusal-ne0 c = record { value = refused-cover _ _ c.build-refusal.ensures.refusal c.if-refusal-ne0.true }

pub overflow_sub-n : goal.overflow_sub-n
overflow_sub-n c =
    let build = c.build-refusal in
    omega (arith, (built-count c.args.rigid c.args.poses.now build.ensures.refusal c.if-refusal-ne0.false).0)

pub slice_bounds-moves-end : goal.slice_bounds-moves-end
slice_bounds-moves-end c =
    let build = c.build-refusal in
    let rigid = c.args.rigid in
    let lists = c.args.poses.now in
    let few = built-count rigid lists build.ensures.refusal c.if-refusal-ne0.false in
    omega (arith, few.1, moves-room (Chain-new rigid (Poses-of_lists lists)) _ build.ensures.left)

pub slice_bounds-cover-end : goal.slice_bounds-cover-end
slice_bounds-cover-end c =
    let build = c.build-refusal in
    let rigid = c.args.rigid in
    let lists = c.args.poses.now in
    let few = built-count rigid lists build.ensures.refusal c.if-refusal-ne0.false in
    sym (length-take-le _ _ (omega (arith, few.1, moves-room (Chain-new rigid (Poses-of_lists lists)) _ build.ensures.left)))

pub returns : goal.returns
returns c = record {
  value = let a = c.args in
      let build = c.build-refusal in
      let none = c.if-refusal-ne0.false in
      built-cover a.rigid a.poses.now build.ensures.refusal none a.b c.cover.result
      (λ chain s. c.cover.ensures.kept chain (build.ensures.holds chain s).same);
}
