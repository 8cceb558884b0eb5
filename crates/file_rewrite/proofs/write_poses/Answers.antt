-- `write_poses` meets its contract: building's number chooses the case (proofs/Printed.antt). What was built is kept in the first moves, one fewer than poses.
use mathlib.Core.Bool.{false}
use native.Mathlib.Omega.{arith}
use mathlib.Core.Path.{sym, ◌∙◌}
use lib.Seq.{length-take-le}
use borrow.Author.Rules.{rules}
use Rattle.chain_build.specs.motion_chain.Chain.{Chain-new}
use Rattle.chain_build.proofs.motion_chain.Built.{none-built}
use Rattle.chain_build.specs.chain_poses.Poses.{Poses-of_lists}
use Rattle.motion_answer.proofs.Posed.{built-count, moves-room}
use Rattle.file_rewrite.proofs.Printed.{refused-printed, built-printed}
use Rattle.file_rewrite.proofs.write_poses.Goals as goal

pub returns-then-refusal-ne0 : goal.returns-then-refusal-ne0
returns-then-refusal-ne0 c =
    let a = c.args in
    let same = refused-printed (Chain-new false (Poses-of_lists a.poses.now)) a.b c.build-refusal.ensures.refusal c.if-refusal-ne0.true in
    let put = c.write_refusal.ensures in
    record { value = rw same put.value; text = rw same put.text; counts = put.counts }

pub overflow_sub-n : goal.overflow_sub-n
overflow_sub-n c =
    let build = c.build-refusal in
    omega (arith, (built-count false c.args.poses.now build.ensures.refusal c.if-refusal-ne0.false).0)

pub slice_bounds-moves-end : goal.slice_bounds-moves-end
slice_bounds-moves-end c =
    let build = c.build-refusal in
    let lists = c.args.poses.now in
    let few = built-count false lists build.ensures.refusal c.if-refusal-ne0.false in
    omega (arith, few.1, moves-room (Chain-new false (Poses-of_lists lists)) _ build.ensures.left)

pub slice_bounds-write_moves-end : goal.slice_bounds-write_moves-end
slice_bounds-write_moves-end c =
    let build = c.build-refusal in
    let lists = c.args.poses.now in
    let few = built-count false lists build.ensures.refusal c.if-refusal-ne0.false in
    sym (length-take-le _ _ (omega (arith, few.1, moves-room (Chain-new false (Poses-of_lists lists)) _ build.ensures.left)))

pub write_moves-requires : goal.write_moves-requires
write_moves-requires c =
    let build = c.build-refusal in
    let lists = c.args.poses.now in
    let (chain, s) = none-built false (Poses-of_lists lists) (sym build.ensures.refusal ∙ c.if-refusal-ne0.false) in
    rw (build.ensures.holds chain s).same (omega arith)

pub returns : goal.returns
returns c =
    let build = c.build-refusal in
    let a = c.args in
    let same = built-printed a.poses.now a.b _ build.ensures.refusal c.if-refusal-ne0.false (λ chain s. (build.ensures.holds chain s).same) in
    let put = c.write_moves.ensures in
    record { value = rw same put.value; text = rw same put.text; counts = put.counts }
