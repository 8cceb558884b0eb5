-- `put_poses` meets its contract: the number and the run are those of the poses (`poses-printed`).
use native.Mathlib.Omega.{arith}
use mathlib.Core.Bool.{false}
use borrow.Author.Rules.{rules}
use Rattle.chain_number.specs.chain_poses.Poses.{Poses-of_lists}
use Rattle.chain_number.proofs.chain_poses.Loops.{poses-length}
use Rattle.refused_run.proofs.Search.{run-within}
use Rattle.file_stretch.proofs.Printed.{poses-printed}
use Rattle.file_stretch.proofs.put_poses.Goals as goal

pub put_run-requires : goal.put_run-requires
put_run-requires c = let lists = c.args.poses.now in record { length_bound = rw c.shortest_run-run.ensures.value (omega (arith, run-within false (Poses-of_lists lists), poses-length lists, c.requires.poses_len_bound)); in_bounds = c.requires.in_bounds }

pub returns : goal.returns
returns c =
    let poses = Poses-of_lists c.args.poses.now in
    let same = poses-printed poses _ _ c.number-number.ensures.value c.shortest_run-run.ensures.value in
    let put = c.put_run.ensures in
    record { value = rw same put.value; text = rw same put.text; bound = put.bound }
