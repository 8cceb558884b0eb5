-- `build_passed` meets its contract, in the two ways that it ends (proofs/Answer.antt). That there are 31 blocks is known of the copy, an array by value.
use mathlib.Core.Path.{sym, ap, ◌∙◌}
use mathlib.Core.List.{List, map}
use native.Mathlib.Omega.{arith}
use lib.ListN.{length}
use Rattle.lent_arrays.specs.matrix4x4.Rows.{Rows}
use Rattle.chain_poses.specs.motion_chain.Chain.{neighbours}
use Rattle.chain_poses.proofs.motion_chain.Built.{checks-passed}
use Rattle.chain_poses.specs.Poses.{Poses-of_lists}
use Rattle.chain_poses.proofs.Loops.{poses-length}
use Rattle.chain_build.specs.Build.{blocks_left}
use Rattle.chain_build.specs.means.Pairs.{Pair-rows}
use Rattle.chain_build.proofs.Answer.{pair-refused, all-built}
use Rattle.chain_build.proofs.build_passed.Goals as goal

pub put_pairs-refusal-requires : goal.put_pairs-refusal-requires
put_pairs-refusal-requires c = let lists = c.args.poses.now in let h = (checks-passed c.args.rigid (Poses-of_lists lists) c.requires.poses_value).greatest in let n = poses-length lists in record { poses_len_bound = omega (arith, h, n); moves_len = c.well_formed.1.1.0.1.0.1 }

pub returns-then-refusal-ne0 : goal.returns-then-refusal-ne0
returns-then-refusal-ne0 c = let lists = c.args.poses.now in let all = pair-refused c.args.rigid (Poses-of_lists lists) (length lists) c.args.moves.now c.requires.poses_value c.put_pairs-refusal.ensures.refusal c.if-refusal-ne0.true in record { refusal = all.0; left = all.1.0; holds = all.1.1 }

pub returns : goal.returns
returns c = let lists = c.args.poses.now in let poses = Poses-of_lists lists in let none = c.if-refusal-ne0.false in let left = c.put_pairs-refusal.ensures.left none ∙ ap (λ (old : List Rows). blocks_left (map (Pair-rows c.args.rigid) (neighbours poses)) old) c.requires.copy_value in let all = all-built c.args.rigid poses (length lists) c.args.moves.now
    (sym (poses-length lists)) c.requires.poses_value (sym none ∙ c.put_pairs-refusal.ensures.refusal) left (c.put_pairs-refusal.ensures.built none) in record { refusal = all.0; left = all.1.0; holds = all.1.1 }
