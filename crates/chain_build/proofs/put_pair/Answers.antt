-- `put_pair` meets its contract.
use Prim.Native.Nat.{◌+◌}
use mathlib.Core.Path.{ap}
use mathlib.Core.List.{[]}
use borrow.Author.Rules.{rules}
use lib.ListN.{get_or, set}
use Rattle.lent_arrays.specs.matrix4x4.Rows.{Rows}
use Rattle.lent_arrays.specs.Arrays.{Pose-of_list}
use Rattle.animated_transform.specs.New.{AnimatedTransformAnswer-of_result}
use Rattle.animated_transform.proofs.Built.{answered-built}
use Rattle.chain_build.proofs.Answer.{pair-clauses}
use Rattle.chain_build.proofs.put_pair.Goals as goal

pub returns : goal.returns
returns c = let a = c.args in let new = c.new in let p = Pose-of_list (get_or a.poses.now a.i []) in let q = Pose-of_list (get_or a.poses.now (a.i + 1) []) in let ps = c.pose-start.ensures.value in let qs = c.pose-end.ensures.value in let (number, (rows, built)) =
    pair-clauses a.rigid p q (AnimatedTransformAnswer-of_result new.result) (get_or a.moves.now a.i []) (rw (new.ensures.value, qs, ps)) (answered-built new.result new.ensures.built)
    c.put_motion.ensures.refusal c.put_motion.ensures.left in record { refusal = number; left = λ z. ap (λ (r : Rows). set a.moves.now a.i r) (rows z); built = built }
