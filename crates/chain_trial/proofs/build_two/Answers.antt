-- `build_two` meets its contract: what building leaves of these poses (`built-clauses`).
use mathlib.Core.Path.{refl}
use mathlib.Core.List.{[], ◌∷◌}
use borrow.Author.Rules.{rules}
use Rattle.changed_chain.specs.lent_arrays.Arrays.{Pose-of_list}
use Rattle.changed_chain.specs.chain_poses.Poses.{Poses-of_lists}
use Rattle.chain_trial.proofs.Blocks.{built-clauses}
use Rattle.chain_trial.proofs.build_two.Goals as goal

pub returns : goal.returns
unfolding Poses-of_lists
returns c = let a = c.args in let all = built-clauses a.rigid (a.start ∷ a.end ∷ []) (Pose-of_list a.start ∷ Pose-of_list a.end ∷ [])
    a.blocks.now refl c.requires c.build.ensures.refusal c.build.ensures.left c.build.ensures.holds in record { refusal = all.0; built = all.1.0; same = all.1.1 }
