-- `put_values` meets its contract: 18 floats are those of their pose (`list-inverse`).
use mathlib.Core.Path.{sym}
use Rattle.kept_poses.proofs.built_poses.Lists.{list-inverse}
use Rattle.chain_held.proofs.put_values.Goals as goal

pub returns : goal.returns
returns c = record { left = let (words, (shape, each)) = c.well_formed.0 in sym (list-inverse c.args.values shape.1) }
