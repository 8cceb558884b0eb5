-- `rise_from` meets its contract: what is left, after the last time, is what was asked of all.
use mathlib.Core.Path.{◌≡◌}
use lib.ListN.{drop}
use Rattle.chain_join.specs.means.Rise.{rise_from}
use Rattle.chain_join.proofs.rise_from.Given as goal

abbrev pub invariant-loop-rows : goal.invariant-loop-rows
invariant-loop-rows l = rise_from l.last (drop l.rows-index l.moves) ≡ rise_from l.time l.moves
