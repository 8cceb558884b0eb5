-- What building leaves is asked as it is: a chain has at most 31 moves, `asked-built`.
use mathlib.Core.Path.{◌≡◌, ap, ◌∙◌}
use mathlib.Core.List.{List}
use native.Mathlib.Omega.{arith}
use borrow.Author.Tests.{le-ltb}
use lib.ListN.{length, length-map}
use Rattle.file_reader.specs.matrix4x4.Rows.{Rows}
use Rattle.motion_rows.specs.Rows.{AnimatedTransform-to_rows}
use Rattle.chain_rows.specs.motion_chain.Chain.{Chain-moves}
use Rattle.chain_rows.proofs.motion_chain.Built.{built-moves}
use Rattle.moves_asked.specs.Asked.{max_moves, Moves-asked}
use Rattle.chain_rows.specs.Theorem.{Moves-Built, chain-built, move-built}

pub asked-built : (rows : List Rows) → Moves-Built rows → Moves-asked rows ≡ rows
unfolding Moves-asked
asked-built rows (chain-built c h) =
    let count = ap length h.same ∙ length-map (Chain-moves c) AnimatedTransform-to_rows in
    let few = (built-moves h.built).count in
    rw (le-ltb max_moves (length rows) (omega (arith, count, few)))
asked-built rows (move-built block m e h) =
    let one = ap length e in
    rw (le-ltb max_moves (length rows) (omega (arith, one)))
