-- `changed_cover` meets its contract: the blocks in front are the changed moves (`changed-front`), and these are asked.
use mathlib.Core.Path.{refl, sym, ap, ◌∙◌}
use mathlib.Core.List.{List}
use native.Mathlib.Omega.{arith}
use lib.Seq.{length-take-le}
use Rattle.transform.specs.matrix4x4.Rows.{Rows}
use Rattle.chain_build.specs.chain_rows.Kept.{Moves-cover}
use Rattle.trial_blocks.proofs.Blocks.{changed-front}
use borrow.Author.Rules.{rules}
use Rattle.chain_trial.proofs.changed_cover.Goals as goal

pub slice_bounds-blocks-end : goal.slice_bounds-blocks-end
slice_bounds-blocks-end c =
    let a = c.args in
    let changed = changed-front a.moves.now a.place a.beside.now _ c.requires.moves_nonzero c.requires.moves_len_bound c.requires.place_in_bounds refl c.put_changed.ensures.left in
    omega (arith, c.requires.moves_len_bound, changed.1)

pub slice_bounds-cover-end : goal.slice_bounds-cover-end
slice_bounds-cover-end c =
    let a = c.args in
    let changed = changed-front a.moves.now a.place a.beside.now _ c.requires.moves_nonzero c.requires.moves_len_bound c.requires.place_in_bounds refl c.put_changed.ensures.left in
    sym (length-take-le _ _ (omega (arith, c.requires.moves_len_bound, changed.1)))

pub returns : goal.returns
returns c = record {
  value = let a = c.args in
      let changed = changed-front a.moves.now a.place a.beside.now _ c.requires.moves_nonzero c.requires.moves_len_bound c.requires.place_in_bounds refl c.put_changed.ensures.left in
      c.cover.ensures.value ∙ ap (λ (rows : List Rows). Moves-cover rows a.b a.depth) changed.0;
}
