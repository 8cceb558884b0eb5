-- `put_changed` meets its contract: nothing is put (`changed-none`), or the moves are copied and those beside the place put over (`changed-left`).
use Prim.Native.Nat.{◌-◌}
use mathlib.Core.Path.{ap, ◌∙◌}
use mathlib.Core.List.{List}
use lib.ListN.{length}
use lib.Seq.{sets}
use Rattle.trial_blocks.specs.Blocks.{Block, beside_blocks}
use Rattle.trial_blocks.proofs.Blocks.{test-passed, changed-none, changed-left}
use Rattle.trial_blocks.proofs.put_changed.Goals as goal

pub returns-then-n-place : goal.returns-then-n-place
returns-then-n-place c = record { left = let a = c.args in changed-none a.moves.now a.place a.beside.now a.blocks.now c.if-n-place.true }

pub copy_moves-requires : goal.copy_moves-requires
copy_moves-requires c = (test-passed _ c.args.place c.if-n-place.false).few

pub put_beside-requires : goal.put_beside-requires
put_beside-requires c = let passed = test-passed _ c.args.place c.if-n-place.false in record { n_nonzero = passed.some; n_bound = passed.few; place_le_n = passed.inside }

pub returns : goal.returns
returns c = record {
  left = let a = c.args in
      let copied = c.copy_moves.ensures.left in
      c.put_beside.ensures.left
      ∙ (ap (λ (l : List Block). sets l (a.place - 1) (beside_blocks (length a.moves.now) a.place a.beside.now)) copied
      ∙ changed-left a.moves.now a.place a.beside.now a.blocks.now c.if-n-place.false);
}
