-- `put_all` puts them one by one. The invariant: what is left from the k-th on, put from `end` on, makes the whole.
use mathlib.Core.Path.{refl, sym, ◌∙◌}
use native.Mathlib.Omega.{arith}
use Rattle.mask_lines.proofs.Text.{masks-turn, masks-end}
use Rattle.mask_lines.proofs.put_all.Goals as goal

pub loop-mask-init : goal.loop-mask-init
loop-mask-init c = (refl, refl)

pub loop-mask-preserved : goal.loop-mask-preserved
loop-mask-preserved c =
    let l = c.loop-mask in
    let turn = masks-turn c.args.masks.now l.mask-index l.out _ l.end _ (omega arith) (rw c.mask_text-text.ensures.value at c.put_text-end.ensures.value, rw c.mask_text-text.ensures.value at c.put_text-end.ensures.left) in
    (turn.0 ∙ l.invariant.0, turn.1 ∙ l.invariant.1)

pub returns : goal.returns
returns c = let l = c.loop-mask in let end = masks-end c.args.masks.now l.mask-index l.out l.end (omega arith) in record { value = sym end.0 ∙ l.invariant.0; left = sym end.1 ∙ l.invariant.1 }
