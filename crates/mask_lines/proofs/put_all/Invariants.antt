-- `put_all` puts them one by one. The invariant: what is left from the k-th on, put from `end` on, makes the whole.
use mathlib.Core.List.{map}
use lib.ListN.{drop}
use Rattle.answer_values.proofs.Lines.{Left}
use Rattle.mask_lines.specs.Masks.{mask_text}
use Rattle.mask_lines.proofs.put_all.Given as goal

abbrev pub invariant-loop-mask : goal.invariant-loop-mask
invariant-loop-mask l = Left (map mask_text (drop l.mask-index l.masks)) (map mask_text l.masks) l.initial.out l.out l.at l.end
