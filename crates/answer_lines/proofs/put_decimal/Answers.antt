-- `put_decimal` puts a space and the digits.
use mathlib.Core.List.{[], ◌∷◌}
use Rattle.answer_lines.proofs.Pieces.{PutsAll, all_none, all_cons}
use Rattle.motion_text.specs.motion_file.Text.{space}
use Rattle.answer_lines.specs.Pieces.{decimal, whole_pieces}
use Rattle.answer_lines.proofs.put_decimal.Goals as goal

pub returns : goal.returns
returns c =
    let a = c.args in
    let all : PutsAll (whole_pieces a.n) a.out.now a.at c.put_digits.new.out c.put_digits.result =
    all_cons (space ∷ []) (decimal a.n ∷ []) a.out.now _ _ a.at _ _ (c.put_text-start.ensures.value, c.put_text-start.ensures.left)
    (all_cons (decimal a.n) [] _ _ _ _ _ _ (c.put_digits.ensures.value, c.put_digits.ensures.left) (all_none _ _)) in
    record { value = all.0; left = all.1 }
