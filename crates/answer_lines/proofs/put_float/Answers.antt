-- `put_float` puts a space and then the digits (`put-float`).
use native.Mathlib.Omega.{arith}
use mathlib.Core.Path.{◌∙◌}
use lib.ListN.{length-set}
use Rattle.answer_lines.proofs.Put.{put-float}
use Rattle.answer_lines.proofs.put_float.Goals as goal

pub shape_of-out : goal.shape_of-out
shape_of-out c =
    let a = c.args in omega (arith, length-set a.out.now a.at 32)

pub returns : goal.returns
returns c =
    let a = c.args in
    c.write_word.ensures.value
    ∙ put-float a.x a.out.now a.at _ (omega arith) c.bits_of_float.ensures.value
