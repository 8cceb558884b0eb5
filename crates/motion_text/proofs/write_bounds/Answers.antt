-- `write_bounds` writes `bounds_text` in two pieces, the names and the values (`wrote-two`).
use Prim.Native.Nat.{◌*◌}
use native.Mathlib.Omega.{arith}
use mathlib.Core.Path.{◌≡◌, refl, sym}
use lib.ListN.{length}
use borrow.Author.Rules.{rules}
use Rattle.motion_file.specs.Text.{ascii}
use Rattle.motion_text.specs.Answer.{bounds_text}
use Rattle.motion_text.proofs.Pastes.{wrote_none, wrote-two}
use Rattle.motion_text.proofs.Written.{values_line, length-values, length-bounds}
use Rattle.motion_text.proofs.write_bounds.Goals as goal

pub returns-then-out-lt72 : goal.returns-then-out-lt72
returns-then-out-lt72 c = let a = c.args in let six : length a.bounds ≡ 6 = search rules in let all = wrote_none (bounds_text a.bounds) a.out.now (omega (arith, length-bounds a.bounds six)) in record { value = all.0; text = all.1.0; counts = all.1.1 }

pub returns : goal.returns
unfolding bounds_text ascii
returns c = let a = c.args in let six : length a.bounds ≡ 6 = search rules in let all = wrote-two (ascii "x0 y0 z0 x1 y1 z1\n") (values_line a.bounds) a.out.now _ _ 18
    (9 * length a.bounds) 72 refl (sym (length-values a.bounds)) (omega arith) (omega arith)
    c.put.ensures
    c.put_values.ensures in record { value = all.0; text = all.1.0; counts = all.1.1 }
