-- `largest` meets its contract: each branch is its case of the definition.
use Prim.Native.Nat.{ℕ}
use mathlib.Core.Path.{sym, ap, ◌∙◌}
use mathlib.Core.Bool.{Bool, cond}
use lib.Ieee.{lt}
use Rattle.transform.specs.matrix4x4.Rows.{Rows, at}
use Rattle.matrix_quaternion.specs.FromMatrix.{largest}
use borrow.Author.Rules.{rules}
use Rattle.matrix_quaternion.proofs.largest.Goals as goal

-- by the answers of the two tests
abbrev first : Rows → Bool → ℕ
first m b = let i : ℕ = cond b 1 0 in cond (lt (at m i i) (at m 2 2)) 2 i

abbrev second : ℕ → Bool → ℕ
second i b = cond b 2 i

pub returns-then-m2-m1 : goal.returns-then-m2-m1
unfolding largest
returns-then-m2-m1 c = record { value = sym (ap (first c.args.m) c.if-m1-m0.true ∙ ap (second 1) c.if-m2-m1.true); axis = search rules }

pub returns-else-m2-m1 : goal.returns-else-m2-m1
unfolding largest
returns-else-m2-m1 c = record { value = sym (ap (first c.args.m) c.if-m1-m0.true ∙ ap (second 1) c.if-m2-m1.false); axis = search rules }

pub returns-then-m2-m0 : goal.returns-then-m2-m0
unfolding largest
returns-then-m2-m0 c = record { value = sym (ap (first c.args.m) c.if-m1-m0.false ∙ ap (second 0) c.if-m2-m0.true); axis = search rules }

pub returns-else-m2-m0 : goal.returns-else-m2-m0
unfolding largest
returns-else-m2-m0 c = record { value = sym (ap (first c.args.m) c.if-m1-m0.false ∙ ap (second 0) c.if-m2-m0.false); axis = search rules }
