-- `cut` meets its contract: its test is the definition's, and the parts are put into places of which there are sixteen.
use mathlib.Core.Path.{◌≡◌, sym, subst, ◌∙◌}
use mathlib.Core.Bool.{Bool, true}
use lib.Dec.{T}
use Rattle.cut_laws.proofs.Parts.{LowFits, parts-counted}
use Rattle.cut_parts.proofs.Tests.{cut-refused, cut-done}
use Rattle.cut_parts.proofs.cut.Goals as goal

holds : {b : Bool} → b ≡ true → T b
holds e = subst T (sym e) tt

pub returns-then-number-ne0 : goal.returns-then-number-ne0
returns-then-number-ne0 c = let a = c.args in let all = cut-refused a.b a.n a.parts.now c.cut_refusal-number.ensures.value c.if-number-ne0.true in record { refusal = all.0; left = all.1.0; parts_within = all.1.1.0; parts_cover = all.1.1.1 }

pub put_parts-new-requires : goal.put_parts-new-requires
put_parts-new-requires c =
    let a = c.args in
    (parts-counted a.b a.n (sym c.cut_refusal-number.ensures.value ∙ c.if-number-ne0.false)).1

pub returns : goal.returns
returns c = let a = c.args in let least = c.well_formed.0.1.1.0.1.1 in let low : LowFits a.b = record { x = holds least.0.1; y = holds least.1.0.1; z = holds least.1.1.0.1 } in let none = sym c.cut_refusal-number.ensures.value ∙ c.if-number-ne0.false in let all = cut-done a.b a.n a.parts.now low none c.put_parts-new.ensures.length c.put_parts-new.ensures.left in record { refusal = all.0; left = all.1.0; parts_within = all.1.1.0; parts_cover = all.1.1.1 }
