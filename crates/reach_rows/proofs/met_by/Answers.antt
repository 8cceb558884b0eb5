-- `met_by` meets its contract: what `any` answers of the boxes' lists is the test of the boxes.
use mathlib.Core.Path.{◌∙◌}
use Rattle.std.proofs.Common.{rules, tests}
use Rattle.std.proofs.lemmas.Iterator.{YieldsList-from_slice}
use Rattle.std.proofs.lemmas.Iterator.Search.{any_from_yields_List}
use Rattle.bounds3.specs.List.{Bounds3f-of_list}
use Rattle.bounds_overlap.specs.Meets.{Bounds3f-meets}
use Rattle.reach_rows.proofs.Named.{any-met}
use Rattle.reach_rows.proofs.met_by.Goals as goal

pub returns : goal.returns
returns c = record {
  value = let a = c.args in
      any_from_yields_List (λ b. Bounds3f-meets (Bounds3f-of_list b) a.row) _ _ _ c.any.ensures.ran (YieldsList-from_slice a.boxes.now cc)
      (λ x b q k. search (rules, tests))
      ∙ any-met a.boxes.now a.row;
}
