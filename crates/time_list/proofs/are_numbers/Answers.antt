-- `are_numbers` meets its contract: what `all` tells of the list (`numbers`).
use mathlib.Core.Path.{◌∙◌}
use mathlib.Core.Bool.{not}
use lib.Ieee.{is_nan}
use borrow.Author.Rules.{rules}
use borrow.Author.Tests.{tests}
use Rattle.std.proofs.lemmas.Iterator.{YieldsList-from_slice}
use Rattle.std.proofs.lemmas.Iterator.Search.{all_from_yields_List}
use Rattle.time_list.proofs.Loops.{numbers}
use Rattle.time_list.proofs.are_numbers.Goals as goal

pub returns : goal.returns
returns c = record {
  value =
      all_from_yields_List (λ t. not (is_nan t)) _ _ _ c.all.ensures.ran (YieldsList-from_slice c.args.times.now cc) (λ x b q k. search (rules, tests))
      ∙ numbers c.args.times.now;
}
