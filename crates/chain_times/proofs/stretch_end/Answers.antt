-- `stretch_end` meets its contract: the times counted from a place on.
use Prim.Native.Nat.{◌+◌, ◌-◌}
use mathlib.Core.Path.{◌≡◌, ap, ◌∙◌}
use native.Mathlib.Omega.{arith}
use borrow.Author.Rules.{rules}
use borrow.Author.Tests.{tests}
use lib.ListN.{length, take, drop, length-drop}
use lib.Ieee.{le}
use Rattle.std.proofs.lemmas.Iterator.{YieldsList-from_slice}
use Rattle.std.proofs.lemmas.Iterator.Consumers.{count_from_yields_List}
use Rattle.std.proofs.lemmas.Iterator.Search.{YieldsList-from_take_while}
use Rattle.std.proofs.lemmas.List.Folds.{length-prefix_len}
use Rattle.time_list.specs.motion_chain.Stretches.{count_up_to}
use Rattle.chain_times.proofs.Ends.{rest-all, counted, counted-most}
use Rattle.chain_times.proofs.stretch_end.Goals as goal

pub returns : goal.returns
returns c =
    let a = c.args in
    let part = take (length a.times.now - a.from) (drop a.from a.times.now) in
    let count : c.count.result ≡ count_up_to a.end (drop a.from a.times.now) =
    count_from_yields_List c.take_while.result _ c.count.ensures.ran (YieldsList-from_take_while _ (λ t. le t a.end) (YieldsList-from_slice part cc) c.take_while.ensures.closure c.take_while.ensures.done (λ x b q k. search (rules, tests)))
    ∙ length-prefix_len (λ t. le t a.end) part
    ∙ counted a.end part
    ∙ ap (count_up_to a.end) (rest-all a.times.now a.from) in
    let most = counted-most a.end (drop a.from a.times.now) in
    let size = length-drop a.from a.times.now in
    record { value = ap (λ n. a.from + n) count; below = omega (arith, count, most, size, c.requires); above = omega arith }
