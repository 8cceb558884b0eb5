-- `reach` meets its contract: its tests in order, then the windows, then the masks in their places.
use Prim.Native.Nat.{ℕ, ◌+◌, ◌-◌, ◌≤◌, ◌<◌}
use mathlib.Core.Path.{◌≡◌, refl, sym, ap, ◌∙◌}
use native.Mathlib.Omega.{arith}
use borrow.Author.Rules.{rules}
use lib.ListN.{length}
use mathlib.Core.List.{map}
use lib.ListN.{length-map}
use Rattle.bounds_query.specs.bounds3.List.{Bounds3f-of_list}
use Rattle.reach_kept.proofs.Judged.{Passed, passed}
use Rattle.reach_kept.proofs.Kept.{no-moves, arguments-refused, rows_few, windows-refused, reach-done}
use borrow.Author.Rules.{rules}
use Rattle.reach_kept.proofs.reach.Goals as goal

pub returns-then-moves-eq0 : goal.returns-then-moves-eq0
returns-then-moves-eq0 c = let a = c.args in let bs = map Bounds3f-of_list a.boxes.now in let rs = map Bounds3f-of_list a.rows.now in let all = no-moves a.moves.now bs a.depth a.ticks.now rs a.masks.now c.if-moves-eq0.true in record { refusal = all.0; left = all.1.0; dry = all.1.1.0; dry_always = all.1.1.1.0; finer = all.1.1.1.1.0; covered = all.1.1.1.1.1 }

pub returns-then-number-ne0 : goal.returns-then-number-ne0
returns-then-number-ne0 c = let a = c.args in let bs = map Bounds3f-of_list a.boxes.now in let rs = map Bounds3f-of_list a.rows.now in let all = arguments-refused a.moves.now bs a.depth a.ticks.now rs a.masks.now c.if-moves-eq0.false c.refusal-number.ensures.value c.if-number-ne0.true in record { refusal = all.0; left = all.1.0; dry = all.1.1.0; dry_always = all.1.1.1.0; finer = all.1.1.1.1.0; covered = all.1.1.1.1.1 }

pub find-found-requires : goal.find-found-requires
find-found-requires c = let a = c.args in let bs = map Bounds3f-of_list a.boxes.now in let rs = map Bounds3f-of_list a.rows.now in let p = passed bs a.depth a.ticks.now rs (sym c.refusal-number.ensures.value ∙ c.if-number-ne0.false) in let size = length-map a.rows.now Bounds3f-of_list in let few = p.few-rows in record { ticks_len_bound = p.few-ticks; rows_len_bound = omega (arith, size, few) }

pub returns-then-met-ne0 : goal.returns-then-met-ne0
returns-then-met-ne0 c = let a = c.args in let bs = map Bounds3f-of_list a.boxes.now in let rs = map Bounds3f-of_list a.rows.now in let all = windows-refused a.moves.now bs a.depth a.ticks.now rs a.masks.now c.if-moves-eq0.false (sym c.refusal-number.ensures.value ∙ c.if-number-ne0.false) c.find-found.ensures.found c.if-met-ne0.true in record { refusal = all.0; left = all.1.0; dry = all.1.1.0; dry_always = all.1.1.1.0; finer = all.1.1.1.1.0; covered = all.1.1.1.1.1 }

pub put_masks-new-requires : goal.put_masks-new-requires
put_masks-new-requires c =
    let a = c.args in
    let bs = map Bounds3f-of_list a.boxes.now in
    let rs = map Bounds3f-of_list a.rows.now in
    let few = rows_few a.moves.now bs a.depth a.ticks.now rs a.masks.now c.if-moves-eq0.false (sym c.refusal-number.ensures.value ∙ c.if-number-ne0.false) c.find-found.ensures.found in
    let size = length-map a.rows.now Bounds3f-of_list in
    omega (arith, few, size)

pub returns : goal.returns
returns c = let a = c.args in let bs = map Bounds3f-of_list a.boxes.now in let rs = map Bounds3f-of_list a.rows.now in let all = reach-done a.moves.now bs a.depth a.ticks.now rs a.masks.now c.if-moves-eq0.false (sym c.refusal-number.ensures.value ∙ c.if-number-ne0.false) c.find-found.ensures.found c.if-met-ne0.false
    (sym (length-map a.rows.now Bounds3f-of_list)) c.put_masks-new.ensures.length c.put_masks-new.ensures.left in record { refusal = all.0; left = all.1.0; dry = all.1.1.0; dry_always = all.1.1.1.0; finer = all.1.1.1.1.0; covered = all.1.1.1.1.1 }
