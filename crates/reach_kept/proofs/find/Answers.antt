-- `find` meets its contract. The invariant: the windows before k are asked, none of them refused, and the masks are theirs.
use Prim.Native.Nat.{◌<◌}
use mathlib.Core.Path.{refl}
use native.Mathlib.Omega.{arith}
use lib.ListN.{length, length-map}
use mathlib.Core.List.{map}
use Rattle.bounds_query.specs.bounds3.List.{Bounds3f-of_list}
use Rattle.reach_kept.proofs.Finding.{finding-first, finding-few, finding-below, finding-refused, finding-next, finding-last}
use Rattle.reach_kept.proofs.find.Goals as goal

pub loop-i-init : goal.loop-i-init
loop-i-init c =
    let a = c.args in
    let few = c.requires.rows_len_bound in
    let size = length-map a.rows.now Bounds3f-of_list in
    finding-first _ _ _ _ _ (omega (arith, few, size))

pub overflow_sub-w : goal.overflow_sub-w
overflow_sub-w c = omega (arith, c.loop-i.auto.i)

pub returns-then-refusal-ne0 : goal.returns-then-refusal-ne0
returns-then-refusal-ne0 c = record {
  found = let a = c.args in
      let bs = map Bounds3f-of_list a.boxes.now in
      let rs = map Bounds3f-of_list a.rows.now in
      let l = c.loop-i in
      let t = c.loop-i-test.true in
      finding-refused a.moves.now bs a.depth a.ticks.now rs l.invariant t refl c.name_rows-named.ensures.refusal c.if-refusal-ne0.true;
}

pub add_window-next-requires : goal.add_window-next-requires
add_window-next-requires c = let a = c.args in let bs = map Bounds3f-of_list a.boxes.now in let rs = map Bounds3f-of_list a.rows.now in let l = c.loop-i in let t = c.loop-i-test.true in let h : l.i < length a.ticks.now = t in record { k_bound = finding-few a.moves.now bs a.depth a.ticks.now rs l.invariant h refl c.requires.ticks_len_bound; below = finding-below a.moves.now bs a.depth a.ticks.now rs l.invariant h refl }

pub loop-i-preserved : goal.loop-i-preserved
loop-i-preserved c =
    let a = c.args in
    let bs = map Bounds3f-of_list a.boxes.now in
    let rs = map Bounds3f-of_list a.rows.now in
    let l = c.loop-i in
    let t = c.loop-i-test.true in
    finding-next a.moves.now bs a.depth a.ticks.now rs l.invariant t refl c.name_rows-named.ensures.refusal c.if-refusal-ne0.false c.name_rows-named.ensures.names c.add_window-next.ensures.value

pub returns : goal.returns
returns c = record {
  found = let a = c.args in
      let bs = map Bounds3f-of_list a.boxes.now in
      let rs = map Bounds3f-of_list a.rows.now in
      let l = c.loop-i in
      finding-last a.moves.now bs a.depth a.ticks.now rs l.invariant c.loop-i-test.false;
}
