-- `refusal` meets its contract: each test is the definition's, in order.
use Prim.Native.Nat.{ℕ, ◌+◌, ◌-◌, ◌≤◌, ◌<◌}
use mathlib.Core.Path.{◌≡◌, refl, sym, ap, ◌∙◌}
use native.Mathlib.Omega.{arith}
use borrow.Author.Rules.{rules}
use lib.ListN.{length}
use mathlib.Core.List.{map}
use Rattle.bounds_query.specs.bounds3.List.{Bounds3f-of_list}
use Rattle.reach_kept.proofs.Judged.{counted_same, first-judged, second-judged, third-judged, fourth-judged, fifth-judged, depth-judged, none-judged}
use borrow.Author.Rules.{rules}
use Rattle.reach_kept.proofs.refusal.Goals as goal

pub returns-then-box_count-ne0 : goal.returns-then-box_count-ne0
returns-then-box_count-ne0 c = record {
  value = let a = c.args in
      let bs = map Bounds3f-of_list a.boxes.now in
      let rs = map Bounds3f-of_list a.rows.now in
      first-judged bs a.depth a.ticks.now rs (counted_same 16 a.boxes.now c.count_refusal-box_count.ensures.value) c.if-box_count-ne0.true;
}

pub returns-then-row_count-ne0 : goal.returns-then-row_count-ne0
returns-then-row_count-ne0 c = record {
  value = let a = c.args in
      let bs = map Bounds3f-of_list a.boxes.now in
      let rs = map Bounds3f-of_list a.rows.now in
      let z1 = sym (counted_same 16 a.boxes.now c.count_refusal-box_count.ensures.value) ∙ c.if-box_count-ne0.false in
      second-judged bs a.depth a.ticks.now rs z1 (counted_same 256 a.rows.now c.count_refusal-row_count.ensures.value) c.if-row_count-ne0.true;
}

pub returns-then-order-ne0 : goal.returns-then-order-ne0
returns-then-order-ne0 c = record {
  value = let a = c.args in
      let bs = map Bounds3f-of_list a.boxes.now in
      let rs = map Bounds3f-of_list a.rows.now in
      let z1 = sym (counted_same 16 a.boxes.now c.count_refusal-box_count.ensures.value) ∙ c.if-box_count-ne0.false in
      let z2 = sym (counted_same 256 a.rows.now c.count_refusal-row_count.ensures.value) ∙ c.if-row_count-ne0.false in
      third-judged bs a.depth a.ticks.now rs z1 z2 c.refusal-order.ensures.value c.if-order-ne0.true;
}

pub returns-then-first_box-ne0 : goal.returns-then-first_box-ne0
returns-then-first_box-ne0 c = record {
  value = let a = c.args in
      let bs = map Bounds3f-of_list a.boxes.now in
      let rs = map Bounds3f-of_list a.rows.now in
      let z1 = sym (counted_same 16 a.boxes.now c.count_refusal-box_count.ensures.value) ∙ c.if-box_count-ne0.false in
      let z2 = sym (counted_same 256 a.rows.now c.count_refusal-row_count.ensures.value) ∙ c.if-row_count-ne0.false in
      let z3 = sym c.refusal-order.ensures.value ∙ c.if-order-ne0.false in
      fourth-judged bs a.depth a.ticks.now rs z1 z2 z3 c.first_refusal-first_box.ensures.value c.if-first_box-ne0.true;
}

pub returns-then-first_row-ne0 : goal.returns-then-first_row-ne0
returns-then-first_row-ne0 c = record {
  value = let a = c.args in
      let bs = map Bounds3f-of_list a.boxes.now in
      let rs = map Bounds3f-of_list a.rows.now in
      let z1 = sym (counted_same 16 a.boxes.now c.count_refusal-box_count.ensures.value) ∙ c.if-box_count-ne0.false in
      let z2 = sym (counted_same 256 a.rows.now c.count_refusal-row_count.ensures.value) ∙ c.if-row_count-ne0.false in
      let z3 = sym c.refusal-order.ensures.value ∙ c.if-order-ne0.false in
      let z4 = sym c.first_refusal-first_box.ensures.value ∙ c.if-first_box-ne0.false in
      fifth-judged bs a.depth a.ticks.now rs z1 z2 z3 z4 c.first_refusal-first_row.ensures.value c.if-first_row-ne0.true;
}

pub returns-then-depth-gt-MAX_DEPTH : goal.returns-then-depth-gt-MAX_DEPTH
returns-then-depth-gt-MAX_DEPTH c = record {
  value = let a = c.args in
      let bs = map Bounds3f-of_list a.boxes.now in
      let rs = map Bounds3f-of_list a.rows.now in
      let z1 = sym (counted_same 16 a.boxes.now c.count_refusal-box_count.ensures.value) ∙ c.if-box_count-ne0.false in
      let z2 = sym (counted_same 256 a.rows.now c.count_refusal-row_count.ensures.value) ∙ c.if-row_count-ne0.false in
      let z3 = sym c.refusal-order.ensures.value ∙ c.if-order-ne0.false in
      let z4 = sym c.first_refusal-first_box.ensures.value ∙ c.if-first_box-ne0.false in
      let z5 = sym c.first_refusal-first_row.ensures.value ∙ c.if-first_row-ne0.false in
      depth-judged bs a.depth a.ticks.now rs z1 z2 z3 z4 z5 c.if-depth-gt-MAX_DEPTH.true;
}

pub returns : goal.returns
returns c = record {
  value = let a = c.args in
      let bs = map Bounds3f-of_list a.boxes.now in
      let rs = map Bounds3f-of_list a.rows.now in
      let z1 = sym (counted_same 16 a.boxes.now c.count_refusal-box_count.ensures.value) ∙ c.if-box_count-ne0.false in
      let z2 = sym (counted_same 256 a.rows.now c.count_refusal-row_count.ensures.value) ∙ c.if-row_count-ne0.false in
      let z3 = sym c.refusal-order.ensures.value ∙ c.if-order-ne0.false in
      let z4 = sym c.first_refusal-first_box.ensures.value ∙ c.if-first_box-ne0.false in
      let z5 = sym c.first_refusal-first_row.ensures.value ∙ c.if-first_row-ne0.false in
      none-judged bs a.depth a.ticks.now rs z1 z2 z3 z4 z5 c.if-depth-gt-MAX_DEPTH.false;
}
