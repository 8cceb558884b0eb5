-- `refusal` meets its contract: the first test that fails gives the number.
use mathlib.Core.Path.{sym, ◌∙◌}
use Rattle.run_starts.proofs.Booms.{few-count, refused-count, refused-length, refused-boxes}
use Rattle.run_starts.proofs.refusal.Goals as goal

pub returns-then-count : goal.returns-then-count
returns-then-count c = record {
  value = let a = c.args in
      sym (refused-count a.count a.boxes.now a.lengths.now c.if-count.true);
}

pub has_bad_length-requires : goal.has_bad_length-requires
has_bad_length-requires c = few-count c.args.count c.if-count.false

pub returns-then-has_bad_length : goal.returns-then-has_bad_length
returns-then-has_bad_length c = record {
  value = let a = c.args in
      sym (refused-length a.count a.boxes.now a.lengths.now c.if-count.false (sym c.has_bad_length.ensures.value ∙ c.if-has_bad_length.true));
}

pub boxes_refusal-requires : goal.boxes_refusal-requires
boxes_refusal-requires c =
    few-count c.args.count c.if-count.false

pub returns : goal.returns
returns c = record {
  value = let a = c.args in
      let good = sym c.has_bad_length.ensures.value ∙ c.if-has_bad_length.false in
      c.boxes_refusal.ensures.value ∙ sym (refused-boxes a.count a.boxes.now a.lengths.now c.if-count.false good);
}
