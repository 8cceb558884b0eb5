-- `translated` meets its contract: its columns, row by row, are the product's rows (`translated-rows`).
use Rattle.pose_product.proofs.Unjudged.{translated-rows}
use Rattle.pose_product.proofs.translated.Goals as goal

pub returns : goal.returns
returns c = record {
  value = translated-rows c.args.v c.args.b
      c.times-by_zero.ensures.value
      c.times-by_one.ensures.value
      c.translated_column-e0.ensures.value
      c.translated_column-e1.ensures.value
      c.translated_column-e2.ensures.value
      c.translated_column-e3.ensures.value;
}
