-- One cosine, in the middle: where it is above w the middle is the lower end and its cosine is carried (`halve-upper`),
-- otherwise the upper end (`halve-lower`).
use Rattle.arc_cosine.proofs.Halving.{halve-upper, halve-lower}
use Rattle.arc_cosine.proofs.halve.Goals as goal

pub returns-then-cosine-w : goal.returns-then-cosine-w
returns-then-cosine-w c = let r = c.counted_cos-cosine in record { value = halve-upper c.args.w c.args.b r.result r.ensures.value c.if-cosine-w.true; carried = r.ensures.value; counted = r.ensures.counted }

pub returns : goal.returns
returns c = let r = c.counted_cos-cosine in record { value = halve-lower c.args.w c.args.b r.result r.ensures.value c.if-cosine-w.false; carried = c.requires.carried; counted = r.ensures.counted }
