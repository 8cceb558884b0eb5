-- The float of n, negated (`float_negated`) or as it is (`float-kept`).
use mathlib.Core.Path.{ap, ◌∙◌}
use lib.Ieee.{neg}
use Rattle.trig.proofs.Fixed.{float_negated, float-kept}
use Rattle.trig.proofs.units_float.Goals as goal

pub returns-then-negative-n : goal.returns-then-negative-n
returns-then-negative-n c = record { value = ap neg c.from_units-x.ensures.value ∙ float_negated c.args.negative c.args.n c.if-negative-n.true }

pub returns : goal.returns
returns c = record { value = c.from_units-x.ensures.value ∙ float-kept c.args.negative c.args.n c.if-negative-n.false }
