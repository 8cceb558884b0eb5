-- `integer_decode` meets its contract: each return is the float whose bits have the field that was tested for (`Fields`).
use mathlib.Core.Path.{sym, ◌∙◌}
use Rattle.rounding.proofs.Order.{differs-nan}
use Rattle.float_bits.proofs.Fields.{decode-nan, decode-infinite, decode-subnormal, decode-normal}
use Rattle.float_bits.proofs.integer_decode.Goals as goal

pub returns-then-x : goal.returns-then-x
returns-then-x c = record { value = decode-nan c.args.x (sym (differs-nan c.args.x) ∙ c.if-x.true) }

pub float_to_bits-bits : goal.float_to_bits-bits
float_to_bits-bits c = rw (← differs-nan c.args.x, c.if-x.false) tt

pub returns-then-field-eq-INFINITE : goal.returns-then-field-eq-INFINITE
returns-then-field-eq-INFINITE c = record { value = decode-infinite c.args.x c.well_formed.0.1 c.if-x.false c.if-field-eq-INFINITE.true }

pub returns-then-field-eq0 : goal.returns-then-field-eq0
returns-then-field-eq0 c = record { value = decode-subnormal c.args.x c.well_formed.0.1 c.if-x.false c.if-field-eq0.true }

pub returns : goal.returns
returns c = record { value = decode-normal c.args.x c.well_formed.0.1 c.if-x.false c.if-field-eq-INFINITE.false c.if-field-eq0.false }
