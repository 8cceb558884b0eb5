-- `leading_24_digits` meets its contract: what the rest carries rounds the quotient (`closest-carry`).
use Rattle.float_bits.proofs.Fixed.{closest-carry}
use Rattle.float_bits.proofs.leading_24_digits.Goals as goal

pub returns : goal.returns
returns c = record { value = closest-carry c.args.w }
