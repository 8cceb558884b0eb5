-- `same_bits` compares bits; a float of binary32 is told by them (`bits-clauses`).
use Rattle.pose_bits.proofs.Same.{bits-clauses}
use Rattle.pose_bits.proofs.same_bits.Goals as goal

pub returns : goal.returns
returns c = let all = bits-clauses c.args.x c.args.y c.well_formed.0.1 c.well_formed.1.0.1 c.bits_of_float-a.ensures.value c.bits_of_float-b.ensures.value in record { value = all.0; same = all.1 }
