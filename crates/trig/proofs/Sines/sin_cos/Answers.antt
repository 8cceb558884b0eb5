-- Over the entries, which are the table's, by `sin-lent` and `cos-lent`.
use Rattle.trig.proofs.OverTable.{sin-lent, cos-lent}
use Rattle.trig.proofs.Sines.sin_cos.Goals as goal

pub returns : goal.returns
returns c = record {
  value = let t = c.self.invariant in
      let s = c.sin_cos_in.ensures.value in
      let a = c.args.a in
      (sin-lent t a s.0, cos-lent t a s.1);
}
