-- `EndAngle::new` meets its contract: the sine and the cosine that are handed on are the angle's own (`from-sin-cos`).
use Rattle.interval.proofs.Places.{from-sin-cos}
use Rattle.interval.proofs.EndAngle.new.Goals as goal

pub returns : goal.returns
returns c = record {
  value = let s = c.sin_cos in
      from-sin-cos c.args.a s.result c.from_sin_cos.ensures.value s.ensures.value.0 s.ensures.value.1;
}
