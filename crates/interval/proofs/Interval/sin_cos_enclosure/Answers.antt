-- `Interval::sin_cos_enclosure` meets its contract: what is known of the ends says it (`ends-cos`, `ends-sin`), up to the first that is refused.
use Rattle.refusal.proofs.Outcome.{handed-on}
use Rattle.interval.specs.Enclosure.{Judged-sin_enclosure, Judged-cos_enclosure}
use Rattle.interval.proofs.Ends.{ends-cos, ends-sin}
use Rattle.interval.proofs.Interval.sin_cos_enclosure.Goals as goal

pub returns-in_err-cos : goal.returns-in_err-cos
unfolding Judged-cos_enclosure
returns-in_err-cos c = record {
  value = let e = c.sin_cos_pair-ends.ensures.value in
      let from = c.from_sin_cos-from.ensures.value in
      let to = c.from_sin_cos-to.ensures.value in
      let cosine = ends-cos c.args.self _ _ from to e.0 e.1 e.2 e.3 c.cos_range.ensures.value in
      rw (handed-on _ _ c.from_residual.ensures, ← cosine, ← c.in_err-cos.ensures.value);
}

pub returns-in_err-sin : goal.returns-in_err-sin
unfolding Judged-sin_enclosure Judged-cos_enclosure
returns-in_err-sin c = record {
  value = let e = c.sin_cos_pair-ends.ensures.value in
      let from = c.from_sin_cos-from.ensures.value in
      let to = c.from_sin_cos-to.ensures.value in
      let cosine = ends-cos c.args.self _ _ from to e.0 e.1 e.2 e.3 c.cos_range.ensures.value in
      let sine = ends-sin c.args.self _ _ from to e.0 e.1 e.2 e.3 c.sin_range.ensures.value in
      rw (handed-on _ _ c.from_residual-in_err-sin.ensures, ← cosine, ← c.in_ok-cos.ensures.value, ← sine, ← c.in_err-sin.ensures.value);
}

pub returns : goal.returns
unfolding Judged-sin_enclosure Judged-cos_enclosure
returns c = record {
  value = let e = c.sin_cos_pair-ends.ensures.value in
      let from = c.from_sin_cos-from.ensures.value in
      let to = c.from_sin_cos-to.ensures.value in
      let cosine = ends-cos c.args.self _ _ from to e.0 e.1 e.2 e.3 c.cos_range.ensures.value in
      let sine = ends-sin c.args.self _ _ from to e.0 e.1 e.2 e.3 c.sin_range.ensures.value in
      rw (← cosine, ← c.in_ok-cos.ensures.value, ← sine, ← c.in_ok-sin.ensures.value);
}
