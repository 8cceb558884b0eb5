-- The sine and the cosine of an interval of angles are interval extensions, and inclusion isotone: `sin-extends`, `cos-extends`, `sin-isotone`, `cos-isotone`.
-- Rests on the laws of `trig`, which has both for two ends.
use lib.Ieee.{Float, binary32, of_bits, le}
use lib.Ieee.Fits.{and_i, and_l, and_r}
use Rattle.float32.specs.rounding.Order.{◌≼◌}
use Rattle.float32.proofs.rounding.Order.{≼_trans}
use Rattle.trig.specs.SinCos.{sin, cos}
use Rattle.trig.specs.Range.{Angle, full_turn_float}
use Rattle.trig.proofs.Range
use Rattle.interval.specs.declared.Interval.{Interval}
use Rattle.interval.specs.Contains.{Contains, Subset}
use Rattle.interval.specs.Enclosure.{Interval-sin_enclosure, Interval-cos_enclosure, Judged-judge, Judged-sin_enclosure, Judged-cos_enclosure}
use Rattle.interval.specs.Extension.{Extends₁, Isotone₁, Angles}
use Rattle.interval.proofs.Contains.{own-low}
use Rattle.interval.proofs.Refusal.{judge-encloses, judge-narrower}

-- ---- both ends of an interval of angles that contains something are angles
record AngleEnds (X : Interval) : Type 0 where
  low : Angle X.low
  high : Angle X.high

angle-ends : {X : Interval} → Angles X → X.low ≼ X.high → AngleEnds X
angle-ends {X} d h =
    let l : of_bits binary32 0 ≼ X.low = record { holds = and_l (le (of_bits binary32 0) X.low) (le X.high full_turn_float) d } in
    let r : X.high ≼ full_turn_float = record { holds = and_r (le (of_bits binary32 0) X.low) (le X.high full_turn_float) d } in
    record { low = record { from_zero = l; to-full-turn = ≼_trans h r }; high = record { from_zero = ≼_trans l h; to-full-turn = r } }

module _ {X : Interval} {x : Float} (d : Angles X) (i : Contains X x) where
  ends : AngleEnds X
  ends = angle-ends d (≼_trans i.low i.high)

  pub sin-contains : Contains (Interval-sin_enclosure X) (sin x)
  unfolding Interval-sin_enclosure
  sin-contains = let b = Range.sin-extends ends.low ends.high i.low i.high in record { low = b.below; high = b.above }

  pub cos-contains : Contains (Interval-cos_enclosure X) (cos x)
  unfolding Interval-cos_enclosure
  cos-contains = let b = Range.cos-extends ends.low ends.high i.low i.high in record { low = b.below; high = b.above }

pub sin-extends : Extends₁ Angles sin Judged-sin_enclosure
unfolding Judged-sin_enclosure Judged-judge
sin-extends = record { extends = λ m d i h. judge-encloses m (sin-contains d i.contains) h }

pub cos-extends : Extends₁ Angles cos Judged-cos_enclosure
unfolding Judged-cos_enclosure Judged-judge
cos-extends = record { extends = λ m d i h. judge-encloses m (cos-contains d i.contains) h }

-- ---- narrower intervals of angles
module _ {X X' : Interval} (d : Angles X') (s : Subset X X') where
  wider : AngleEnds X'
  wider = angle-ends d (≼_trans s.low (≼_trans s.proper s.high))

  narrower : Angles X
  narrower =
      and_i (le (of_bits binary32 0) X.low) (le X.high full_turn_float)
      (≼_trans wider.low.from_zero s.low).holds (≼_trans s.high wider.high.to-full-turn).holds

  sin-subset : Subset (Interval-sin_enclosure X) (Interval-sin_enclosure X')
  unfolding Interval-sin_enclosure
  sin-subset =
      let r = Range.sin-isotone wider.low wider.high s.low s.proper s.high in
      let i = sin-contains narrower (own-low s) in
      record { low = r.0; proper = ≼_trans i.low i.high; high = r.1 }

  cos-subset : Subset (Interval-cos_enclosure X) (Interval-cos_enclosure X')
  unfolding Interval-cos_enclosure
  cos-subset =
      let r = Range.cos-isotone wider.low wider.high s.low s.proper s.high in
      let i = cos-contains narrower (own-low s) in
      record { low = r.0; proper = ≼_trans i.low i.high; high = r.1 }

pub sin-isotone : Isotone₁ Angles Judged-sin_enclosure
unfolding Judged-sin_enclosure
sin-isotone = record { isotone = λ m m' d r z h. judge-narrower m m' (sin-subset d r.subset) z h }

pub cos-isotone : Isotone₁ Angles Judged-cos_enclosure
unfolding Judged-cos_enclosure
cos-isotone = record { isotone = λ m m' d r z h. judge-narrower m m' (cos-subset d r.subset) z h }
