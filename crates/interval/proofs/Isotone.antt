-- Each operation of the cover is inclusion isotone: `add-isotone`, `sub-isotone`, `mul-isotone`, `div-isotone`, `sqrt-isotone`.
-- The ends of the narrower result are values at points of the wider operands, so that this follows from the extension laws.
use Rattle.std.proofs.Common.{T}
use lib.Ieee.{Float}
use lib.Ieee.Scale.{finite}
use lib.Ieee.Positive.{positive}
use Rattle.refusal.specs.First.{first_refusal}
use Rattle.refusal.proofs.First.{zero-first}
use Rattle.float32.proofs.rounding.Order.{≼_trans, above-positive}
use Rattle.interval.specs.declared.Interval.{Interval}
use Rattle.interval.specs.Contains.{Contains, Subset, Finite, Refines}
use Rattle.interval.specs.Interval.{Interval-of_four}
use Rattle.interval.specs.Enclosure.{Interval-add_enclosure, Interval-sub_enclosure, Interval-mul_enclosure, Interval-div_enclosure, Interval-sqrt_enclosure}
use Rattle.interval.specs.Enclosure.{Judged-add_enclosure, Judged-sub_enclosure, Judged-mul_enclosure, Judged-div_enclosure, Judged-sqrt_enclosure}
use Rattle.interval.specs.Extension.{Isotone₁, Isotone₂, Everywhere}
use Rattle.interval.proofs.Contains.{subset-low, subset-high, subset-finite, own-low, new-subset, hull-subset}
use Rattle.interval.proofs.Refusal.{positive-accepted, judge-narrower, judged-positive}
use Rattle.interval.proofs.Extends.{add-contains, sub-contains, mul-contains, div-contains, sqrt-contains}

pub of-four-subset : {Z : Interval} {a b c d : Float} → Contains Z a → Contains Z b → Contains Z c → Contains Z d → Subset (Interval-of_four a b c d) Z
unfolding Interval-of_four
of-four-subset i j k l = hull-subset (new-subset i j) (new-subset k l)

-- A result lies in the wider one where both its ends do, and it contains something.
between-subset : {Z Z' : Interval} {z : Float} → Contains Z' Z.low → Contains Z' Z.high → Contains Z z → Subset Z Z'
between-subset i j k = record { low = i.low; proper = ≼_trans k.low k.high; high = j.high }

module _ {X X' Y Y' : Interval} (f : Finite X') (g : Finite Y') (s : Subset X X') (t : Subset Y Y') where
  add-subset : Subset (Interval-add_enclosure X Y) (Interval-add_enclosure X' Y')
  unfolding Interval-add_enclosure
  add-subset =
      between-subset {Z = Interval-add_enclosure X Y} (add-contains f g (subset-low s) (subset-low t)) (add-contains f g (subset-high s) (subset-high t))
      (add-contains (subset-finite f s) (subset-finite g t) (own-low s) (own-low t))

  sub-subset : Subset (Interval-sub_enclosure X Y) (Interval-sub_enclosure X' Y')
  unfolding Interval-sub_enclosure
  sub-subset =
      between-subset {Z = Interval-sub_enclosure X Y} (sub-contains f g (subset-low s) (subset-high t)) (sub-contains f g (subset-high s) (subset-low t))
      (sub-contains (subset-finite f s) (subset-finite g t) (own-low s) (own-low t))

  mul-subset : Subset (Interval-mul_enclosure X Y) (Interval-mul_enclosure X' Y')
  unfolding Interval-mul_enclosure
  mul-subset =
      of-four-subset
      (mul-contains f g (subset-low s) (subset-low t))
      (mul-contains f g (subset-high s) (subset-low t))
      (mul-contains f g (subset-low s) (subset-high t))
      (mul-contains f g (subset-high s) (subset-high t))

  div-subset : T (positive Y'.low) → Subset (Interval-div_enclosure X Y) (Interval-div_enclosure X' Y')
  unfolding Interval-div_enclosure
  div-subset P =
      of-four-subset
      (div-contains f g (subset-low s) (subset-low t) P)
      (div-contains f g (subset-high s) (subset-low t) P)
      (div-contains f g (subset-low s) (subset-high t) P)
      (div-contains f g (subset-high s) (subset-high t) P)

sqrt-subset : {X X' : Interval} → T (positive X.low) → T (positive X'.low) → Subset X X' → Subset (Interval-sqrt_enclosure X) (Interval-sqrt_enclosure X')
unfolding Interval-sqrt_enclosure
sqrt-subset {X} P P' s =
    between-subset {Z = Interval-sqrt_enclosure X} (sqrt-contains P' (subset-low s)) (sqrt-contains P' (subset-high s)) (sqrt-contains P (own-low s))

-- What lies in an interval with a positive low end has one too.
positive-subset : {X X' : Interval} → Refines X X' → T (positive X'.low) → T (positive X.low)
positive-subset r P = above-positive P (subset-finite r.finite r.subset).low r.subset.low

pub add-isotone : Isotone₂ Judged-add_enclosure
unfolding Judged-add_enclosure
add-isotone = record { isotone = λ m m' r q z h. judge-narrower m m' (add-subset r.finite q.finite r.subset q.subset) z h }

pub sub-isotone : Isotone₂ Judged-sub_enclosure
unfolding Judged-sub_enclosure
sub-isotone = record { isotone = λ m m' r q z h. judge-narrower m m' (sub-subset r.finite q.finite r.subset q.subset) z h }

pub mul-isotone : Isotone₂ Judged-mul_enclosure
unfolding Judged-mul_enclosure
mul-isotone = record { isotone = λ m m' r q z h. judge-narrower m m' (mul-subset r.finite q.finite r.subset q.subset) z h }

pub div-isotone : Isotone₂ Judged-div_enclosure
unfolding Judged-div_enclosure
div-isotone = record {
  isotone = λ m m' r q z h.
      let P = judged-positive m' _ q.finite h in
      judge-narrower (first_refusal m _) (first_refusal m' _) (div-subset r.finite q.finite r.subset q.subset P)
      (zero-first m _ z (positive-accepted _ (positive-subset q P))) h;
}

pub sqrt-isotone : Isotone₁ Everywhere Judged-sqrt_enclosure
unfolding Judged-sqrt_enclosure
sqrt-isotone = record {
  isotone = λ m m' d r z h.
      let P' = judged-positive m' _ r.finite h in
      let P = positive-subset r P' in
      judge-narrower (first_refusal m _) (first_refusal m' _) (sqrt-subset P P' r.subset) (zero-first m _ z (positive-accepted _ P)) h;
}
