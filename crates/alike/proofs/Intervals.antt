-- The operations of the cover on alike intervals give alike intervals: `add-alike` and its like, for finite ends, and positive ones where they are
-- divided by or rooted.
use lib.Ieee.{Float, of_bits}
use lib.Ieee.Scale.{finite}
use lib.Ieee.Positive.{positive}
use Rattle.interval_unjudged.proofs.square_root.Monotone.{positive-above-zero}
use Rattle.interval_unjudged.specs.interval.declared.Interval.{Interval}
use Rattle.interval_unjudged.specs.interval.Contains.{Finite}
use Rattle.interval_unjudged.specs.interval.Interval.{Interval-new, Interval-point, Interval-hull, Interval-of_four}
use Rattle.interval_unjudged.specs.interval.Enclosure.{Interval-add_enclosure, Interval-sub_enclosure, Interval-mul_enclosure, Interval-div_enclosure, Interval-sqrt_enclosure}
use Rattle.interval_unjudged.specs.means.Unjudged.{Positive}
use Rattle.own_rounding.specs.means.Alike.{Alike}
use Rattle.alike.specs.means.Alike.{Interval-Alike}
use Rattle.own_rounding.proofs.OwnRounding.{alike-trans}
use Rattle.alike.proofs.Equivalence.{alike_self, alike-sym, alike-finite, alike-positive}
use Rattle.alike.proofs.Compare.{min-alike, max-alike}
use Rattle.alike.proofs.Arithmetic as float

-- ---- an equivalence of finite intervals
pub interval-self : (X : Interval) → Finite X → Interval-Alike X X
interval-self X f = record { low = alike_self X.low f.low; high = alike_self X.high f.high }

pub interval-sym : {X Y : Interval} → Interval-Alike X Y → Interval-Alike Y X
interval-sym a = record { low = alike-sym a.low; high = alike-sym a.high }

pub interval-trans : {X Y Z : Interval} → Interval-Alike X Y → Interval-Alike Y Z → Interval-Alike X Z
interval-trans a b = record { low = alike-trans a.low b.low; high = alike-trans a.high b.high }

pub interval-finite : {X Y : Interval} → Finite X → Interval-Alike X Y → Finite Y
interval-finite f a = record { low = alike-finite f.low a.low; high = alike-finite f.high a.high }

pub interval-positive : {X Y : Interval} → Positive X → Interval-Alike X Y → Positive Y
interval-positive p a = record { low = alike-positive p.low a.low; high = alike-positive p.high a.high }

pub point-alike : {x y : Float} → Alike x y → Interval-Alike (Interval-point x) (Interval-point y)
point-alike a = record { low = a; high = a }

-- ---- from the least to the greatest
new-alike : {a a' b b' : Float} → Alike a a' → Alike b b' → Interval-Alike (Interval-new a b) (Interval-new a' b')
unfolding Interval-new
new-alike p q = record { low = min-alike p q; high = max-alike p q }

hull-alike : {X X' Y Y' : Interval} → Interval-Alike X X' → Interval-Alike Y Y' → Interval-Alike (Interval-hull X Y) (Interval-hull X' Y')
unfolding Interval-hull
hull-alike p q = record { low = min-alike p.low q.low; high = max-alike p.high q.high }

module _ {a a' b b' c c' d d' : Float} (p : Alike a a') (q : Alike b b') (r : Alike c c') (s : Alike d d') where
  four-alike : Interval-Alike (Interval-of_four a b c d) (Interval-of_four a' b' c' d')
  unfolding Interval-of_four
  four-alike = hull-alike (new-alike p q) (new-alike r s)

-- ---- the operations
module _ {X X' Y Y' : Interval} (f : Finite X) (g : Finite Y) (a : Interval-Alike X X') (b : Interval-Alike Y Y') where
  pub add-alike : Interval-Alike (Interval-add_enclosure X Y) (Interval-add_enclosure X' Y')
  unfolding Interval-add_enclosure
  add-alike = record { low = float.add-alike f.low g.low a.low b.low; high = float.add-alike f.high g.high a.high b.high }

  pub sub_alike : Interval-Alike (Interval-sub_enclosure X Y) (Interval-sub_enclosure X' Y')
  unfolding Interval-sub_enclosure
  sub_alike = record { low = float.sub_alike f.low g.high a.low b.high; high = float.sub_alike f.high g.low a.high b.low }

  pub mul-alike : Interval-Alike (Interval-mul_enclosure X Y) (Interval-mul_enclosure X' Y')
  unfolding Interval-mul_enclosure
  mul-alike =
      four-alike
      (float.mul-alike f.low g.low a.low b.low) (float.mul-alike f.high g.low a.high b.low)
      (float.mul-alike f.low g.high a.low b.high) (float.mul-alike f.high g.high a.high b.high)

module _ {X X' Y Y' : Interval} (f : Finite X) (p : Positive Y) (a : Interval-Alike X X') (b : Interval-Alike Y Y') where
  pub div-alike : Interval-Alike (Interval-div_enclosure X Y) (Interval-div_enclosure X' Y')
  unfolding Interval-div_enclosure
  div-alike =
      four-alike
      (float.div-alike f.low p.low a.low b.low) (float.div-alike f.high p.low a.high b.low)
      (float.div-alike f.low p.high a.low b.high) (float.div-alike f.high p.high a.high b.high)

pub sqrt-alike : {X Y : Interval} → Positive X → Interval-Alike X Y → Interval-Alike (Interval-sqrt_enclosure X) (Interval-sqrt_enclosure Y)
unfolding Interval-sqrt_enclosure of_bits
sqrt-alike {X} p a = record {
  low = float.sqrt-alike (positive-above-zero X.low p.low) a.low;
  high = float.sqrt-alike (positive-above-zero X.high p.high) a.high;
}
