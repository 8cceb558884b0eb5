-- Terms by the constants 0 and 1 may go: of intervals `zero-mul`, `one-mul` and their mirrors, `add_none`, `none-add`, `sub-none` for what is alike to 0.
use lib.Ieee.{Float}
use Rattle.own_rounding.specs.rounding.Order.{◌≼◌}
use Rattle.own_rounding.specs.float32.Operators.{positive_zero, one}
use Rattle.own_rounding.proofs.float32.Constants.{zero-finite, one-finite, zero-refl}
use Rattle.interval_unjudged.specs.interval.declared.Interval.{Interval}
use Rattle.interval_unjudged.specs.interval.Contains.{Finite}
use Rattle.interval_unjudged.specs.interval.Interval.{Interval-point}
use Rattle.interval_unjudged.specs.interval.Enclosure.{Interval-add_enclosure, Interval-sub_enclosure, Interval-mul_enclosure}
use Rattle.own_rounding.specs.means.Alike.{Alike}
use Rattle.alike.specs.means.Alike.{Interval-Alike, Interval-Values, Interval-Proper}
use Rattle.alike.specs.means.Alike.{Interval-new_ordered}
use Rattle.own_rounding.proofs.OwnRounding.{alike-trans}
use Rattle.alike.proofs.Compare.{lesser-alike, greater-alike}
use Rattle.alike.proofs.Neutral as float
use Rattle.alike.proofs.Intervals.{interval-sym, interval-trans, interval-finite, add-alike, sub_alike}
use Rattle.alike.proofs.Constant.{mul-constant-left, mul-constant-right, ordered-alike}

abbrev 𝟎 : Interval
𝟎 = Interval-point positive_zero

abbrev 𝟏 : Interval
𝟏 = Interval-point one

pub zero-interval : Finite 𝟎
zero-interval = record { low = zero-finite; high = zero-finite }

pub one-interval : Finite 𝟏
one-interval = record { low = one-finite; high = one-finite }

-- ---- products
ordered : {a a' b b' : Float} → Alike a a' → Alike b b' → a' ≼ b' → Interval-Alike (Interval-new_ordered a b) (record { low = a'; high = b' })
ordered p q h =
    let o = ordered-alike h in
    record { low = alike-trans (lesser-alike p q) o.low; high = alike-trans (greater-alike p q) o.high }

module _ (X : Interval) (f : Finite X) where
  pub zero-mul : Interval-Alike (Interval-mul_enclosure 𝟎 X) 𝟎
  zero-mul = rw (mul-constant-left positive_zero X zero-finite f) (ordered (float.zero-mul X.low f.low) (float.zero-mul X.high f.high) zero-refl)

  pub mul-zero : Interval-Alike (Interval-mul_enclosure X 𝟎) 𝟎
  mul-zero = rw (mul-constant-right positive_zero X zero-finite f) (ordered (float.mul-zero X.low f.low) (float.mul-zero X.high f.high) zero-refl)

module _ (X : Interval) (p : Interval-Proper X) where
  pub one-mul : Interval-Alike (Interval-mul_enclosure 𝟏 X) X
  one-mul =
      rw (mul-constant-left one X one-finite p.finite)
      (ordered (float.one-mul X.low p.finite.low p.values.low) (float.one-mul X.high p.finite.high p.values.high) p.rises)

  pub mul-one : Interval-Alike (Interval-mul_enclosure X 𝟏) X
  mul-one =
      rw (mul-constant-right one X one-finite p.finite)
      (ordered (float.mul-one X.low p.finite.low p.values.low) (float.mul-one X.high p.finite.high p.values.high) p.rises)

-- ---- sums with what is alike to 0
module _ {A X Z : Interval} (f : Finite A) (v : Interval-Values A) (a : Interval-Alike X A) (z : Interval-Alike Z 𝟎) where
  pub add_none : Interval-Alike (Interval-add_enclosure X Z) A
  add_none = interval-trans (add-alike (interval-finite f (interval-sym a)) (interval-finite zero-interval (interval-sym z)) a z) plain
    where
      plain : Interval-Alike (Interval-add_enclosure A 𝟎) A
      plain = unfold Interval-add_enclosure in record { low = float.add-zero A.low f.low v.low; high = float.add-zero A.high f.high v.high }

  pub none-add : Interval-Alike (Interval-add_enclosure Z X) A
  none-add = interval-trans (add-alike (interval-finite zero-interval (interval-sym z)) (interval-finite f (interval-sym a)) z a) plain
    where
      plain : Interval-Alike (Interval-add_enclosure 𝟎 A) A
      plain = unfold Interval-add_enclosure in record { low = float.zero-add A.low f.low v.low; high = float.zero-add A.high f.high v.high }

  pub sub-none : Interval-Alike (Interval-sub_enclosure X Z) A
  sub-none = interval-trans (sub_alike (interval-finite f (interval-sym a)) (interval-finite zero-interval (interval-sym z)) a z) plain
    where
      plain : Interval-Alike (Interval-sub_enclosure A 𝟎) A
      plain = unfold Interval-sub_enclosure in record { low = float.sub-zero A.low f.low v.low; high = float.sub-zero A.high f.high v.high }
