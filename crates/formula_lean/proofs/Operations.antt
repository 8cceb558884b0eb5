-- Each lean operation stands for the cover's, where that is finite: `plus-stands` and its like.
use mathlib.Core.Path.{◌≡◌, sym, subst}
use lib.Ieee.{Float}
use lib.Ieee.Scale.{finite}
use Rattle.alike.specs.float32.Operators.{◌⊗◌}
use Rattle.alike.specs.interval.declared.Interval.{Interval}
use Rattle.alike.specs.interval.Contains.{Finite}
use Rattle.alike.specs.interval.Interval.{Interval-point}
use Rattle.alike.specs.interval.Enclosure.{Interval-add_enclosure, Interval-sub_enclosure, Interval-mul_enclosure, Interval-div_enclosure, Interval-sqrt_enclosure}
use Rattle.alike.proofs.interval.Extends.{mul-number}
use Rattle.alike.proofs.interval.Points.{add-point, sub-point, mul-point, div-point, sqrt-point}
use Rattle.alike.specs.interval_unjudged.means.Ordered.{Interval-mul_ordered, Interval-div_ordered}
use Rattle.alike.specs.interval_unjudged.means.Unjudged.{Positive}
use Rattle.alike.proofs.interval_unjudged.Ordered.{mul-ordered, div-ordered}
use Rattle.alike.specs.means.Alike.{Interval-Alike, Interval-Proper}
use Rattle.alike.proofs.Intervals.{interval-self, interval-trans, interval-finite, interval-positive, add-alike, sub_alike, mul-alike, div-alike, sqrt-alike}
use Rattle.alike.proofs.Constant.{ordered-finite, ordered-both, mul-span, mul-rising}
use Rattle.alike.proofs.Equivalence.{alike-≼}
use Rattle.alike.proofs.Terms.{zero-mul, mul-zero, one-mul, mul-one, add_none, none-add, sub-none, zero-interval, one-interval}
use Rattle.alike.proofs.Proper.{add-proper, sub-proper, mul-proper, div-proper, sqrt-proper}
use Rattle.formula_lean.specs.means.Lean.{Lean, nought, unit, number, factor, span, range, Lean-interval, Lean-Finite}
use Rattle.formula_lean.specs.means.Lean.{Lean-added, Lean-added_number, Lean-plus, Lean-less_number, Lean-minus}
use Rattle.formula_lean.specs.means.Lean.{Lean-multiplied, Lean-multiplied_number, Lean-multiplied_factor, Lean-times, Lean-divided_number, Lean-over, Lean-root}

-- v stands for X.
pub record Stands (v : Lean) (X : Interval) : Type 0 where
  pub good : Lean-Finite v
  pub proper : Interval-Proper X
  pub alike : Interval-Alike X (Lean-interval v)

pub lean-finite : (v : Lean) → Lean-Finite v → Finite (Lean-interval v)
lean-finite nought f = zero-interval
lean-finite unit f = one-interval
lean-finite (number k) f = record { low = f; high = f }
lean-finite (factor k) f = record { low = f.0; high = f.0 }
lean-finite (span a b) f = ordered-finite a b f.0 f.1
lean-finite (range X) f = f

-- ---- what is alike to an interval, to a number, to what lies between two that are no NaN
ranged : {Z Q : Interval} → Interval-Proper Z → Interval-Alike Z Q → Stands (range Q) Z
ranged p a = record { good = interval-finite p.finite a; proper = p; alike = a }

numbered : {Z Q : Interval} {k : Float} → Interval-Proper Z → Interval-Alike Z Q → Q ≡ Interval-point k → Stands (number k) Z
numbered {Z} {Q} {k} p a e = let b = subst (Interval-Alike Z) e a in record { good = (interval-finite p.finite b).low; proper = p; alike = b }

module _ {X Y : Interval} where
  -- ---- sums
  module _ (F : Finite (Interval-add_enclosure X Y)) where
    sum-proper : {v w : Lean} → Stands v X → Stands w Y → Interval-Proper (Interval-add_enclosure X Y)
    sum-proper p q = add-proper p.proper q.proper F

    sums : {v w : Lean} → Stands v X → Stands w Y → Stands (range (Interval-add_enclosure (Lean-interval v) (Lean-interval w))) (Interval-add_enclosure X Y)
    sums p q = ranged (sum-proper p q) (add-alike p.proper.finite q.proper.finite p.alike q.alike)

    none_left : {w : Lean} → Stands nought X → Stands w Y → Stands w (Interval-add_enclosure X Y)
    none_left p q = record {
      good = q.good;
      proper = sum-proper p q;
      alike = interval-trans (none-add q.proper.finite q.proper.values (interval-self Y q.proper.finite) p.alike) q.alike;
    }

    none_right : {v : Lean} → Stands v X → Stands nought Y → Stands v (Interval-add_enclosure X Y)
    none_right p q = record {
      good = p.good;
      proper = sum-proper p q;
      alike = interval-trans (add_none p.proper.finite p.proper.values (interval-self X p.proper.finite) q.alike) p.alike;
    }

    added : (v w : Lean) → Stands v X → Stands w Y → Stands (Lean-added w v) (Interval-add_enclosure X Y)
    added v nought p q = none_right p q
    added v unit p q = sums p q
    added v (number l) p q = sums p q
    added v (factor l) p q = sums p q
    added v (span c d) p q = sums p q
    added v (range Q) p q = sums p q

    added-number : (k : Float) (w : Lean) → Stands (number k) X → Stands w Y → Stands (Lean-added_number w k) (Interval-add_enclosure X Y)
    added-number k nought p q = none_right p q
    added-number k unit p q = sums p q
    added-number k (number l) p q = numbered (sum-proper p q) (add-alike p.proper.finite q.proper.finite p.alike q.alike) (add-point k l)
    added-number k (factor l) p q = sums p q
    added-number k (span c d) p q = sums p q
    added-number k (range Q) p q = sums p q

    pub plus-stands : (v w : Lean) → Stands v X → Stands w Y → Stands (Lean-plus v w) (Interval-add_enclosure X Y)
    plus-stands nought w p q = none_left p q
    plus-stands unit w p q = added unit w p q
    plus-stands (number k) w p q = added-number k w p q
    plus-stands (factor k) w p q = added (factor k) w p q
    plus-stands (span a b) w p q = added (span a b) w p q
    plus-stands (range P) w p q = added (range P) w p q

  -- ---- differences
  module _ (F : Finite (Interval-sub_enclosure X Y)) where
    difference-proper : {v w : Lean} → Stands v X → Stands w Y → Interval-Proper (Interval-sub_enclosure X Y)
    difference-proper p q = sub-proper p.proper q.proper F

    differences : {v w : Lean} → Stands v X → Stands w Y
        → Stands (range (Interval-sub_enclosure (Lean-interval v) (Lean-interval w))) (Interval-sub_enclosure X Y)
    differences p q = ranged (difference-proper p q) (sub_alike p.proper.finite q.proper.finite p.alike q.alike)

    less-number : (v : Lean) (l : Float) → Stands v X → Stands (number l) Y → Stands (Lean-less_number v l) (Interval-sub_enclosure X Y)
    less-number nought l p q = differences p q
    less-number unit l p q = differences p q
    less-number (number k) l p q = numbered (difference-proper p q) (sub_alike p.proper.finite q.proper.finite p.alike q.alike) (sub-point k l)
    less-number (factor k) l p q = differences p q
    less-number (span a b) l p q = differences p q
    less-number (range P) l p q = differences p q

    pub minus-stands : (v w : Lean) → Stands v X → Stands w Y → Stands (Lean-minus v w) (Interval-sub_enclosure X Y)
    minus-stands v nought p q = record {
      good = p.good;
      proper = difference-proper p q;
      alike = interval-trans (sub-none p.proper.finite p.proper.values (interval-self X p.proper.finite) q.alike) p.alike;
    }
    minus-stands v unit p q = differences p q
    minus-stands v (number l) p q = less-number v l p q
    minus-stands v (factor l) p q = differences p q
    minus-stands v (span c d) p q = differences p q
    minus-stands v (range Q) p q = differences p q

  -- ---- products
  module _ (F : Finite (Interval-mul_enclosure X Y)) where
    product-proper : {v w : Lean} → Stands v X → Stands w Y → Interval-Proper (Interval-mul_enclosure X Y)
    product-proper p q = mul-proper p.proper.finite q.proper.finite F

    product-alike : {v w : Lean} → Stands v X → Stands w Y
        → Interval-Alike (Interval-mul_enclosure X Y) (Interval-mul_enclosure (Lean-interval v) (Lean-interval w))
    product-alike p q = mul-alike p.proper.finite q.proper.finite p.alike q.alike

    products : (v w : Lean) → Stands v X → Stands w Y → Stands (range (Interval-mul_ordered (Lean-interval v) (Lean-interval w))) (Interval-mul_enclosure X Y)
    products v w p q =
        ranged (product-proper p q)
        (subst (Interval-Alike (Interval-mul_enclosure X Y))
        (sym (mul-ordered (Lean-interval v) (Lean-interval w) (lean-finite v p.good) (lean-finite w q.good))) (product-alike p q))

    zero_left : {w : Lean} → Stands nought X → Stands w Y → Stands nought (Interval-mul_enclosure X Y)
    zero_left {w} p q = record {
      good = tt;
      proper = product-proper p q;
      alike = interval-trans (mul-alike p.proper.finite q.proper.finite p.alike (interval-self Y q.proper.finite))
          (zero-mul Y q.proper.finite);
    }

    zero_right : {v : Lean} → Stands v X → Stands nought Y → Stands nought (Interval-mul_enclosure X Y)
    zero_right {v} p q = record {
      good = tt;
      proper = product-proper p q;
      alike = interval-trans (mul-alike p.proper.finite q.proper.finite (interval-self X p.proper.finite) q.alike)
          (mul-zero X p.proper.finite);
    }

    one_left : {w : Lean} → Stands unit X → Stands w Y → Stands w (Interval-mul_enclosure X Y)
    one_left {w} p q = record {
      good = q.good;
      proper = product-proper p q;
      alike = interval-trans (mul-alike p.proper.finite q.proper.finite p.alike (interval-self Y q.proper.finite))
          (interval-trans (one-mul Y q.proper) q.alike);
    }

    one_right : {v : Lean} → Stands v X → Stands unit Y → Stands v (Interval-mul_enclosure X Y)
    one_right {v} p q = record {
      good = p.good;
      proper = product-proper p q;
      alike = interval-trans (mul-alike p.proper.finite q.proper.finite (interval-self X p.proper.finite) q.alike)
          (interval-trans (mul-one X p.proper) p.alike);
    }

    multiplied : (v w : Lean) → Stands v X → Stands w Y → Stands (Lean-multiplied w v) (Interval-mul_enclosure X Y)
    multiplied v nought p q = zero_right p q
    multiplied v unit p q = one_right p q
    multiplied v (number l) p q = products v (number l) p q
    multiplied v (factor l) p q = products v (factor l) p q
    multiplied v (span c d) p q = products v (span c d) p q
    multiplied v (range Q) p q = products v (range Q) p q

    multiplied-number : (k : Float) (w : Lean) → Stands (number k) X → Stands w Y → Stands (Lean-multiplied_number w k) (Interval-mul_enclosure X Y)
    multiplied-number k nought p q = zero_right p q
    multiplied-number k unit p q = one_right p q
    multiplied-number k (number l) p q = numbered (product-proper p q) (product-alike p q) (mul-point k l)
    multiplied-number k (factor l) p q = products (number k) (factor l) p q
    multiplied-number k (span c d) p q =
        let (g, h) = q.good in
        let a = interval-trans (product-alike p q) (mul-span k c d p.good g h) in
        record {
          good = ordered-both (k ⊗ c) (k ⊗ d) (mul-number k c p.good g) (mul-number k d p.good h) (interval-finite F a);
          proper = product-proper p q;
          alike = a;
        }
    multiplied-number k (range Q) p q = products (number k) (range Q) p q

    multiplied-factor : (k : Float) (w : Lean) → Stands (factor k) X → Stands w Y → Stands (Lean-multiplied_factor w k) (Interval-mul_enclosure X Y)
    multiplied-factor k nought p q = zero_right p q
    multiplied-factor k unit p q = one_right p q
    multiplied-factor k (number l) p q = products (factor k) (number l) p q
    multiplied-factor k (factor l) p q = products (factor k) (factor l) p q
    multiplied-factor k (span c d) p q = products (factor k) (span c d) p q
    multiplied-factor k (range Q) p q =
        let rises = alike-≼ q.alike.low q.alike.high q.proper.rises in
        ranged (product-proper p q) (interval-trans (product-alike p q) (mul-rising k Q p.good.0 q.good (record { holds = p.good.1 }) rises))

    pub times-stands : (v w : Lean) → Stands v X → Stands w Y → Stands (Lean-times v w) (Interval-mul_enclosure X Y)
    times-stands nought w p q = zero_left p q
    times-stands unit w p q = one_left p q
    times-stands (number k) w p q = multiplied-number k w p q
    times-stands (factor k) w p q = multiplied-factor k w p q
    times-stands (span a b) w p q = multiplied (span a b) w p q
    times-stands (range P) w p q = multiplied (range P) w p q

  -- ---- quotients
  module _ (y : Positive Y) (F : Finite (Interval-div_enclosure X Y)) where
    quotient-proper : {v w : Lean} → Stands v X → Stands w Y → Interval-Proper (Interval-div_enclosure X Y)
    quotient-proper p q = div-proper p.proper.finite y F

    quotient-alike : {v w : Lean} → Stands v X → Stands w Y
        → Interval-Alike (Interval-div_enclosure X Y) (Interval-div_enclosure (Lean-interval v) (Lean-interval w))
    quotient-alike p q = div-alike p.proper.finite y p.alike q.alike

    quotients : (v w : Lean) → Stands v X → Stands w Y → Stands (range (Interval-div_ordered (Lean-interval v) (Lean-interval w))) (Interval-div_enclosure X Y)
    quotients v w p q =
        ranged (quotient-proper p q)
        (subst (Interval-Alike (Interval-div_enclosure X Y))
        (sym (div-ordered (Lean-interval v) (Lean-interval w) (lean-finite v p.good) (interval-positive y q.alike))) (quotient-alike p q))

    divided-number : (k : Float) (w : Lean) → Stands (number k) X → Stands w Y → Stands (Lean-divided_number w k) (Interval-div_enclosure X Y)
    divided-number k nought p q = quotients (number k) nought p q
    divided-number k unit p q = quotients (number k) unit p q
    divided-number k (number l) p q = numbered (quotient-proper p q) (quotient-alike p q) (div-point k l)
    divided-number k (factor l) p q = quotients (number k) (factor l) p q
    divided-number k (span c d) p q = quotients (number k) (span c d) p q
    divided-number k (range Q) p q = quotients (number k) (range Q) p q

    pub over-stands : (v w : Lean) → Stands v X → Stands w Y → Stands (Lean-over v w) (Interval-div_enclosure X Y)
    over-stands nought w p q = quotients nought w p q
    over-stands unit w p q = quotients unit w p q
    over-stands (number k) w p q = divided-number k w p q
    over-stands (factor k) w p q = quotients (factor k) w p q
    over-stands (span a b) w p q = quotients (span a b) w p q
    over-stands (range P) w p q = quotients (range P) w p q

-- ---- roots
module _ {X : Interval} (h : Positive X) (F : Finite (Interval-sqrt_enclosure X)) where
  roots : {v : Lean} → Stands v X → Stands (range (Interval-sqrt_enclosure (Lean-interval v))) (Interval-sqrt_enclosure X)
  roots p = ranged (sqrt-proper h p.proper.rises F) (sqrt-alike h p.alike)

  pub root_stands : (v : Lean) → Stands v X → Stands (Lean-root v) (Interval-sqrt_enclosure X)
  root_stands nought p = roots p
  root_stands unit p = roots p
  root_stands (number k) p = numbered (sqrt-proper h p.proper.rises F) (sqrt-alike h p.alike) (sqrt-point k)
  root_stands (factor k) p = roots p
  root_stands (span a b) p = roots p
  root_stands (range P) p = roots p
