-- What finite intervals contain and what lies in them is finite (`contains-finite`, `subset-finite`); `Subset` is transitive along
-- `Contains` (`contains-subset`) and of itself (`subset-trans`); the hull of two intervals contains what either does (`hull-left`,
-- `hull-right`) and nothing beyond what holds both (`hull-subset`). Rests on the order of `rounding` and on least and greatest of `float32`.
use Rattle.std.proofs.Common.{T}
use lib.Ieee.{Float}
use lib.Ieee.Scale.{finite}
use Rattle.float32.specs.rounding.Order.{◌≼◌, Number}
use Rattle.float32.proofs.rounding.Order.{≼_refl, ≼_trans, finite_number, number-left, number-right, between-finite}
use Rattle.float32.proofs.MinMax.{min-left, min-right, max-left, max-right, min-picks, max-picks}
use Rattle.interval.specs.declared.Interval.{Interval}
use Rattle.interval.specs.Contains.{Contains, Subset, Finite, Encloses, Refines}
use Rattle.interval.specs.Interval.{Interval-new, Interval-point, Interval-hull}

pub contains-finite : {X : Interval} {x : Float} → Finite X → Contains X x → T (finite x)
contains-finite f i = between-finite f.low f.high i.low i.high

-- ---- X lies in Y: so do its ends, and what it contains
pub subset-low : {X Y : Interval} → Subset X Y → Contains Y X.low
subset-low s = record { low = s.low; high = ≼_trans s.proper s.high }

pub subset-high : {X Y : Interval} → Subset X Y → Contains Y X.high
subset-high s = record { low = ≼_trans s.low s.proper; high = s.high }

pub own-low : {X Y : Interval} → Subset X Y → Contains X X.low
own-low {X} s = record { low = ≼_refl X.low (number-left s.proper); high = s.proper }

pub subset-finite : {X Y : Interval} → Finite Y → Subset X Y → Finite X
subset-finite f s = record { low = contains-finite f (subset-low s); high = contains-finite f (subset-high s) }

pub contains-subset : {X Y : Interval} {x : Float} → Contains X x → Subset X Y → Contains Y x
contains-subset i s = record { low = ≼_trans s.low i.low; high = ≼_trans i.high s.high }

pub subset-trans : {X Y Z : Interval} → Subset X Y → Subset Y Z → Subset X Z
subset-trans s t = record { low = ≼_trans t.low s.low; proper = s.proper; high = ≼_trans s.high t.high }

-- An interval that contains something lies in itself.
pub subset-refl : {X : Interval} {x : Float} → Contains X x → Subset X X
subset-refl {X} i =
    record { low = ≼_refl X.low (number-left i.low); proper = ≼_trans i.low i.high; high = ≼_refl X.high (number-right i.high) }

-- ---- an interval of one number
pub point-encloses : (x : Float) → T (finite x) → Encloses (Interval-point x) x
point-encloses x f =
    let r = ≼_refl x (finite_number x f) in
    record { finite = record { low = f; high = f }; contains = record { low = r; high = r } }

pub point-refines : (x : Float) → T (finite x) → Refines (Interval-point x) (Interval-point x)
point-refines x f =
    let e = point-encloses x f in
    record { finite = e.finite; subset = subset-refl e.contains }

-- ---- from the least to the greatest of two
pub new-left : (a b : Float) → Number a → Contains (Interval-new a b) a
unfolding Interval-new
new-left a b n = record { low = min-left a b n; high = max-left a b n }

pub new-right : (a b : Float) → Number b → Contains (Interval-new a b) b
unfolding Interval-new
new-right a b n = record { low = min-right a b n; high = max-right a b n }

pub new-subset : {Z : Interval} {a b : Float} → Contains Z a → Contains Z b → Subset (Interval-new a b) Z
unfolding Interval-new
new-subset {Z} {a} {b} i j =
    let n = number-right i.low in
    record {
      low = min-picks (λ (v : Float). Z.low ≼ v) a b i.low j.low;
      proper = ≼_trans (min-left a b n) (max-left a b n);
      high = max-picks (λ (v : Float). v ≼ Z.high) a b i.high j.high;
    }

-- ---- the hull of two intervals
pub hull-left : {X : Interval} {x : Float} (Y : Interval) → Contains X x → Contains (Interval-hull X Y) x
unfolding Interval-hull
hull-left {X} {x} Y i =
    record {
      low = ≼_trans (min-left X.low Y.low (number-left i.low)) i.low;
      high = ≼_trans i.high (max-left X.high Y.high (number-right i.high));
    }

pub hull-right : {Y : Interval} {x : Float} (X : Interval) → Contains Y x → Contains (Interval-hull X Y) x
unfolding Interval-hull
hull-right {Y} {x} X i =
    record {
      low = ≼_trans (min-right X.low Y.low (number-left i.low)) i.low;
      high = ≼_trans i.high (max-right X.high Y.high (number-right i.high));
    }

pub hull-subset : {X Y Z : Interval} → Subset X Z → Subset Y Z → Subset (Interval-hull X Y) Z
unfolding Interval-hull
hull-subset {X} {Y} {Z} s t =
    record {
      low = min-picks (λ (v : Float). Z.low ≼ v) X.low Y.low s.low t.low;
      proper = ≼_trans (min-left X.low Y.low (number-left s.proper)) (≼_trans s.proper (max-left X.high Y.high (number-right s.proper)));
      high = max-picks (λ (v : Float). v ≼ Z.high) X.high Y.high s.high t.high;
    }
