-- Four intervals side by side, and an operation on each of them. Definitions only.
-- `Lanes-of` writes four lanes out, so that a lane of it computes: a nest of operations is `Lanes-of` of the nested operation on intervals.
use Rattle.std.specs.Prelude.{ℕ, Bool, cond, List, [], ◌∷◌, get_or, Float}
use Rattle.std.specs.Float.{nan}
use Rattle.interval.specs.float32.Operators.{◌⊕◌, ◌⊖◌, ◌⊗◌, two}
use Rattle.interval.specs.declared.Interval.{Interval}
use Rattle.interval.specs.Interval.{Interval-point}
use Rattle.interval_unjudged.specs.means.Ordered.{lesser, greater, Interval-mul_ordered}
use Rattle.lanes.specs.declared.Lanes.{Lanes}

pub data Lane : Type 0 where
  first second third fourth : Lane

-- ---- four floats
abbrev pub four : (Lane → Float) → List Float
four f = f first ∷ f second ∷ f third ∷ f fourth ∷ []

abbrev pub place : Lane → ℕ
place first = 0
place second = 1
place third = 2
place fourth = 3

abbrev pub at : Lane → List Float → Float
at k x = get_or x (place k) nan

abbrev pub zip4 : (Float → Float → Float) → List Float → List Float → List Float
zip4 f x y = four (λ (k : Lane). f (at k x) (at k y))

-- ---- four intervals
unfoldable pub Lanes-lane : Lane → Lanes → Interval
Lanes-lane k x = record { low = at k x.low; high = at k x.high }

unfoldable pub Lanes-of : (Lane → Interval) → Lanes
Lanes-of f = record { low = four (λ (k : Lane). (f k).low); high = four (λ (k : Lane). (f k).high) }

unfoldable pub Lanes-map : (Interval → Interval) → Lanes → Lanes
Lanes-map f x = Lanes-of (λ (k : Lane). f (Lanes-lane k x))

unfoldable pub Lanes-zip : (Interval → Interval → Interval) → Lanes → Lanes → Lanes
Lanes-zip f x y = Lanes-of (λ (k : Lane). f (Lanes-lane k x) (Lanes-lane k y))

-- ---- operations beside those of `interval_unjudged`
-- From the lesser to the greater of two.
unfoldable pub Interval-span : Float → Float → Interval
Interval-span x y = record { low = lesser x y; high = greater x y }

unfoldable pub Lanes-span : List Float → List Float → Lanes
Lanes-span x y = Lanes-of (λ (k : Lane). Interval-span (at k x) (at k y))

-- The union, where no end is a NaN.
unfoldable pub Interval-join : Interval → Interval → Interval
Interval-join X Y = record { low = lesser X.low Y.low; high = greater X.high Y.high }

-- An interval times a number.
abbrev pub scaled : Float → Interval → Interval
scaled x X = Interval-mul_ordered X (Interval-point x)

-- Twice an interval, by both ends as they stand.
abbrev pub Interval-doubled : Interval → Interval
Interval-doubled X = record { low = two ⊗ X.low; high = two ⊗ X.high }

-- Grown by a number at both ends.
unfoldable pub Interval-widened : Float → Interval → Interval
Interval-widened pad X = record { low = X.low ⊖ pad; high = X.high ⊕ pad }

unfoldable pub Lanes-chosen : Bool → Lanes → Lanes → Lanes
Lanes-chosen b x y = cond b x y

-- ---- the four joined, in pairs
abbrev pub least_of : List Float → Float
least_of x = lesser (lesser (at first x) (at second x)) (lesser (at third x) (at fourth x))

abbrev pub greatest_of : List Float → Float
greatest_of x = greater (greater (at first x) (at second x)) (greater (at third x) (at fourth x))

-- From the least of the four lows to the greatest of the four highs.
unfoldable pub Lanes-joined : Lanes → Interval
Lanes-joined x = record { low = least_of x.low; high = greatest_of x.high }
