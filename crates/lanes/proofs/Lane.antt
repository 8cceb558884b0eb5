-- A lane of an operation on lanes is the operation on that lane: `zip_lane`, `map-lane`, `of-lane`.
use mathlib.Core.Path.{◌≡◌, refl, ap, ◌∙◌}
use mathlib.Core.List.{List}
use lib.Ieee.{Float}
use Rattle.interval.specs.declared.Interval.{Interval}
use Rattle.lanes.specs.declared.Lanes.{Lanes}
use Rattle.lanes.specs.means.Lanes.{Lane, first, second, third, fourth, at, Interval-span, Lanes-lane, Lanes-of, Lanes-map, Lanes-zip, Lanes-span}

pub of-lane : (k : Lane) (f : Lane → Interval) → Lanes-lane k (Lanes-of f) ≡ f k
unfolding Lanes-lane Lanes-of
of-lane first f = refl
of-lane second f = refl
of-lane third f = refl
of-lane fourth f = refl

pub zip_lane : (k : Lane) (f : Interval → Interval → Interval) (a b : Lanes) {r : Lanes} → r ≡ Lanes-zip f a b
    → Lanes-lane k r ≡ f (Lanes-lane k a) (Lanes-lane k b)
unfolding Lanes-zip
zip_lane k f a b e = ap (Lanes-lane k) e ∙ of-lane k (λ (k : Lane). f (Lanes-lane k a) (Lanes-lane k b))

pub map-lane : (k : Lane) (f : Interval → Interval) (a : Lanes) {r : Lanes} → r ≡ Lanes-map f a → Lanes-lane k r ≡ f (Lanes-lane k a)
unfolding Lanes-map
map-lane k f a e = ap (Lanes-lane k) e ∙ of-lane k (λ (k : Lane). f (Lanes-lane k a))

pub span-lane : (k : Lane) (x y : List Float) {r : Lanes} → r ≡ Lanes-span x y → Lanes-lane k r ≡ Interval-span (at k x) (at k y)
unfolding Lanes-span
span-lane k x y e = ap (Lanes-lane k) e ∙ of-lane k (λ (k : Lane). Interval-span (at k x) (at k y))
