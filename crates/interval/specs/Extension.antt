-- The promises of a judged interval operation. Definitions only.
-- `Extends`: it is an interval extension of a float operation. `Isotone`: inclusion isotonicity. `Carries`: the first number met stands.
-- A unary operation keeps the first two on a domain of intervals, D.
use Rattle.std.specs.Prelude.{◌≡◌, ℕ, T, Float}
use Rattle.refusal.specs.First.{first_refusal}
use Rattle.interval.specs.declared.Interval.{Interval}
use Rattle.interval.specs.Judged.{Judged}
use Rattle.interval.specs.Contains.{Encloses, Refines}
use Rattle.interval.specs.Enclosure.{are_angles}

abbrev pub Everywhere : Interval → Type 0
Everywhere X = Unit {0}

abbrev pub Angles : Interval → Type 0
Angles X = T (are_angles X)

-- Where the result is not refused, it encloses what the float operation gives at any point of the operands.
pub record Extends₁ (D : Interval → Type 0) (f : Float → Float) (F : ℕ → Interval → Judged) : Type 0 where
  pub extends : (met : ℕ) {X : Interval} {x : Float} → D X → Encloses X x → (F met X).refusal ≡ 0 → Encloses (F met X).interval (f x)

pub record Extends₂ (f : Float → Float → Float) (F : ℕ → Interval → Interval → Judged) : Type 0 where
  pub extends : (met : ℕ) {X Y : Interval} {x y : Float} → Encloses X x → Encloses Y y → (F met X Y).refusal ≡ 0 → Encloses (F met X Y).interval (f x y)

-- j is not refused, and its interval lies in that of j'.
pub record Narrower (j j' : Judged) : Type 0 where
  pub accepted : j.refusal ≡ 0
  pub refines : Refines j.interval j'.interval

-- Where a result is not refused, narrower operands are not refused either, and give a narrower result.
pub record Isotone₁ (D : Interval → Type 0) (F : ℕ → Interval → Judged) : Type 0 where
  pub isotone : (met met' : ℕ) {X X' : Interval} → D X' → Refines X X' → met ≡ 0 → (F met' X').refusal ≡ 0 → Narrower (F met X) (F met' X')

pub record Isotone₂ (F : ℕ → Interval → Interval → Judged) : Type 0 where
  pub isotone : (met met' : ℕ) {X X' Y Y' : Interval} → Refines X X' → Refines Y Y' → met ≡ 0 → (F met' X' Y').refusal ≡ 0 → Narrower (F met X Y) (F met' X' Y')

-- The number met so far decides nothing but the number, and stands where there is one.
abbrev pub carry : ℕ → Judged → Judged
carry met j = record { interval = j.interval; refusal = first_refusal met j.refusal }

pub record Carries₁ (F : ℕ → Interval → Judged) : Type 0 where
  pub carries : (met : ℕ) (X : Interval) → F met X ≡ carry met (F 0 X)

pub record Carries₂ (F : ℕ → Interval → Interval → Judged) : Type 0 where
  pub carries : (met : ℕ) (X Y : Interval) → F met X Y ≡ carry met (F 0 X Y)
