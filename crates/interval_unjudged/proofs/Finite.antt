-- A product of floats that is finite has finite operands, `mul-finite`, and a quotient a finite dividend,
-- `div-finite`, as sums and differences have (`interval`). Of a product of intervals a factor of one number is finite,
-- `left-point`, `right-point`; and the sum of an interval's ends tells that both are finite, `ends-finite`.
use mathlib.Core.Bool.{Bool, true, false, cond}
use lib.Dec.{T, eqb}
use lib.Ieee.{Float, nan, inf, fin, mul, div, lt, unlike}
use lib.Ieee.Scale.{finite}
use Rattle.interval.specs.float32.Operators.{◌⊗◌, ◌⊘◌}
use Rattle.interval.specs.declared.Interval.{Interval}
use Rattle.interval.specs.Contains.{Finite}
use Rattle.interval.specs.Interval.{Interval-point}
pub use Rattle.interval.proofs.Finite.{add-finite, sub-finite, add-operands, sub-operands}
use Rattle.interval_unjudged.specs.means.Ordered.{lesser, Interval-of_four_ordered, Interval-mul_ordered, Interval-ends_sum}

never : (b u : Bool) → T (finite (cond b nan (inf u))) → ⊥
never true u h = h
never false u h = h

pub mul-finite : (x y : Float) → T (finite (x ⊗ y)) → T (finite x) × T (finite y)
unfolding mul
mul-finite nan y h = absurd h
mul-finite (inf s) nan h = absurd h
mul-finite (inf s) (inf t) h = absurd h
mul-finite (inf s) (fin t n d) h = absurd (never (eqb n 0) (unlike s t) h)
mul-finite (fin s m e) nan h = absurd h
mul-finite (fin s m e) (inf t) h = absurd (never (eqb m 0) (unlike s t) h)
mul-finite (fin s m e) (fin t n d) h = (tt, tt)

pub div-finite : (x y : Float) → T (finite (x ⊘ y)) → T (finite x)
unfolding div
div-finite nan y h = h
div-finite (inf s) nan h = h
div-finite (inf s) (inf t) h = h
div-finite (inf s) (fin t n d) h = h
div-finite (fin s m e) y h = tt

-- ---- intervals

-- The least of four is one of them.
least-of : {Q : Type 0} (a b c d : Float) → (T (finite a) → Q) → (T (finite b) → Q) → (T (finite c) → Q) → (T (finite d) → Q)
    → T (finite (Interval-of_four_ordered a b c d).low) → Q
unfolding Interval-of_four_ordered lesser
least-of {Q} a b c d ka kb kc kd h =
    go (cond (lt b a) b a) (cond (lt d c) d c) (lt (cond (lt d c) d c) (cond (lt b a) b a)) (go a b (lt b a) ka kb) (go c d (lt d c) kc kd) h
  where
    go : (x y : Float) (t : Bool) → (T (finite x) → Q) → (T (finite y) → Q) → T (finite (cond t y x)) → Q
    go x y true k l h = l h
    go x y false k l h = k h

pub left-point : (x : Float) (Y : Interval) → Finite (Interval-mul_ordered (Interval-point x) Y) → Finite (Interval-point x)
unfolding Interval-mul_ordered
left-point x Y f =
    let l : T (finite (x ⊗ Y.low)) → T (finite x) = λ h. (mul-finite x Y.low h).0 in
    let r : T (finite (x ⊗ Y.high)) → T (finite x) = λ h. (mul-finite x Y.high h).0 in
    let g : T (finite x) = least-of (x ⊗ Y.low) (x ⊗ Y.low) (x ⊗ Y.high) (x ⊗ Y.high) l l r r f.low in
    record { low = g; high = g }

pub right-point : (X : Interval) (y : Float) → Finite (Interval-mul_ordered X (Interval-point y)) → Finite (Interval-point y)
unfolding Interval-mul_ordered
right-point X y f =
    let l : T (finite (X.low ⊗ y)) → T (finite y) = λ h. (mul-finite X.low y h).1 in
    let r : T (finite (X.high ⊗ y)) → T (finite y) = λ h. (mul-finite X.high y h).1 in
    let g : T (finite y) = least-of (X.low ⊗ y) (X.high ⊗ y) (X.low ⊗ y) (X.high ⊗ y) l r l r f.low in
    record { low = g; high = g }

pub ends-finite : (X : Interval) → T (finite (Interval-ends_sum X)) → Finite X
ends-finite X h = let f = add-finite X.low X.high h in record { low = f.0; high = f.1 }
