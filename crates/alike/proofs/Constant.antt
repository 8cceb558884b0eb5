-- A number times an interval, by comparisons, is the lesser and the greater of the products at its two ends, for all floats: `mul-ordered-left`,
-- `mul-ordered-right`; for finite ones so is the cover's product, `mul-constant-left`, `mul-constant-right`. Where the first is no greater than the
-- second, these are alike to the two themselves (`ordered-alike`), as for a number from 0 up (`mul-rising`). Times what lies between two values in
-- either order it is alike to what lies between the products: `mul-span`.
use mathlib.Core.Path.{◌≡◌, refl, sym, ◌∙◌}
use mathlib.Core.Logic.{inl, inr}
use mathlib.Core.Bool.{Bool, true, false, not, cond}
use Prim.Native.Nat.{ℕ, ◌+◌, ◌*◌}
use native.Mathlib.Nat.{mul-pos, mul-le-mul_right}
use native.Mathlib.Omega.{arith}
use lib.Dec.{T}
use lib.Ieee.{Float, binary32, lt}
use lib.Ieee.Scale.{finite}
use lib.Ieee.Positive.{den, den_pos}
use Rattle.own_rounding.specs.rounding.Order.{◌≼◌, Number}
use Rattle.own_rounding.proofs.rounding.Rational.{num_pos, num_neg, FractionLe}
use Rattle.own_rounding.proofs.rounding.Order.{≼-total, number-left, number-right, finite_number, not-lt-≼, to-fraction}
use Rattle.own_rounding.proofs.rounding.Monotone.{rounds-mono}
use Rattle.own_rounding.proofs.rounding.Arithmetic.{mul-rounds}
use Rattle.own_rounding.specs.means.Alike.{Alike}
use Rattle.own_rounding.proofs.OwnRounding.{no-negative}
use Rattle.own_rounding.specs.float32.Operators.{◌⊗◌, positive_zero}
use Rattle.interval_unjudged.specs.interval.declared.Interval.{Interval}
use Rattle.interval_unjudged.specs.interval.Contains.{Finite}
use Rattle.interval_unjudged.specs.interval.Interval.{Interval-new, Interval-point}
use Rattle.interval_unjudged.specs.interval.Enclosure.{Interval-mul_enclosure}
use Rattle.interval_unjudged.proofs.interval.Extends.{mul-number}
use Rattle.interval_unjudged.specs.means.Ordered.{lesser, greater, Interval-of_four_ordered, Interval-mul_ordered}
use Rattle.interval_unjudged.proofs.Ordered.{lesser-min, greater-max, mul-ordered}
use Rattle.alike.specs.means.Alike.{Interval-Alike, Interval-new_ordered}
use Rattle.alike.proofs.Equivalence.{alike_refl}
use Rattle.alike.proofs.Compare.{lt-not-≼}
use Rattle.alike.proofs.Intervals.{interval-self, interval-sym, interval-trans, interval-finite, mul-alike}

-- ---- two in order
module _ {a b : Float} (h : a ≼ b) where
  lesser-first : Alike (lesser a b) a
  unfolding lesser
  lesser-first = go (lt b a) (λ t. lt-not-≼ b a t h)
    where
      go : (u : Bool) → (T u → ⊥) → Alike (cond u b a) a
      go true k = absurd (k tt)
      go false k = alike_refl a (number-left h)

  greater-second : Alike (greater a b) b
  unfolding greater
  greater-second = go (lt a b) (λ n. not-lt-≼ b a (number-right h) (number-left h) n)
    where
      go : (u : Bool) → (T (not u) → b ≼ a) → Alike (cond u b a) b
      go true k = alike_refl b (number-right h)
      go false k = record { to = h; from = k tt }

  -- The other way round.
  lesser-second : Alike (lesser b a) a
  unfolding lesser
  lesser-second = go (lt a b) (λ n. not-lt-≼ b a (number-right h) (number-left h) n)
    where
      go : (u : Bool) → (T (not u) → b ≼ a) → Alike (cond u a b) a
      go true k = alike_refl a (number-left h)
      go false k = record { to = k tt; from = h }

  greater-first : Alike (greater b a) b
  unfolding greater
  greater-first = go (lt b a) (λ t. lt-not-≼ b a t h)
    where
      go : (u : Bool) → (T u → ⊥) → Alike (cond u a b) b
      go true k = absurd (k tt)
      go false k = alike_refl b (number-right h)

  pub ordered-alike : Interval-Alike (Interval-new_ordered a b) (record { low = a; high = b })
  ordered-alike = record { low = lesser-first; high = greater-second }

  swapped-alike : Interval-Alike (Interval-new_ordered b a) (record { low = a; high = b })
  swapped-alike = record { low = lesser-second; high = greater-first }

ordered-swap : (a b : Float) → Number a → Number b → Interval-Alike (Interval-new_ordered a b) (Interval-new_ordered b a)
ordered-swap a b n m = elim (≼-total a b n m) [
  | inl h ↦ interval-trans (ordered-alike h) (interval-sym (swapped-alike h))
  | inr h ↦ interval-trans (swapped-alike h) (interval-sym (ordered-alike h))
]

pub ordered-finite : (a b : Float) → T (finite a) → T (finite b) → Finite (Interval-new_ordered a b)
unfolding lesser greater
ordered-finite a b f g = record { low = pick (lt b a); high = pick (lt a b) }
  where
    pick : (c : Bool) → T (finite (cond c b a))
    pick true = g
    pick false = f

-- Of two that are no NaN, both are finite where the lesser and the greater are.
pub ordered-both : (a b : Float) → Number a → Number b → Finite (Interval-new_ordered a b) → T (finite a) × T (finite b)
ordered-both a b n m f = elim (≼-total a b n m) [
  | inl h ↦ (let g = interval-finite f (ordered-alike h) in (g.low, g.high))
  | inr h ↦ (let g = interval-finite f (swapped-alike h) in (g.high, g.low))
]

-- Least and greatest of two, as `interval` has them.
pub new-ordered : (a b : Float) → Number a → Interval-new a b ≡ Interval-new_ordered a b
unfolding Interval-new
new-ordered a b n = rw (lesser-min a b n, greater-max a b n)

-- ---- a number times an interval
same : (x : Float) (b : Bool) → cond b x x ≡ x
same x true = refl
same x false = refl

lesser-same : (x : Float) → lesser x x ≡ x
unfolding lesser
lesser-same x = same x (lt x x)

greater-same : (x : Float) → greater x x ≡ x
unfolding greater
greater-same x = same x (lt x x)

module _ (k : Float) (X : Interval) where
  pub mul-ordered-left : Interval-mul_ordered (Interval-point k) X ≡ Interval-new_ordered (k ⊗ X.low) (k ⊗ X.high)
  unfolding Interval-mul_ordered Interval-of_four_ordered
  mul-ordered-left = rw (lesser-same (k ⊗ X.low), lesser-same (k ⊗ X.high), greater-same (k ⊗ X.low), greater-same (k ⊗ X.high))

  pub mul-ordered-right : Interval-mul_ordered X (Interval-point k) ≡ Interval-new_ordered (X.low ⊗ k) (X.high ⊗ k)
  unfolding Interval-mul_ordered Interval-of_four_ordered
  mul-ordered-right = rw (lesser-same (lesser (X.low ⊗ k) (X.high ⊗ k)), greater-same (greater (X.low ⊗ k) (X.high ⊗ k)))

  module _ (f : T (finite k)) (g : Finite X) where
    point-finite : Finite (Interval-point k)
    point-finite = record { low = f; high = f }

    pub mul-constant-left : Interval-mul_enclosure (Interval-point k) X ≡ Interval-new_ordered (k ⊗ X.low) (k ⊗ X.high)
    mul-constant-left = sym (mul-ordered (Interval-point k) X point-finite g) ∙ mul-ordered-left

    pub mul-constant-right : Interval-mul_enclosure X (Interval-point k) ≡ Interval-new_ordered (X.low ⊗ k) (X.high ⊗ k)
    mul-constant-right = sym (mul-ordered X (Interval-point k) g point-finite) ∙ mul-ordered-right

-- ---- a number times what lies between the values at two borders, in either order
module _ (k a b : Float) (f : T (finite k)) (g : T (finite a)) (h : T (finite b)) where
  from-ends : {X : Interval} → Interval-Alike X (record { low = a; high = b })
      → Interval-Alike (Interval-mul_enclosure (Interval-point k) X) (Interval-new_ordered (k ⊗ a) (k ⊗ b))
  from-ends {X} e =
      let Y : Interval = record { low = a; high = b } in
      let i : Finite Y = record { low = g; high = h } in
      let j : Finite (Interval-point k) = record { low = f; high = f } in
      rw (mul-constant-left k Y f i) at (mul-alike j (interval-finite i (interval-sym e)) (interval-self (Interval-point k) j) e)

pub mul-span : (k a b : Float) → T (finite k) → T (finite a) → T (finite b)
    → Interval-Alike (Interval-mul_enclosure (Interval-point k) (Interval-new_ordered a b)) (Interval-new_ordered (k ⊗ a) (k ⊗ b))
mul-span k a b f g h = elim (≼-total a b (finite_number a g) (finite_number b h)) [
  | inl l ↦ from-ends k a b f g h (ordered-alike l)
  | inr l ↦ interval-trans (from-ends k b a f h g (swapped-alike l)) (ordered-swap (k ⊗ b) (k ⊗ a) (mul-number k b f h) (mul-number k a f g))
]

-- ---- a number from 0 up
mul-up : (k : Float) {x y : Float} → T (finite k) → T (finite x) → T (finite y) → positive_zero ≼ k → x ≼ y → k ⊗ x ≼ k ⊗ y
mul-up k {x} {y} f g h z l =
    rounds-mono (mul-rounds binary32 k x f g) (mul-rounds binary32 k y f h) (mul-pos (den_pos k) (den_pos x)) (mul-pos (den_pos k) (den_pos y))
    (scale (num_pos k) (num_neg k) (den k) (num_pos x) (num_neg x) (den x) (num_pos y) (num_neg y) (den y) (no-negative k f z) (to-fraction g h l))
  where
    scale : (q m e p n d p' n' d' : ℕ) → m ≡ 0 → FractionLe p n d p' n' d'
        → FractionLe (q * p + m * n) (q * n + m * p) (e * d) (q * p' + m * n') (q * n' + m * p') (e * d')
    scale q m e p n d p' n' d' z h = rw z (omega (arith, mul-le-mul_right (q * e) h))

pub mul-rising : (k : Float) (X : Interval) → T (finite k) → Finite X → positive_zero ≼ k → X.low ≼ X.high
    → Interval-Alike (Interval-mul_enclosure (Interval-point k) X) (record { low = k ⊗ X.low; high = k ⊗ X.high })
mul-rising k X f g z l = rw (mul-constant-left k X f g) (ordered-alike (mul-up k f g.low g.high z l))
