-- Least and greatest by a comparison alone are those of `float32` where the first is no NaN (`lesser-min`, `greater-max`). A product
-- of finite numbers is no NaN, nor is a quotient by a positive one; so product and quotient by comparisons are the cover's there:
-- `mul-ordered`, `div-ordered`. And four numbers are finite where the least and the greatest of them are: `corners-finite`.
use mathlib.Core.Path.{◌≡◌, refl, sym, subst}
use mathlib.Core.Bool.{Bool, true, false, not, cond}
use lib.Dec.{T}
use lib.Ieee.{Float, is_nan, lt}
use lib.Ieee.Scale.{finite}
use Rattle.square_root.specs.rounding.Order.{Number}
use Rattle.interval.specs.float32.MinMax.{min_num, max_num}
use Rattle.interval.specs.float32.Operators.{◌⊗◌, ◌⊘◌}
use Rattle.interval.specs.declared.Interval.{Interval}
use Rattle.interval.specs.Contains.{Finite}
use Rattle.interval.proofs.Contains.{contains-finite, new-left, new-right, hull-left, hull-right}
pub use Rattle.interval.proofs.Extends.{mul-number, div-number}
use Rattle.interval.specs.Interval.{Interval-new, Interval-hull, Interval-of_four}
use Rattle.interval.specs.Enclosure.{Interval-mul_enclosure, Interval-div_enclosure}
use Rattle.interval_unjudged.specs.means.Ordered.{lesser, greater, Interval-of_four_ordered, Interval-mul_ordered, Interval-div_ordered}
use Rattle.interval_unjudged.specs.means.Unjudged.{Positive}

-- ---- of two
same : (x y : Float) (b c : Bool) → T (not b) → cond c y x ≡ cond b y (cond c y x)
same x y true c n = absurd n
same x y false c n = refl

pub lesser-min : (x y : Float) → Number x → lesser x y ≡ min_num x y
unfolding lesser min_num
lesser-min x y n = same x y (is_nan x) (lt y x) n

pub greater-max : (x y : Float) → Number x → greater x y ≡ max_num x y
unfolding greater max_num
greater-max x y n = same x y (is_nan x) (lt x y) n

picks : (x y : Float) → Number x → Number y → (c : Bool) → Number (cond c y x)
picks x y n k true = k
picks x y n k false = n

-- ---- of four
pub four-ordered : (a b c d : Float) → Number a → Number b → Number c → Number d → Interval-of_four_ordered a b c d ≡ Interval-of_four a b c d
unfolding Interval-of_four_ordered Interval-of_four Interval-hull Interval-new
four-ordered a b c d na nb nc nd =
    rw (
      ← lesser-min a b na,
      ← lesser-min c d nc,
      ← greater-max a b na,
      ← greater-max c d nc,
      ← lesser-min (lesser a b) (lesser c d) (least a b na nb),
      ← greater-max (greater a b) (greater c d) (greatest a b na nb),
    )
  where
    least : (a b : Float) → Number a → Number b → Number (lesser a b)
    least a b n k = unfold lesser in picks a b n k (lt b a)

    greatest : (a b : Float) → Number a → Number b → Number (greater a b)
    greatest a b n k = unfold greater in picks a b n k (lt a b)

pub record AllFour (P : Float → Type 0) (a b c d : Float) : Type 0 where
  pub first : P a
  pub second : P b
  pub third : P c
  pub fourth : P d

pub corners-finite : (a b c d : Float) → AllFour Number a b c d → Finite (Interval-of_four_ordered a b c d) → AllFour (λ (x : Float). T (finite x)) a b c d
unfolding Interval-of_four
corners-finite a b c d n f =
    let X = Interval-new a b in
    let Y = Interval-new c d in
    let g : Finite (Interval-hull X Y) = subst Finite (four-ordered a b c d n.first n.second n.third n.fourth) f in
    record {
      first = contains-finite g (hull-left Y (new-left a b n.first));
      second = contains-finite g (hull-left Y (new-right a b n.second));
      third = contains-finite g (hull-right X (new-left c d n.third));
      fourth = contains-finite g (hull-right X (new-right c d n.fourth));
    }

-- ---- products and quotients
pub mul-ordered : (X Y : Interval) → Finite X → Finite Y → Interval-mul_ordered X Y ≡ Interval-mul_enclosure X Y
unfolding Interval-mul_ordered Interval-mul_enclosure
mul-ordered X Y f g =
    four-ordered (X.low ⊗ Y.low) (X.high ⊗ Y.low) (X.low ⊗ Y.high) (X.high ⊗ Y.high)
    (mul-number X.low Y.low f.low g.low)
    (mul-number X.high Y.low f.high g.low)
    (mul-number X.low Y.high f.low g.high)
    (mul-number X.high Y.high f.high g.high)

pub div-ordered : (X Y : Interval) → Finite X → Positive Y → Interval-div_ordered X Y ≡ Interval-div_enclosure X Y
unfolding Interval-div_ordered Interval-div_enclosure
div-ordered X Y f p =
    four-ordered (X.low ⊘ Y.low) (X.high ⊘ Y.low) (X.low ⊘ Y.high) (X.high ⊘ Y.high)
    (div-number X.low Y.low f.low p.low)
    (div-number X.high Y.low f.high p.low)
    (div-number X.low Y.high f.low p.high)
    (div-number X.high Y.high f.high p.high)
