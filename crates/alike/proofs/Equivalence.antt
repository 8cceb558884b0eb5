-- `Alike` is an equivalence of the floats that are no NaN: `alike_refl`, `alike-sym` (`alike-trans` stands in own_rounding); what is alike to a
-- finite float is finite, and to a positive one positive: `alike-finite`, `alike-positive`. Zeros are alike: `alike-zeros`.
use mathlib.Core.Bool.{Bool}
use lib.IntN.{ℤ}
use lib.Dec.{T}
use lib.Ieee.{Float, fin}
use lib.Ieee.Scale.{finite}
use lib.Ieee.Positive.{positive, positive-finite}
use Rattle.own_rounding.specs.rounding.Order.{◌≼◌, Number}
use Rattle.own_rounding.proofs.rounding.Order.{≼_refl, ≼_trans, number-left, number-right, finite_number, between-finite, above-positive, zeros_equal}
use Rattle.own_rounding.specs.means.Alike.{Alike}

pub alike_refl : (x : Float) → Number x → Alike x x
alike_refl x n = record { to = ≼_refl x n; from = ≼_refl x n }

pub alike_self : (x : Float) → T (finite x) → Alike x x
alike_self x f = alike_refl x (finite_number x f)

pub alike-sym : {x y : Float} → Alike x y → Alike y x
alike-sym a = record { to = a.from; from = a.to }

pub alike-zeros : (s t : Bool) (e d : ℤ) → Alike (fin s 0 e) (fin t 0 d)
alike-zeros s t e d = record { to = zeros_equal s t e d; from = zeros_equal t s d e }

-- ---- what it keeps
pub alike-left : {x y : Float} → Alike x y → Number x
alike-left a = number-left a.to

pub alike_right : {x y : Float} → Alike x y → Number y
alike_right a = number-right a.to

pub alike-finite : {x y : Float} → T (finite x) → Alike x y → T (finite y)
alike-finite f a = between-finite f f a.to a.from

pub alike-positive : {x y : Float} → T (positive x) → Alike x y → T (positive y)
alike-positive {x} {y} p a = above-positive p (alike-finite (positive-finite x p) a) a.to

-- Order of alike numbers.
pub alike-≼ : {x x' y y' : Float} → Alike x x' → Alike y y' → x ≼ y → x' ≼ y'
alike-≼ a b h = ≼_trans a.from (≼_trans h b.to)
