-- A number limited to 0 and 1 is from 0 to 1 (`limited-unit`), rises with the number (`limited-mono`), is no greater than what is above the number
-- and 0 (`limited-low`), no less than what is below the number and 1 (`limited-high`), and is binary32 where the number is (`limited-fits`).
use mathlib.Core.Bool.{Bool, true, false, not, cond}
use lib.Dec.{T}
use lib.Ieee.{Float, binary32, fits, lt, le, of_bits}
use lib.Ieee.Fits.{cond-fits}
use Rattle.float32.specs.rounding.Order.{◌≼◌, Number}
use Rattle.float32.proofs.rounding.Order.{≼_refl, ≼_trans, number-left, number-right, lt-≼, not-lt-≼}
use Rattle.float32.specs.Operators.{positive_zero, one}
use Rattle.float32.specs.Clamp.{clamp}
use Rattle.float32.proofs.Constants.{zero-refl}
use Rattle.interval.specs.Contains.{Contains}
use Rattle.unit_interval.specs.Unit.{unit_interval}
use Rattle.dt_share.specs.Share.{limited}

zero_one : positive_zero ≼ one
unfolding le of_bits
zero_one = record { holds = tt }

one-refl : one ≼ one
one-refl = ≼_refl one (number-right zero_one)

-- What holds in each of the three cases holds of the limited number.
module _ (P : Float → Type 0) (x : Float) (n : Number x) where
  limited-cases : (x ≼ positive_zero → P positive_zero) → (one ≼ x → P one) → (positive_zero ≼ x → x ≼ one → P x) → P (limited x)
  unfolding limited clamp
  limited-cases low high mid = go (lt x positive_zero) (lt one x) (lt-≼ x positive_zero)
      (not-lt-≼ positive_zero x (number-left zero_one) n) (lt-≼ one x) (not-lt-≼ x one n (number-right zero_one))
    where
      go : (a b : Bool) → (T a → x ≼ positive_zero) → (T (not a) → positive_zero ≼ x)
          → (T b → one ≼ x) → (T (not b) → x ≼ one) → P (cond a positive_zero (cond b one x))
      go true b f g h k = low (f tt)
      go false true f g h k = high (h tt)
      go false false f g h k = mid (g tt) (k tt)

pub limited-unit : (x : Float) → Number x → Contains unit_interval (limited x)
limited-unit x n =
    limited-cases (Contains unit_interval) x n (λ _. record { low = zero-refl; high = zero_one })
    (λ _. record { low = zero_one; high = one-refl }) (λ l h. record { low = l; high = h })

pub limited-low : {x y : Float} → x ≼ y → positive_zero ≼ y → limited x ≼ y
limited-low {x} {y} h z = limited-cases (λ v. v ≼ y) x (number-left h) (λ _. z) (λ o. ≼_trans o h) (λ _ _. h)

pub limited-high : {x y : Float} → y ≼ x → y ≼ one → y ≼ limited x
limited-high {x} {y} h o = limited-cases (λ v. y ≼ v) x (number-right h) (λ l. ≼_trans h l) (λ _. o) (λ _ _. h)

pub limited-mono : {x y : Float} → x ≼ y → limited x ≼ limited y
limited-mono {x} {y} h =
    let u = limited-unit y (number-right h) in
    limited-cases (λ v. v ≼ limited y) x (number-left h) (λ _. u.low) (λ o. limited-high (≼_trans o h) one-refl) (λ _ k. limited-high h k)

pub limited-fits : (x : Float) → T (fits binary32 x) → T (fits binary32 (limited x))
unfolding limited clamp
limited-fits x h =
    cond-fits binary32 (lt x positive_zero) positive_zero (cond (lt one x) one x) zero-fits (cond-fits binary32 (lt one x) one x one-fits h)
  where
    zero-fits : T (fits binary32 positive_zero)
    zero-fits = unfold fits of_bits in tt

    one-fits : T (fits binary32 one)
    one-fits = unfold fits of_bits in tt
