-- The least of two floats is below both and the greatest above both (`min-left`, `min-right`, `max-left`, `max-right`); each is one
-- of the two (`min-picks`, `max-picks`). Rests on the order of `rounding`; `Number` is asked of what the result is compared with.
use mathlib.Core.Bool.{Bool, true, false, not, cond}
use lib.Dec.{T}
use lib.Ieee.{Float, is_nan, lt}
use Rattle.rounding.specs.Order.{◌≼◌, Number}
use Rattle.rounding.proofs.Order.{≼_refl, lt-≼, not-lt-≼}
use Rattle.float32.specs.MinMax.{min_num, max_num}

pub min-left : (x y : Float) → Number x → min_num x y ≼ x
unfolding min_num
min-left x y n = go (is_nan x) (lt y x) n (lt-≼ y x)
  where
    go : (b c : Bool) → T (not b) → (T c → y ≼ x) → cond b y (cond c y x) ≼ x
    go true c t h = absurd t
    go false true t h = h tt
    go false false t h = ≼_refl x n

pub min-right : (x y : Float) → Number y → min_num x y ≼ y
unfolding min_num
min-right x y m = go (is_nan x) (lt y x) (λ n h. not-lt-≼ x y n m h)
  where
    go : (b c : Bool) → (T (not b) → T (not c) → x ≼ y) → cond b y (cond c y x) ≼ y
    go true c h = ≼_refl y m
    go false true h = ≼_refl y m
    go false false h = h tt tt

pub max-left : (x y : Float) → Number x → x ≼ max_num x y
unfolding max_num
max-left x y n = go (is_nan x) (lt x y) n (lt-≼ x y)
  where
    go : (b c : Bool) → T (not b) → (T c → x ≼ y) → x ≼ cond b y (cond c y x)
    go true c t h = absurd t
    go false true t h = h tt
    go false false t h = ≼_refl x n

pub max-right : (x y : Float) → Number y → y ≼ max_num x y
unfolding max_num
max-right x y m = go (is_nan x) (lt x y) (λ n h. not-lt-≼ y x m n h)
  where
    go : (b c : Bool) → (T (not b) → T (not c) → y ≼ x) → y ≼ cond b y (cond c y x)
    go true c h = ≼_refl y m
    go false true h = ≼_refl y m
    go false false h = h tt tt

-- ---- each is one of the two
cond-picks : (P : Float → Type 0) (x y : Float) → P x → P y → (b c : Bool) → P (cond b y (cond c y x))
cond-picks P x y p q true c = q
cond-picks P x y p q false true = q
cond-picks P x y p q false false = p

pub min-picks : (P : Float → Type 0) (x y : Float) → P x → P y → P (min_num x y)
unfolding min_num
min-picks P x y p q = cond-picks P x y p q (is_nan x) (lt y x)

pub max-picks : (P : Float → Type 0) (x y : Float) → P x → P y → P (max_num x y)
unfolding max_num
max-picks P x y p q = cond-picks P x y p q (is_nan x) (lt x y)
