-- Where one factor changes its sign, so do a product (`mul-neg`) and a sum of such products (`add-opposite`), up to the sign of a zero: `Opposite`.
-- Rests on `round-neg`: rounding to nearest is the same on both sides of zero.
use mathlib.Core.Path.{◌≡◌, refl, ap}
use mathlib.Core.Bool.{Bool, true, false, not, cond}
use Prim.Native.Nat.{ℕ, ◌+◌, ◌*◌, ◌<◌}
use native.Mathlib.Omega.{arith}
use lib.Dec.{T, eqb}
use lib.Ieee.{Float, nan, inf, fin, Format, binary32, up, down, unlike, round, neg, mul}
use lib.Ieee.Scale.{finite}
use lib.Ieee.Positive.{den, den_pos}
use native.Mathlib.Nat.{mul-pos}
use Rattle.float32.specs.Operators.{◌⊕◌, ◌⊗◌}
use Rattle.float32.specs.rounding.Order.{◌≼◌}
use Rattle.float32.proofs.rounding.Rational.{pos_part, neg_part, num_pos, num_neg}
use Rattle.float32.proofs.rounding.Order.{≼_refl, ≼_trans, neg-finite, finite_number, neg-neg}
use Rattle.float32.proofs.rounding.Monotone.{round-neg, Rounds, rounds-mono}
use Rattle.float32.proofs.rounding.Arithmetic.{add_rounds, add-mono}

-- y is -x, a zero of either sign.
pub record Opposite (x y : Float) : Type 0 where
  pub above : neg x ≼ y
  pub below : y ≼ neg x

round-not : (f : Format) (s : Bool) (a c : ℕ) → round f (not s) a c ≡ neg (round f s a c)
round-not f false a c = round-neg f a c
round-not f true a c = rw (round-neg f a c, neg-neg (round f false a c))

unlike-not : (s t : Bool) → unlike s (not t) ≡ not (unlike s t)
unlike-not true true = refl
unlike-not true false = refl
unlike-not false true = refl
unlike-not false false = refl

pub mul-neg : (x y : Float) → x ⊗ neg y ≡ neg (x ⊗ y)
unfolding mul neg
mul-neg nan y = refl
mul-neg (inf s) nan = refl
mul-neg (inf s) (inf t) = ap inf (unlike-not s t)
mul-neg (inf s) (fin t n d) = go (eqb n 0)
  where
    go : (b : Bool) → cond b nan (inf (unlike s (not t))) ≡ neg (cond b nan (inf (unlike s t)))
    go true = refl
    go false = ap inf (unlike-not s t)
mul-neg (fin s m e) nan = refl
mul-neg (fin s m e) (inf t) = go (eqb m 0)
  where
    go : (b : Bool) → cond b nan (inf (unlike s (not t))) ≡ neg (cond b nan (inf (unlike s t)))
    go true = refl
    go false = ap inf (unlike-not s t)
mul-neg (fin s m e) (fin t n d) = rw (unlike-not s t) (round-not binary32 (unlike s t) (m * up e * (n * up d)) (down e * down d))

pub neg-opposite : (x : Float) → T (finite x) → Opposite x (neg x)
neg-opposite x h = let r = ≼_refl (neg x) (finite_number (neg x) (neg-finite x h)) in record { above = r; below = r }

rounds-neg : {f : Format} {z : Float} {p n d : ℕ} → Rounds f z p n d → Rounds f (neg z) n p d
rounds-neg {f} {z} {p} {n} {d} r = record {
  sign = not r.sign;
  size = r.size;
  is = rw (r.is, round-not f r.sign r.size d);
  value = swapped r.sign r.size r.value;
}
  where
    swapped : (s : Bool) (a : ℕ) → pos_part s a + n ≡ p + neg_part s a → pos_part (not s) a + p ≡ n + neg_part (not s) a
    swapped true a e = omega arith
    swapped false a e = omega arith

num_pos-neg : (x : Float) → num_pos (neg x) ≡ num_neg x
unfolding neg
num_pos-neg nan = refl
num_pos-neg (inf s) = refl
num_pos-neg (fin true m e) = refl
num_pos-neg (fin false m e) = refl

num_neg-neg : (x : Float) → num_neg (neg x) ≡ num_pos x
unfolding neg
num_neg-neg nan = refl
num_neg-neg (inf s) = refl
num_neg-neg (fin true m e) = refl
num_neg-neg (fin false m e) = refl

den-neg : (x : Float) → den (neg x) ≡ den x
unfolding neg
den-neg nan = refl
den-neg (inf s) = refl
den-neg (fin s m e) = refl

module _ (x y : Float) (p : T (finite x)) (q : T (finite y)) where
  whole_neg : Rounds binary32 (neg (x ⊕ y)) (num_neg x * den y + num_neg y * den x) (num_pos x * den y + num_pos y * den x) (den x * den y)
  whole_neg = rounds-neg (add_rounds binary32 x y p q)

  each-neg : Rounds binary32 (neg x ⊕ neg y) (num_neg x * den y + num_neg y * den x) (num_pos x * den y + num_pos y * den x) (den x * den y)
  each-neg =
      rw (num_pos-neg x, num_pos-neg y, num_neg-neg x, num_neg-neg y, den-neg x, den-neg y)
      at (add_rounds binary32 (neg x) (neg y) (neg-finite x p) (neg-finite y q))

  pos : 0 < den x * den y
  pos = mul-pos (den_pos x) (den_pos y)

  add-neg : Opposite (x ⊕ y) (neg x ⊕ neg y)
  add-neg = record { above = rounds-mono whole_neg each-neg pos pos (omega arith); below = rounds-mono each-neg whole_neg pos pos (omega arith) }

pub add-opposite : {x x' y y' : Float} → T (finite x) → T (finite x') → T (finite y) → T (finite y')
    → Opposite x x' → Opposite y y' → Opposite (x ⊕ y) (x' ⊕ y')
add-opposite {x} {x'} {y} {y'} p p' q q' h k =
    let n = neg-finite x p in
    let m = neg-finite y q in
    let a = add-neg x y p q in
    record {
      above = ≼_trans a.above (add-mono binary32 n p' m q' h.above k.above);
      below = ≼_trans (add-mono binary32 p' n q' m h.below k.below) a.below;
    }
