-- Sum, difference, product and quotient of finite floats keep the order. Each is the rounding of a fraction (`add_rounds` and its like), so each
-- monotone law is one inequality of fractions: `add-mono`, `sub-mono`, `mul-between-left`, `mul-between-right`, and for a positive
-- divisor `div_mono`, `div-between-left`, `div-between-right`. Of two fractions that are not negative the sum is one rounding, `add_at`.
use mathlib.Core.Path.{◌≡◌, refl, ap, ap₂, ◌∙◌}
use mathlib.Core.Logic.{inl, inr}
use Prim.Native.Nat.{ℕ, ◌+◌, ◌-◌, ◌*◌, ◌≤◌, ◌<◌}
use native.Mathlib.Nat.{mul-le-mul_right, mul-pos, mul_comm, zero-mul}
use native.Mathlib.Omega.{arith}
use mathlib.Core.Bool.{Bool, true, false, true≢false, not, cond}
use lib.IntN.{ℤ}
use lib.Dec.{T, ltb, eqb, eqb→eq, ltb→lt, nltb→le}
use lib.Ieee.{Float, nan, inf, fin, Format, up, down, unlike, round, neg, sum, add, sub, mul, div}
use lib.Ieee.Fits.{down_pos}
use lib.Ieee.Exact.{HasValue}
use lib.Ieee.Scale.{finite, round_same}
use lib.Ieee.Positive.{den, den_pos, positive}
use Rattle.rounding.specs.Order.{◌≼◌, Between}
use Rattle.rounding.proofs.Rational.{pos_part, neg_part, pos_part-mul, neg_part-mul, num_pos, num_neg, num_pos-pos, FractionLe, fraction-trans}
use Rattle.rounding.proofs.Order.{to-fraction, to-fraction-positive}
use Rattle.rounding.proofs.Monotone.{Rounds, rounds-mono}

-- ---- each operation is the rounding of a fraction
sum-rounds : (f : Format) (s : Bool) (a : ℕ) (t : Bool) (b c : ℕ) → Rounds f (sum f s a t b c) (pos_part s a + pos_part t b) (neg_part s a + neg_part t b) c
unfolding sum
sum-rounds f false a false b c = record { sign = false; size = a + b; is = refl; value = omega arith }
sum-rounds f true a true b c = record { sign = true; size = a + b; is = refl; value = omega arith }
sum-rounds f false a true b c = go (ltb a b) (ltb→lt a b) (nltb→le a b)
  where
    go : (u : Bool) → (T u → a < b) → (T (not u) → b ≤ a) → Rounds f (cond u (round f true (b - a) c) (round f false (a - b) c)) (a + 0) (0 + b) c
    go true h k = let l = h tt in record { sign = true; size = b - a; is = refl; value = omega arith }
    go false h k = let l = k tt in record { sign = false; size = a - b; is = refl; value = omega arith }
sum-rounds f true a false b c = go (ltb a b) (ltb b a) (ltb→lt a b) (nltb→le a b) (nltb→le b a)
  where
    go : (u v : Bool) → (T u → a < b) → (T (not u) → b ≤ a) → (T (not v) → a ≤ b)
        → Rounds f (cond u (round f false (b - a) c) (round f v (a - b) c)) (0 + b) (a + 0) c
    go true v h k j = let l = h tt in record { sign = false; size = b - a; is = refl; value = omega arith }
    go false true h k j = let l = k tt in record { sign = true; size = a - b; is = refl; value = omega arith }
    go false false h k j = let l = k tt in let i = j tt in record { sign = false; size = a - b; is = refl; value = omega arith }

pub add_rounds : (f : Format) (x y : Float) → T (finite x) → T (finite y)
    → Rounds f (add f x y) (num_pos x * den y + num_pos y * den x) (num_neg x * den y + num_neg y * den x) (den x * den y)
unfolding add
add_rounds f nan y p q = absurd p
add_rounds f (inf s) y p q = absurd p
add_rounds f (fin s m e) nan p q = absurd q
add_rounds f (fin s m e) (inf t) p q = absurd q
add_rounds f (fin s m e) (fin t n d) p q =
    rw (pos_part-mul s (m * up e) (down d), neg_part-mul s (m * up e) (down d), pos_part-mul t (n * up d) (down e), neg_part-mul t (n * up d) (down e))
    at (sum-rounds f s (m * up e * down d) t (n * up d * down e) (down e * down d))

-- Of two floats that are not negative and known as fractions, as `mul_at` has it for products.
pub add_at : (f : Format) (x y : Float) (a c b d : ℕ) → 0 < c → 0 < d → HasValue x false a c → HasValue y false b d
    → add f x y ≡ round f false (a * d + b * c) (c * d)
unfolding add sum
add_at f nan y a c b d C D h k = absurd h
add_at f (inf s) y a c b d C D h k = absurd h
add_at f (fin s m e) nan a c b d C D h k = absurd k
add_at f (fin s m e) (inf t) a c b d C D h k = absurd k
add_at f (fin true m e) (fin t n g) a c b d C D h k = absurd (true≢false h.0)
add_at f (fin false m e) (fin true n g) a c b d C D h k = absurd (true≢false k.0)
add_at f (fin false m e) (fin false n g) a c b d C D h k =
    round_same f false (m * up e * down g + n * up g * down e) (down e * down g) (a * d + b * c) (c * d)
    (mul-pos (down_pos e) (down_pos g)) (mul-pos C D) (cross (m * up e) (down e) (n * up g) (down g) a c b d h.1 k.1)
  where
    cross : (m e n g a c b d : ℕ) → m * c ≡ a * e → n * d ≡ b * g → (m * g + n * e) * (c * d) ≡ (a * d + b * c) * (e * g)
    cross m e n g a c b d h k =
        let p : m * c * (g * d) ≡ a * e * (g * d) = ap (λ (z : ℕ). z * (g * d)) h in
        let q : n * d * (e * c) ≡ b * g * (e * c) = ap (λ (z : ℕ). z * (e * c)) k in
        omega (arith, p, q)

pub sub-rounds : (f : Format) (x y : Float) → T (finite x) → T (finite y)
    → Rounds f (sub f x y) (num_pos x * den y + num_neg y * den x) (num_neg x * den y + num_pos y * den x) (den x * den y)
unfolding sub neg
sub-rounds f x nan p q = absurd q
sub-rounds f x (inf t) p q = absurd q
sub-rounds f x (fin true n d) p q = add_rounds f x (fin false n d) p tt
sub-rounds f x (fin false n d) p q = add_rounds f x (fin true n d) p tt

pub mul-rounds : (f : Format) (x y : Float) → T (finite x) → T (finite y)
    → Rounds f (mul f x y) (num_pos x * num_pos y + num_neg x * num_neg y) (num_pos x * num_neg y + num_neg x * num_pos y) (den x * den y)
unfolding mul
mul-rounds f nan y p q = absurd p
mul-rounds f (inf s) y p q = absurd p
mul-rounds f (fin s m e) nan p q = absurd q
mul-rounds f (fin s m e) (inf t) p q = absurd q
mul-rounds f (fin true m e) (fin true n d) p q = record { sign = false; size = m * up e * (n * up d); is = refl; value = omega arith }
mul-rounds f (fin true m e) (fin false n d) p q = record { sign = true; size = m * up e * (n * up d); is = refl; value = omega arith }
mul-rounds f (fin false m e) (fin true n d) p q = record { sign = true; size = m * up e * (n * up d); is = refl; value = omega arith }
mul-rounds f (fin false m e) (fin false n d) p q = record { sign = false; size = m * up e * (n * up d); is = refl; value = omega arith }

quotient : (f : Format) (s : Bool) (m : ℕ) (e : ℤ) (n : ℕ) (d : ℤ) → 0 < n
    → div f (fin s m e) (fin false n d) ≡ round f (unlike s false) (m * up e * down d) (n * up d * down e)
unfolding div
quotient f s m e n d h = go (eqb n 0) (eqb→eq n 0)
  where
    go : (u : Bool) → (T u → n ≡ 0) → cond u (cond (eqb m 0) nan (inf (unlike s false)))
        (round f (unlike s false) (m * up e * down d) (n * up d * down e)) ≡ round f (unlike s false) (m * up e * down d) (n * up d * down e)
    go true k = let z = k tt in absurd (omega arith)
    go false k = refl

pub div-rounds : (f : Format) (x y : Float) → T (finite x) → T (positive y) → Rounds f (div f x y) (num_pos x * den y) (num_neg x * den y) (num_pos y * den x)
div-rounds f nan y p q = absurd p
div-rounds f (inf s) y p q = absurd p
div-rounds f (fin s m e) nan p q = absurd q
div-rounds f (fin s m e) (inf t) p q = absurd q
div-rounds f (fin s m e) (fin true n d) p q = absurd q
div-rounds f (fin true m e) (fin false n d) p q =
    record { sign = true; size = m * up e * down d; is = quotient f true m e n d (ltb→lt 0 n q); value = omega arith }
div-rounds f (fin false m e) (fin false n d) p q =
    record { sign = false; size = m * up e * down d; is = quotient f false m e n d (ltb→lt 0 n q); value = omega arith }

-- ---- sums and differences
fraction-add : (p n d p' n' d' q m e q' m' e' : ℕ) → 0 < d' → 0 < e → FractionLe p n d p' n' d' → FractionLe q m e q' m' e'
    → FractionLe (p * e + q * d) (n * e + m * d) (d * e) (p' * e' + q' * d') (n' * e' + m' * d') (d' * e')
fraction-add p n d p' n' d' q m e q' m' e' D E h k =
    fraction-trans (p * e + q * d) (n * e + m * d) (d * e) (p' * e + q * d') (n' * e + m * d')
    (d' * e) (p' * e' + q' * d') (n' * e' + m' * d') (d' * e') (mul-pos D E)
    (omega (arith, mul-le-mul_right (e * e) h)) (omega (arith, mul-le-mul_right (d' * d') k))

pub add-mono : (f : Format) {x x' y y' : Float} → T (finite x) → T (finite x') → T (finite y) → T (finite y') → x ≼ x' → y ≼ y' → add f x y ≼ add f x' y'
add-mono f {x} {x'} {y} {y'} X X' Y Y' h k =
    rounds-mono (add_rounds f x y X Y) (add_rounds f x' y' X' Y') (mul-pos (den_pos x) (den_pos y)) (mul-pos (den_pos x') (den_pos y'))
    (fraction-add (num_pos x) (num_neg x) (den x) (num_pos x') (num_neg x') (den x') (num_pos y) (num_neg y) (den y)
    (num_pos y') (num_neg y') (den y') (den_pos x') (den_pos y) (to-fraction X X' h) (to-fraction Y Y' k))

pub sub-mono : (f : Format) {x x' y y' : Float} → T (finite x) → T (finite x') → T (finite y) → T (finite y') → x ≼ x' → y' ≼ y → sub f x y ≼ sub f x' y'
sub-mono f {x} {x'} {y} {y'} X X' Y Y' h k =
    rounds-mono (sub-rounds f x y X Y) (sub-rounds f x' y' X' Y') (mul-pos (den_pos x) (den_pos y)) (mul-pos (den_pos x') (den_pos y'))
    (fraction-add (num_pos x) (num_neg x) (den x) (num_pos x') (num_neg x') (den x') (num_neg y) (num_pos y) (den y) (num_neg y')
    (num_pos y') (den y') (den_pos x') (den_pos y) (to-fraction X X' h) (let z = to-fraction Y' Y k in omega arith))

-- ---- products: with one factor fixed, monotone or antitone by that factor's sign
mul-rises : (f : Format) {x x' : Float} (n : ℕ) (d : ℤ) → T (finite x) → T (finite x') → x ≼ x' → mul f x (fin false n d) ≼ mul f x' (fin false n d)
mul-rises f {x} {x'} n d X X' h =
    rounds-mono (mul-rounds f x (fin false n d) X tt) (mul-rounds f x' (fin false n d) X' tt)
    (mul-pos (den_pos x) (down_pos d)) (mul-pos (den_pos x') (down_pos d))
    (scale (num_pos x) (num_neg x) (den x) (num_pos x') (num_neg x') (den x') (n * up d) (down d) (to-fraction X X' h))
  where
    scale : (p n d p' n' d' q e : ℕ) → FractionLe p n d p' n' d'
        → FractionLe (p * q + n * 0) (p * 0 + n * q) (d * e) (p' * q + n' * 0) (p' * 0 + n' * q) (d' * e)
    scale p n d p' n' d' q e h = omega (arith, mul-le-mul_right (q * e) h)

mul-falls : (f : Format) {x x' : Float} (n : ℕ) (d : ℤ) → T (finite x) → T (finite x') → x ≼ x' → mul f x' (fin true n d) ≼ mul f x (fin true n d)
mul-falls f {x} {x'} n d X X' h =
    rounds-mono (mul-rounds f x' (fin true n d) X' tt) (mul-rounds f x (fin true n d) X tt)
    (mul-pos (den_pos x') (down_pos d)) (mul-pos (den_pos x) (down_pos d))
    (scale (num_pos x) (num_neg x) (den x) (num_pos x') (num_neg x') (den x') (n * up d) (down d) (to-fraction X X' h))
  where
    scale : (p n d p' n' d' m e : ℕ) → FractionLe p n d p' n' d'
        → FractionLe (p' * 0 + n' * m) (p' * m + n' * 0) (d' * e) (p * 0 + n * m) (p * m + n * 0) (d * e)
    scale p n d p' n' d' m e h = omega (arith, mul-le-mul_right (m * e) h)

pub mul-between-left : (f : Format) {a x b : Float} (y : Float) → T (finite a) → T (finite x)
    → T (finite b) → T (finite y) → a ≼ x → x ≼ b → Between (mul f a y) (mul f x y) (mul f b y)
mul-between-left f nan A X B Y h k = absurd Y
mul-between-left f (inf s) A X B Y h k = absurd Y
mul-between-left f (fin false n d) A X B Y h k = inl (mul-rises f n d A X h, mul-rises f n d X B k)
mul-between-left f (fin true n d) A X B Y h k = inr (mul-falls f n d X B k, mul-falls f n d A X h)

pub mul-comm-finite : (f : Format) (x y : Float) → T (finite x) → T (finite y) → mul f x y ≡ mul f y x
unfolding mul
mul-comm-finite f nan y p q = absurd p
mul-comm-finite f (inf s) y p q = absurd p
mul-comm-finite f (fin s m e) nan p q = absurd q
mul-comm-finite f (fin s m e) (inf t) p q = absurd q
mul-comm-finite f (fin s m e) (fin t n d) p q =
    ap₂ (λ (u : Bool) (z : ℕ). round f u z (down e * down d)) (signs s t) (mul_comm (m * up e) (n * up d))
    ∙ ap (λ (z : ℕ). round f (unlike t s) (n * up d * (m * up e)) z) (mul_comm (down e) (down d))
  where
    signs : (s t : Bool) → unlike s t ≡ unlike t s
    signs true true = refl
    signs true false = refl
    signs false true = refl
    signs false false = refl

pub mul-between-right : (f : Format) (x : Float) {c y d : Float} → T (finite x) → T (finite c)
    → T (finite y) → T (finite d) → c ≼ y → y ≼ d → Between (mul f x c) (mul f x y) (mul f x d)
mul-between-right f x {c} {y} {d} X C Y D h k =
    rw (mul-comm-finite f x c X C, mul-comm-finite f x y X Y, mul-comm-finite f x d X D) (mul-between-left f x C Y D X h k)

-- ---- quotients by positive values
pub div_mono : (f : Format) {x x' : Float} (y : Float) → T (finite x) → T (finite x') → T (positive y) → x ≼ x' → div f x y ≼ div f x' y
div_mono f {x} {x'} y X X' Y h =
    rounds-mono (div-rounds f x y X Y) (div-rounds f x' y X' Y) (mul-pos (num_pos-pos y Y) (den_pos x)) (mul-pos (num_pos-pos y Y) (den_pos x'))
    (scale (num_pos x) (num_neg x) (den x) (num_pos x') (num_neg x') (den x') (num_pos y) (den y) (to-fraction X X' h))
  where
    scale : (p n d p' n' d' q e : ℕ) → FractionLe p n d p' n' d' → FractionLe (p * e) (n * e) (q * d) (p' * e) (n' * e) (q * d')
    scale p n d p' n' d' q e h = omega (arith, mul-le-mul_right (q * e) h)

-- A larger divisor brings the quotient nearer to zero.
div-falls : (f : Format) (m : ℕ) (e : ℤ) {y y' : Float} → T (positive y) → T (positive y') → y ≼ y' → div f (fin false m e) y' ≼ div f (fin false m e) y
div-falls f m e {y} {y'} Y Y' h =
    rounds-mono (div-rounds f (fin false m e) y' tt Y') (div-rounds f (fin false m e) y tt Y)
    (mul-pos (num_pos-pos y' Y') (down_pos e)) (mul-pos (num_pos-pos y Y) (down_pos e))
    (rw (zero-mul (den y'), zero-mul (den y)) (nearer (m * up e) (down e) (num_pos y) (den y) (num_pos y') (den y') (to-fraction-positive Y Y' h)))
  where
    nearer : (a c q e q' e' : ℕ) → q * e' ≤ q' * e → FractionLe (a * e') 0 (q' * c) (a * e) 0 (q * c)
    nearer a c q e q' e' h = omega (arith, mul-le-mul_right (a * c) h)

div-rises : (f : Format) (m : ℕ) (e : ℤ) {y y' : Float} → T (positive y) → T (positive y') → y ≼ y' → div f (fin true m e) y ≼ div f (fin true m e) y'
div-rises f m e {y} {y'} Y Y' h =
    rounds-mono (div-rounds f (fin true m e) y tt Y) (div-rounds f (fin true m e) y' tt Y')
    (mul-pos (num_pos-pos y Y) (down_pos e)) (mul-pos (num_pos-pos y' Y') (down_pos e))
    (rw (zero-mul (den y'), zero-mul (den y)) (nearer (m * up e) (down e) (num_pos y) (den y) (num_pos y') (den y') (to-fraction-positive Y Y' h)))
  where
    nearer : (a c q e q' e' : ℕ) → q * e' ≤ q' * e → FractionLe 0 (a * e) (q * c) 0 (a * e') (q' * c)
    nearer a c q e q' e' h = omega (arith, mul-le-mul_right (a * c) h)

pub div-between-left : (f : Format) {a x b : Float} (y : Float) → T (finite a) → T (finite x)
    → T (finite b) → T (positive y) → a ≼ x → x ≼ b → Between (div f a y) (div f x y) (div f b y)
div-between-left f y A X B Y h k = inl (div_mono f y A X Y h, div_mono f y X B Y k)

pub div-between-right : (f : Format) (x : Float) {c y d : Float} → T (finite x) → T (positive c)
    → T (positive y) → T (positive d) → c ≼ y → y ≼ d → Between (div f x c) (div f x y) (div f x d)
div-between-right f nan X C Y D h k = absurd X
div-between-right f (inf s) X C Y D h k = absurd X
div-between-right f (fin false m e) X C Y D h k = inr (div-falls f m e Y D k, div-falls f m e C Y h)
div-between-right f (fin true m e) X C Y D h k = inl (div-rises f m e C Y h, div-rises f m e Y D k)
