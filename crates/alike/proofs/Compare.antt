-- Strict comparisons of alike floats come out the same, `lt-alike`; so least and greatest of them are alike, by a comparison alone (`lesser-alike`,
-- `greater-alike`) and as document 01 has them (`min-alike`, `max-alike`).
use mathlib.Core.Path.{◌≡◌, refl}
use mathlib.Core.Bool.{Bool, true, false, not, cond}
use Prim.Native.Nat.{ℕ, ◌+◌, ◌*◌, ◌≤◌}
use native.Mathlib.Omega.{arith}
use lib.Dec.{T, ltb→lt}
use lib.Ieee.{Float, nan, inf, fin, below, up, down, lt, le, is_nan}
use Rattle.own_rounding.specs.rounding.Order.{◌≼◌, Number}
use Rattle.own_rounding.proofs.rounding.Rational.{pos_part, neg_part, pos_part-mul, neg_part-mul}
use Rattle.own_rounding.proofs.rounding.Order.{not-lt-≼, to-fraction}
use Rattle.own_rounding.specs.float32.MinMax.{min_num, max_num}
use Rattle.interval_unjudged.specs.means.Ordered.{lesser, greater}
use Rattle.own_rounding.specs.means.Alike.{Alike}
use Rattle.alike.proofs.Equivalence.{alike-sym, alike-left, alike_right, alike-≼}

-- ---- what is strictly below is not above
not-both : (s t : Bool) (a b : ℕ) → T (below s a t b) → pos_part t b + neg_part s a ≤ pos_part s a + neg_part t b → ⊥
not-both false false a b h k = let l = ltb→lt a b h in omega arith
not-both false true a b h k = h
not-both true false a b h k = let l = ltb→lt 0 (a + b) h in omega arith
not-both true true a b h k = let l = ltb→lt b a h in omega arith

pub lt-not-≼ : (x y : Float) → T (lt x y) → y ≼ x → ⊥
unfolding lt
lt-not-≼ nan y h k = h
lt-not-≼ (inf s) nan h k = h
lt-not-≼ (inf true) (inf true) h k = h
lt-not-≼ (inf true) (inf false) h k = unfold le in k.holds
lt-not-≼ (inf false) (inf t) h k = h
lt-not-≼ (inf true) (fin t n d) h k = unfold le in k.holds
lt-not-≼ (inf false) (fin t n d) h k = h
lt-not-≼ (fin s m e) nan h k = h
lt-not-≼ (fin s m e) (inf true) h k = h
lt-not-≼ (fin s m e) (inf false) h k = unfold le in k.holds
lt-not-≼ (fin s m e) (fin t n d) h k =
    not-both s t (m * up e * down d) (n * up d * down e) h
    (rw (pos_part-mul s (m * up e) (down d), neg_part-mul s (m * up e) (down d), pos_part-mul t (n * up d) (down e), neg_part-mul t (n * up d) (down e))
    (to-fraction {x = fin t n d} {y = fin s m e} tt tt k))

-- ---- tests
same_test : (b c : Bool) → (T b → T c) → (T c → T b) → b ≡ c
same_test true true h k = refl
same_test true false h k = absurd (h tt)
same_test false true h k = absurd (k tt)
same_test false false h k = refl

refute : (b : Bool) → (T (not b) → ⊥) → T b
refute true h = tt
refute false h = absurd (h tt)

module _ {x x' y y' : Float} (a : Alike x x') (b : Alike y y') where
  lt-goes : T (lt x y) → T (lt x' y')
  lt-goes h = refute (lt x' y') (λ n. lt-not-≼ x y h (alike-≼ (alike-sym b) (alike-sym a) (not-lt-≼ y' x' (alike_right b) (alike_right a) n)))

module _ {x x' y y' : Float} (a : Alike x x') (b : Alike y y') where
  lt-alike : lt x y ≡ lt x' y'
  lt-alike = same_test (lt x y) (lt x' y') (lt-goes a b) (lt-goes (alike-sym a) (alike-sym b))

-- ---- least and greatest
cond-alike : {x x' y y' : Float} (b : Bool) → Alike x x' → Alike y y' → Alike (cond b x y) (cond b x' y')
cond-alike true p q = p
cond-alike false p q = q

is_number : (x : Float) → Number x → is_nan x ≡ false
is_number x n = go (is_nan x) n
  where
    go : (b : Bool) → T (not b) → b ≡ false
    go true h = absurd h
    go false h = refl

module _ {x x' y y' : Float} (a : Alike x x') (b : Alike y y') where
  pub lesser-alike : Alike (lesser x y) (lesser x' y')
  unfolding lesser
  lesser-alike = rw (lt-alike b a) (cond-alike (lt y' x') b a)

  pub greater-alike : Alike (greater x y) (greater x' y')
  unfolding greater
  greater-alike = rw (lt-alike a b) (cond-alike (lt x' y') b a)

  pub min-alike : Alike (min_num x y) (min_num x' y')
  unfolding min_num
  min-alike = rw (is_number x (alike-left a), is_number x' (alike_right a), lt-alike b a) (cond-alike (lt y' x') b a)

  pub max-alike : Alike (max_num x y) (max_num x' y')
  unfolding max_num
  max-alike = rw (is_number x (alike-left a), is_number x' (alike_right a), lt-alike a b) (cond-alike (lt x' y') b a)
