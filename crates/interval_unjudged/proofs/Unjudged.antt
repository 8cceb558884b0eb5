-- Where the inputs and what `Program-tested` lists are finite, and what `Program-divisors` lists is positive, the judged reading
-- of a formula is the unjudged one, and the number met before stands: `program-unjudged`. One induction over the language.
use mathlib.Core.Path.{◌≡◌, refl, sym, ap, ap₂, ◌∙◌}
use Prim.Native.Nat.{ℕ, zero, suc, ◌<◌}
use native.Mathlib.Nat.{le_of_suc-le-suc, not-suc-le-zero}
use mathlib.Core.List.{List, [], ◌∷◌, ◌++◌}
use lib.ListN.{length, get_or}
use lib.Dec.{T, ltb→lt}
use lib.Ieee.Fits.{and_l, and_r}
use lib.Ieee.Scale.{finite}
use Rattle.interval.proofs.refusal.First.{first-right}
use Rattle.interval.specs.declared.Interval.{Interval}
use Rattle.interval.specs.Judged.{Judged}
use Rattle.interval.specs.Contains.{Finite}
use Rattle.interval.specs.Enclosure.{not_finite, Judged-judge, Judged-add_enclosure, Judged-sub_enclosure, Judged-mul_enclosure}
use Rattle.interval.specs.Enclosure.{Judged-div_enclosure, Judged-sqrt_enclosure, Judged-sin_enclosure, Judged-cos_enclosure}
use Rattle.interval.proofs.Refusal.{finite-accepted, positive-accepted}
use Rattle.formula.specs.Program.{Binary, sum, difference, product, quotient, Unary, root, sine, cosine, Expr, var, con, binary, unary, Program, ◌>>=◌, give}
use Rattle.formula.specs.Enclose.{Binary-enclose, Unary-enclose, unbound, Expr-enclose, Enclosure, enclosure, Expr-enclose_all, extend, Program-enclose}
use Rattle.interval_unjudged.specs.means.Unjudged.{Binary-unjudged, Unary-unjudged, Expr-unjudged, Expr-unjudged_all}
use Rattle.interval_unjudged.specs.means.Unjudged.{Program-unjudged, Expr-closed, Expr-closed_all, Program-closed, Expr-result}
use Rattle.interval_unjudged.specs.means.Unjudged.{Binary-operands, Expr-tested, Expr-tested_all, Program-tested, Binary-divisor}
use Rattle.interval_unjudged.specs.means.Unjudged.{Unary-rooted, Expr-divisors, Expr-divisors_all, Program-divisors, All, Positive}
use Rattle.interval_unjudged.proofs.Finite.{add-operands, sub-operands}
use Rattle.interval_unjudged.proofs.Ordered.{mul-ordered, div-ordered}

-- ---- of all
module _ {A : Type 0} (P : A → Type 0) where
  pub all_append : (xs ys : List A) → All P xs → All P ys → All P (xs ++ ys)
  all_append [] ys a b = b
  all_append (x ∷ xs) ys a b = (a.0, all_append xs ys a.1 b)

  pub all_left : (xs ys : List A) → All P (xs ++ ys) → All P xs
  all_left [] ys a = tt
  all_left (x ∷ xs) ys a = (a.0, all_left xs ys a.1)

  pub all_right : (xs ys : List A) → All P (xs ++ ys) → All P ys
  all_right [] ys a = a
  all_right (x ∷ xs) ys a = all_right xs ys a.1

  pub all_get_d : (xs : List A) (d : A) (i : ℕ) → i < length xs → All P xs → P (get_or xs i d)
  all_get_d [] d i h a = absurd (not-suc-le-zero h)
  all_get_d (x ∷ xs) d zero h a = a.0
  all_get_d (x ∷ xs) d (suc i) h a = all_get_d xs d i (le_of_suc-le-suc h) a.1

-- ---- one operation
abbrev judged : ℕ → Interval → Judged
judged m X = record { interval = X; refusal = m }

-- A finite interval is judged with the number met before.
judge-finite : (m : ℕ) (X : Interval) → Finite X → Judged-judge m X ≡ judged m X
unfolding Judged-judge
judge-finite m X f = rw (finite-accepted X f, ← first-right m)

binary-unjudged : (o : Binary) (m : ℕ) (X Y : Interval) → Finite X → Finite Y → All Positive (Binary-divisor o Y) → Finite (Binary-unjudged o X Y)
    → Binary-enclose o m X Y ≡ judged m (Binary-unjudged o X Y)
unfolding Judged-add_enclosure Judged-sub_enclosure Judged-mul_enclosure Judged-div_enclosure
binary-unjudged sum m X Y fx fy p f = judge-finite m (Binary-unjudged sum X Y) f
binary-unjudged difference m X Y fx fy p f = judge-finite m (Binary-unjudged difference X Y) f
binary-unjudged product m X Y fx fy p f = rw (← mul-ordered X Y fx fy) (judge-finite m (Binary-unjudged product X Y) f)
binary-unjudged quotient m X Y fx fy p f =
    rw (← div-ordered X Y fx p.0, positive-accepted Y p.0.low, ← first-right m) (judge-finite m (Binary-unjudged quotient X Y) f)

unary-unjudged : (o : Unary) (m : ℕ) (X : Interval) → All Positive (Unary-rooted o X) → Finite (Unary-unjudged o X)
    → Unary-enclose o m X ≡ judged m (Unary-unjudged o X)
unfolding Judged-sqrt_enclosure Judged-sin_enclosure Judged-cos_enclosure
unary-unjudged root m X p f = rw (positive-accepted X p.0.low, ← first-right m) (judge-finite m (Unary-unjudged root X) f)
unary-unjudged sine m X p f = judge-finite m (Unary-unjudged sine X) f
unary-unjudged cosine m X p f = judge-finite m (Unary-unjudged cosine X) f

-- ---- expressions
module _ (σ : List Interval) (s : All Finite σ) where
  result-finite : (e : Expr) → T (Expr-closed σ e) → All Finite (Expr-result σ e) → Finite (Expr-unjudged σ e)
  unfolding Expr-unjudged
  result-finite (var i) c a = all_get_d Finite σ unbound i (ltb→lt i (length σ) c) s
  result-finite (con x) c a = record { low = c; high = c }
  result-finite (binary o a b) c l = l.0
  result-finite (unary o a) c l = l.0

  results-finite : (a b : Expr) → T (Expr-closed σ a) → T (Expr-closed σ b) → All Finite (Expr-result σ a ++ Expr-result σ b)
      → Finite (Expr-unjudged σ a) × Finite (Expr-unjudged σ b)
  results-finite a b c d l =
      (result-finite a c (all_left Finite (Expr-result σ a) (Expr-result σ b) l), result-finite b d (all_right Finite (Expr-result σ a) (Expr-result σ b) l))

  -- Operands are finite where the result is, or because they were asked for.
  operands-finite : (o : Binary) (a b : Expr) → T (Expr-closed σ a) → T (Expr-closed σ b) → All Finite (Binary-operands o (Expr-result σ a ++ Expr-result σ b))
      → Finite (Binary-unjudged o (Expr-unjudged σ a) (Expr-unjudged σ b)) → Finite (Expr-unjudged σ a) × Finite (Expr-unjudged σ b)
  operands-finite sum a b c d l f = add-operands (Expr-unjudged σ a) (Expr-unjudged σ b) f
  operands-finite difference a b c d l f = sub-operands (Expr-unjudged σ a) (Expr-unjudged σ b) f
  operands-finite product a b c d l f = results-finite a b c d l
  operands-finite quotient a b c d l f = results-finite a b c d l

  expr-unjudged : (m : ℕ) (e : Expr) → T (Expr-closed σ e) → All Finite (Expr-tested σ e) → All Positive (Expr-divisors σ e) → Finite (Expr-unjudged σ e)
      → Expr-enclose m σ e ≡ judged m (Expr-unjudged σ e)
  unfolding Expr-enclose Expr-unjudged
  expr-unjudged m (var i) c t d f = refl
  expr-unjudged m (con x) c t d f = refl
  expr-unjudged m (binary o a b) c t d f =
      let A = Expr-unjudged σ a in
      let B = Expr-unjudged σ b in
      let ca = and_l (Expr-closed σ a) (Expr-closed σ b) c in
      let cb = and_r (Expr-closed σ a) (Expr-closed σ b) c in
      let operands = Binary-operands o (Expr-result σ a ++ Expr-result σ b) in
      let below = Expr-tested σ a ++ Expr-tested σ b in
      let tb = all_right Finite operands below t in
      let divisor = Binary-divisor o B in
      let divisors = Expr-divisors σ a ++ Expr-divisors σ b in
      let db = all_right Positive divisor divisors d in
      let g = operands-finite o a b ca cb (all_left Finite operands below t) f in
      let p =
      expr-unjudged m a ca (all_left Finite (Expr-tested σ a) (Expr-tested σ b) tb) (all_left Positive (Expr-divisors σ a) (Expr-divisors σ b) db) g.0 in
      let q = expr-unjudged m b cb (all_right Finite (Expr-tested σ a) (Expr-tested σ b) tb)
      (all_right Positive (Expr-divisors σ a) (Expr-divisors σ b) db) g.1 in
      rw (p, q) (binary-unjudged o m A B g.0 g.1 (all_left Positive divisor divisors d) f)
  expr-unjudged m (unary o a) c t d f =
      let A = Expr-unjudged σ a in
      let rooted = Unary-rooted o A in
      let g = result-finite a c (all_left Finite (Expr-result σ a) (Expr-tested σ a) t) in
      let p = expr-unjudged m a c (all_right Finite (Expr-result σ a) (Expr-tested σ a) t) (all_right Positive rooted (Expr-divisors σ a) d) g in
      rw p (unary-unjudged o m A (all_left Positive rooted (Expr-divisors σ a) d) f)

  all-unjudged : (m : ℕ) (es : List Expr) → T (Expr-closed_all σ es) → All Finite (Expr-tested_all σ es) → All Positive (Expr-divisors_all σ es)
      → Expr-enclose_all m σ es ≡ enclosure m (Expr-unjudged_all σ es)
  unfolding Expr-enclose_all Expr-unjudged_all
  all-unjudged m [] c t d = refl
  all-unjudged m (e ∷ es) c t d =
      let ce = and_l (Expr-closed σ e) (Expr-closed_all σ es) c in
      let r = Expr-result σ e in
      let te = Expr-tested σ e in
      let ts = Expr-tested_all σ es in
      let u = all_right Finite r (te ++ ts) t in
      let h = expr-unjudged m e ce (all_left Finite te ts u) (all_left Positive (Expr-divisors σ e) (Expr-divisors_all σ es) d)
      (result-finite e ce (all_left Finite r (te ++ ts) t)) in
      rw (
        h,
        all-unjudged m es (and_r (Expr-closed σ e) (Expr-closed_all σ es) c)
            (all_right Finite te ts u) (all_right Positive (Expr-divisors σ e) (Expr-divisors_all σ es) d),
      )

-- ---- programs
pub program-unjudged : (p : Program) (m : ℕ) (σ : List Interval) → All Finite σ
    → T (Program-closed σ p) → All Finite (Program-tested σ p) → All Positive (Program-divisors σ p)
    → Program-enclose (enclosure m σ) p ≡ enclosure m (Program-unjudged σ p)
unfolding Program-enclose Program-unjudged
program-unjudged (give es) m σ s c t d = all-unjudged σ s m es c t d
program-unjudged (e >>= k) m σ s c t d =
    let X = Expr-unjudged σ e in
    let τ = σ ++ X ∷ [] in
    let rest = k (var (length σ)) in
    let ce = and_l (Expr-closed σ e) (Program-closed τ rest) c in
    let r = Expr-result σ e in
    let te = Expr-tested σ e in
    let ts = Program-tested τ rest in
    let u = all_right Finite r (te ++ ts) t in
    let f = result-finite σ s e ce (all_left Finite r (te ++ ts) t) in
    let h = expr-unjudged σ s m e ce (all_left Finite te ts u) (all_left Positive (Expr-divisors σ e) (Program-divisors τ rest) d) f in
    rw h
    (program-unjudged (k (var (length σ))) m τ (all_append Finite σ (X ∷ []) s (f, tt)) (and_r (Expr-closed σ e) (Program-closed τ rest) c)
    (all_right Finite te ts u) (all_right Positive (Expr-divisors σ e) (Program-divisors τ rest) d))
