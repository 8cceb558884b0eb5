-- The first number met stands, in every formula: a number met before decides nothing but the number (`expr-carries`, `program-carries`).
-- So one that is 0 at the end was 0 all along (`expr-zero`, `program-zero`), and one that is not 0 is handed on (`program-stands`).
-- Rests on the operations' laws of `interval`.
use mathlib.Core.Path.{◌≡◌, sym, ap, ◌∙◌}
use Prim.Native.Nat.{ℕ}
use mathlib.Core.List.{List, [], ◌∷◌, ◌++◌}
use lib.ListN.{length, get_or}
use Rattle.interval.specs.refusal.First.{first_refusal}
use Rattle.interval.proofs.refusal.First.{first-zero, first-stands, first-right, first-assoc}
use Rattle.interval.specs.declared.Interval.{Interval}
use Rattle.interval.specs.Judged.{Judged}
use Rattle.interval.specs.Interval.{Interval-point}
use Rattle.interval.specs.Extension.{carry, Carries₁, Carries₂}
use Rattle.interval.proofs.Refusal.{add-carries, sub-carries, mul-carries, div-carries, sqrt-carries, sin-carries, cos-carries}
use Rattle.formula.specs.Program.{Binary, sum, difference, product, quotient, Unary, root, sine}
use Rattle.formula.specs.Program.{cosine, Expr, var, con, binary, unary, Program, ◌>>=◌, give}
use Rattle.formula.specs.Enclose.{Binary-enclose, Unary-enclose, Expr-enclose, Enclosure, enclosure, Expr-enclose_all, extend, Program-enclose, unbound}

-- ---- one operation
binary-carries : (o : Binary) → Carries₂ (Binary-enclose o)
binary-carries sum = add-carries
binary-carries difference = sub-carries
binary-carries product = mul-carries
binary-carries quotient = div-carries

unary-carries : (o : Unary) → Carries₁ (Unary-enclose o)
unary-carries root = sqrt-carries
unary-carries sine = sin-carries
unary-carries cosine = cos-carries

-- What a carried number says: 0 at the end is 0 before, and one that is not 0 is the number at the end.
carried-zero : (m n : ℕ) {r : ℕ} → r ≡ first_refusal m n → r ≡ 0 → m ≡ 0
carried-zero m n e h = (first-zero m n (sym e ∙ h)).0

carried-stands : (m n : ℕ) {r : ℕ} → r ≡ first_refusal m n → (m ≡ 0 → ⊥) → r ≡ m
carried-stands m n e h = e ∙ sym (first-stands m n h)

carry-none : (m : ℕ) (X : Interval) → ◌≡◌ {A = Judged} (record { interval = X; refusal = m }) (carry m (record { interval = X; refusal = 0 }))
carry-none m X = ap (λ (n : ℕ). record { interval = X; refusal = n }) (first-right m)

carry-twice : (m n : ℕ) (j : Judged) → carry (first_refusal m n) j ≡ carry m (carry n j)
carry-twice m n j = rw (first-assoc m n j.refusal)

-- An operation after operands that were met with m, and the same after operands that were met with none.
unary-after : (o : Unary) (m : ℕ) (p p₀ : Judged) → p ≡ carry m p₀
    → Unary-enclose o p.refusal p.interval ≡ carry m (Unary-enclose o p₀.refusal p₀.interval)
unary-after o m p p₀ e =
    rw e
    ((unary-carries o).carries (first_refusal m p₀.refusal) p₀.interval
    ∙ carry-twice m p₀.refusal (Unary-enclose o 0 p₀.interval)
    ∙ ap (carry m) (sym ((unary-carries o).carries p₀.refusal p₀.interval)))

binary-after : (o : Binary) (m : ℕ) (p p₀ q q₀ : Judged) → p ≡ carry m p₀ → q ≡ carry m q₀
    → Binary-enclose o q.refusal p.interval q.interval ≡ carry m (Binary-enclose o q₀.refusal p₀.interval q₀.interval)
binary-after o m p p₀ q q₀ e h =
    rw (e, h)
    ((binary-carries o).carries (first_refusal m q₀.refusal) p₀.interval q₀.interval
    ∙ carry-twice m q₀.refusal (Binary-enclose o 0 p₀.interval q₀.interval)
    ∙ ap (carry m) (sym ((binary-carries o).carries q₀.refusal p₀.interval q₀.interval)))

-- ---- expressions
pub expr-carries : (m : ℕ) (σ : List Interval) (e : Expr) → Expr-enclose m σ e ≡ carry m (Expr-enclose 0 σ e)
unfolding Expr-enclose
expr-carries m σ (var i) = carry-none m (get_or σ i unbound)
expr-carries m σ (con x) = carry-none m (Interval-point x)
expr-carries m σ (binary o a b) =
    let p = Expr-enclose m σ a in
    let p₀ = Expr-enclose 0 σ a in
    let e : p ≡ carry m p₀ = expr-carries m σ a in
    let h : Expr-enclose p.refusal σ b ≡ carry m (Expr-enclose p₀.refusal σ b) =
    expr-carries p.refusal σ b
    ∙ ap (λ (j : Judged). carry j.refusal (Expr-enclose 0 σ b)) e
    ∙ carry-twice m p₀.refusal (Expr-enclose 0 σ b)
    ∙ ap (carry m) (sym (expr-carries p₀.refusal σ b)) in
    binary-after o m p p₀ (Expr-enclose p.refusal σ b) (Expr-enclose p₀.refusal σ b) e h
expr-carries m σ (unary o a) = unary-after o m (Expr-enclose m σ a) (Expr-enclose 0 σ a) (expr-carries m σ a)

-- ---- programs
abbrev pub carry_all : ℕ → Enclosure → Enclosure
carry_all m c = enclosure (first_refusal m c.refusal) c.intervals

all-carries : (m : ℕ) (σ : List Interval) (es : List Expr) → Expr-enclose_all m σ es ≡ carry_all m (Expr-enclose_all 0 σ es)
unfolding Expr-enclose_all
all-carries m σ [] = ap (λ (n : ℕ). enclosure n []) (first-right m)
all-carries m σ (e ∷ es) = go (Expr-enclose m σ e) (expr-carries m σ e) (λ n. all-carries n σ es)
  where
    go : (p : Judged) → p ≡ carry m (Expr-enclose 0 σ e) → ((n : ℕ) → Expr-enclose_all n σ es ≡ carry_all n (Expr-enclose_all 0 σ es))
        → enclosure (Expr-enclose_all p.refusal σ es).refusal (p.interval ∷ (Expr-enclose_all p.refusal σ es).intervals)
        ≡ carry_all m (enclosure (Expr-enclose_all (Expr-enclose 0 σ e).refusal σ es).refusal
        ((Expr-enclose 0 σ e).interval ∷ (Expr-enclose_all (Expr-enclose 0 σ e).refusal σ es).intervals))
    go p h k = let r = (Expr-enclose 0 σ e).refusal in rw (h, k (first_refusal m r), k r, first-assoc m r (Expr-enclose_all 0 σ es).refusal)

pub program-carries : (m : ℕ) (σ : List Interval) (p : Program) → Program-enclose (enclosure m σ) p ≡ carry_all m (Program-enclose (enclosure 0 σ) p)
unfolding Program-enclose
program-carries m σ (give es) = all-carries m σ es
program-carries m σ (e >>= k) = go (Expr-enclose m σ e) (expr-carries m σ e) (λ n τ. program-carries n τ (k (var (length σ))))
  where
    go : (p : Judged) → p ≡ carry m (Expr-enclose 0 σ e)
        → ((n : ℕ) (τ : List Interval)
        → Program-enclose (enclosure n τ) (k (var (length σ))) ≡ carry_all n (Program-enclose (enclosure 0 τ) (k (var (length σ)))))
        → Program-enclose (extend σ p) (k (var (length σ))) ≡ carry_all m (Program-enclose (extend σ (Expr-enclose 0 σ e)) (k (var (length σ))))
    go p h g =
        let r = (Expr-enclose 0 σ e).refusal in
        let τ = σ ++ (Expr-enclose 0 σ e).interval ∷ [] in
        rw (h, g (first_refusal m r) τ, g r τ, first-assoc m r (Program-enclose (enclosure 0 τ) (k (var (length σ)))).refusal)

-- ---- what follows of the number
number : {j k : Judged} → j ≡ k → j.refusal ≡ k.refusal
number e = ap (λ (j : Judged). j.refusal) e

number_all : {c d : Enclosure} → c ≡ d → c.refusal ≡ d.refusal
number_all e = ap (λ (c : Enclosure). c.refusal) e

module _ (o : Binary) (m : ℕ) (X Y : Interval) where
  pub binary-zero : (Binary-enclose o m X Y).refusal ≡ 0 → m ≡ 0
  binary-zero h = carried-zero m (Binary-enclose o 0 X Y).refusal (number ((binary-carries o).carries m X Y)) h

  pub binary-stands : (m ≡ 0 → ⊥) → (Binary-enclose o m X Y).refusal ≡ m
  binary-stands h = carried-stands m (Binary-enclose o 0 X Y).refusal (number ((binary-carries o).carries m X Y)) h

module _ (o : Unary) (m : ℕ) (X : Interval) where
  pub unary-zero : (Unary-enclose o m X).refusal ≡ 0 → m ≡ 0
  unary-zero h = carried-zero m (Unary-enclose o 0 X).refusal (number ((unary-carries o).carries m X)) h

  pub unary-stands : (m ≡ 0 → ⊥) → (Unary-enclose o m X).refusal ≡ m
  unary-stands h = carried-stands m (Unary-enclose o 0 X).refusal (number ((unary-carries o).carries m X)) h

module _ (m : ℕ) (σ : List Interval) (e : Expr) where
  pub expr-zero : (Expr-enclose m σ e).refusal ≡ 0 → m ≡ 0
  expr-zero h = carried-zero m (Expr-enclose 0 σ e).refusal (number (expr-carries m σ e)) h

  pub expr-stands : (m ≡ 0 → ⊥) → (Expr-enclose m σ e).refusal ≡ m
  expr-stands h = carried-stands m (Expr-enclose 0 σ e).refusal (number (expr-carries m σ e)) h

module _ (m : ℕ) (σ : List Interval) (es : List Expr) where
  pub all-zero : (Expr-enclose_all m σ es).refusal ≡ 0 → m ≡ 0
  all-zero h = carried-zero m (Expr-enclose_all 0 σ es).refusal (number_all (all-carries m σ es)) h

  pub all-stands : (m ≡ 0 → ⊥) → (Expr-enclose_all m σ es).refusal ≡ m
  all-stands h = carried-stands m (Expr-enclose_all 0 σ es).refusal (number_all (all-carries m σ es)) h

module _ (c : Enclosure) (p : Program) where
  pub program-zero : (Program-enclose c p).refusal ≡ 0 → c.refusal ≡ 0
  program-zero h =
      carried-zero c.refusal (Program-enclose (enclosure 0 c.intervals) p).refusal (number_all (program-carries c.refusal c.intervals p)) h

  pub program-stands : (c.refusal ≡ 0 → ⊥) → (Program-enclose c p).refusal ≡ c.refusal
  program-stands h =
      carried-stands c.refusal (Program-enclose (enclosure 0 c.intervals) p).refusal (number_all (program-carries c.refusal c.intervals p)) h
