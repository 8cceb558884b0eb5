-- Alike floats are the same with +0 added, for all floats: `alike-sum`. So boxes that lie in each other are the same with their zeros +0
-- (`same-zeros`), and so are answers (`answers-zeros`).
use Prim.Native.Nat.{ℕ, ◌-◌, ◌*◌, ◌≤◌, ◌<◌}
use mathlib.Core.Path.{◌≡◌, refl, sym, ap, ap₂, ◌∙◌}
use mathlib.Core.Logic.{inl, inr}
use mathlib.Core.Bool.{Bool, true, false, cond, ◌&&◌}
use native.Mathlib.Nat.{mul-pos, eq-zero-or-pos}
use native.Mathlib.Omega.{arith}
use lib.IntN.{ℤ}
use lib.Dec.{T, ltb, ltb→lt, lt→ltb}
use lib.Ieee.{Float, nan, inf, fin, Format, binary32, up, down, round, sum, add, le, of_bits}
use lib.Ieee.Fits.{down_pos}
use lib.Ieee.Bits.{is_true}
use lib.Ieee.Scale.{round_same}
use Rattle.float32.specs.rounding.Order.{◌≼◌}
use Rattle.float32.proofs.rounding.Rational.{pos_part, neg_part, FractionLe}
use Rattle.float32.proofs.rounding.Order.{to-fraction}
use Rattle.float32.specs.Operators.{◌⊕◌, positive_zero}
use Rattle.own_rounding.specs.means.Alike.{Alike}
use Rattle.bounds3.specs.declared.Bounds3f.{Bounds3f}
use Rattle.bounds3.specs.Inside.{Subset}
use Rattle.transform.specs.declared.BoundsAnswer.{BoundsAnswer}
use Rattle.transform.specs.declared.BoundsAnswer.TheVariants.{Bounds}
use Rattle.bounds_query.specs.Same.{BoundsAnswer-Same, same-box, same-refusal}
use Rattle.bounds_query.specs.Zeros.{Bounds3f-positive_zeros, BoundsAnswer-positive_zeros}

-- ---- a sum with +0
-- It rounds the float's own fraction; a zero has the sign +.
sum-zero : (f : Format) (s : Bool) (a c : ℕ) → sum f s a false 0 c ≡ round f (s && ltb 0 a) a c
unfolding sum
sum-zero f false a c = ap (λ (n : ℕ). round f false n c) (omega arith)
sum-zero f true a c = go (ltb a 0) (ltb→lt a 0)
  where
    go : (u : Bool) → (T u → a < 0) → cond u (round f false (0 - a) c) (round f (ltb 0 a) (a - 0) c) ≡ round f (ltb 0 a) a c
    go true h = absurd (let l = h tt in omega arith)
    go false h = ap (λ (n : ℕ). round f (ltb 0 a) n c) (omega arith)

add-rounded : (s : Bool) (m : ℕ) (e : ℤ) → fin s m e ⊕ positive_zero ≡ round binary32 (s && ltb 0 (m * up e)) (m * up e) (down e)
unfolding add of_bits
add-rounded s m e =
    ap (λ (n : ℕ). sum binary32 s (m * up e * 1) false n (down e * 1)) (none (down e))
    ∙ sum-zero binary32 s (m * up e * 1) (down e * 1)
    ∙ ap₂ (λ (a c : ℕ). round binary32 (s && ltb 0 a) a c) (once (m * up e)) (once (down e))
  where
    once : (n : ℕ) → n * 1 ≡ n
    once n = omega arith

    none : (d : ℕ) → 0 * 1 * d ≡ 0
    none d = omega arith

-- ---- equal fractions
zero-factor : (a d : ℕ) → 0 < d → a * d ≤ 0 → a ≡ 0
zero-factor a d D h = elim (eq-zero-or-pos a) [ inl z ↦ z | inr p ↦ absurd (let q : 0 < a * d = mul-pos p D in omega arith) ]

zero-sign : (s : Bool) → (s && ltb 0 0) ≡ false
zero-sign true = refl
zero-sign false = refl

module _ (f : Format) (a b c d : ℕ) (C : 0 < c) (D : 0 < d) where
  round-zeros : (s t : Bool) → a ≡ 0 → b ≡ 0 → round f (s && ltb 0 a) a c ≡ round f (t && ltb 0 b) b d
  round-zeros s t z w = rw (z, w, zero-sign s, zero-sign t) (round_same f false 0 c 0 d C D (omega arith))

  round-negatives : a * d ≡ b * c → round f (ltb 0 a) a c ≡ round f (ltb 0 b) b d
  round-negatives h = elim (eq-zero-or-pos a) [
    | inl z ↦ round-zeros true true z (zero-factor b c C (let k : 0 * d ≡ b * c = rw z at h in omega arith))
    | inr p ↦ elim (eq-zero-or-pos b) [
      | inl w ↦ absurd (let z : a ≡ 0 = zero-factor a d D (let k : a * d ≡ 0 * c = rw w at h in omega arith) in omega arith)
      | inr q ↦ rw (is_true (ltb 0 a) (lt→ltb 0 a p), is_true (ltb 0 b) (lt→ltb 0 b q)) (round_same f true a c b d C D h)
    ]
  ]

  round-equal : (s t : Bool) → FractionLe (pos_part s a) (neg_part s a) c (pos_part t b) (neg_part t b) d
      → FractionLe (pos_part t b) (neg_part t b) d (pos_part s a) (neg_part s a) c
      → round f (s && ltb 0 a) a c ≡ round f (t && ltb 0 b) b d
  round-equal false false h k = round_same f false a c b d C D (omega arith)
  round-equal true true h k = round-negatives (omega arith)
  round-equal false true h k = round-zeros false true (zero-factor a d D (omega arith)) (zero-factor b c C (omega arith))
  round-equal true false h k = round-zeros true false (zero-factor a d D (omega arith)) (zero-factor b c C (omega arith))

pub alike-sum : {x y : Float} → Alike x y → x ⊕ positive_zero ≡ y ⊕ positive_zero
alike-sum {x} {y} e = go x y e.to e.from
  where
    go : (x y : Float) → x ≼ y → y ≼ x → x ⊕ positive_zero ≡ y ⊕ positive_zero
    go nan y h k = absurd (unfold le in h.holds)
    go (inf s) nan h k = absurd (unfold le in h.holds)
    go (inf true) (inf true) h k = refl
    go (inf true) (inf false) h k = absurd (unfold le in k.holds)
    go (inf false) (inf true) h k = absurd (unfold le in h.holds)
    go (inf false) (inf false) h k = refl
    go (inf true) (fin t n d) h k = absurd (unfold le in k.holds)
    go (inf false) (fin t n d) h k = absurd (unfold le in h.holds)
    go (fin s m e) nan h k = absurd (unfold le in h.holds)
    go (fin s m e) (inf true) h k = absurd (unfold le in h.holds)
    go (fin s m e) (inf false) h k = absurd (unfold le in k.holds)
    go (fin s m e) (fin t n d) h k =
        add-rounded s m e
        ∙ round-equal binary32 (m * up e) (n * up d) (down e) (down d) (down_pos e) (down_pos d) s t
        (to-fraction {x = fin s m e} {y = fin t n d} tt tt h) (to-fraction {x = fin t n d} {y = fin s m e} tt tt k)
        ∙ sym (add-rounded t n d)

-- ---- boxes and answers
pub same-zeros : {a b : Bounds3f} → Subset a b → Subset b a → Bounds3f-positive_zeros a ≡ Bounds3f-positive_zeros b
unfolding Bounds3f-positive_zeros
same-zeros {a} {b} s t =
    rw (
      ends t.x.0 s.x.0,
      ends t.y.0 s.y.0,
      ends t.z.0 s.z.0,
      ends s.x.1 t.x.1,
      ends s.y.1 t.y.1,
      ends s.z.1 t.z.1,
    )
  where
    ends : {x y : Float} → x ≼ y → y ≼ x → x ⊕ positive_zero ≡ y ⊕ positive_zero
    ends h k = alike-sum (record { to = h; from = k })

pub answers-zeros : {r s : BoundsAnswer} → BoundsAnswer-Same r s → BoundsAnswer-positive_zeros r ≡ BoundsAnswer-positive_zeros s
unfolding BoundsAnswer-positive_zeros
answers-zeros (same-box s t) = ap Bounds (same-zeros s t)
answers-zeros (same-refusal n) = refl
