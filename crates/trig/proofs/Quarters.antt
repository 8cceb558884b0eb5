-- The sine and the cosine of u as the code takes them, over any entries: H of the folded angle, and H of a quarter turn less it, each with its quarter's sign
-- (`sin-folded`, `cos-folded`).
-- The folded angle is that of `fold-odd` and `fold-even`.
use mathlib.Core.Path.{◌≡◌, refl, sym, ap, subst, ◌∙◌}
use mathlib.Core.Bool.{Bool, true, false, not, cond, beq, ◌||◌}
use Prim.Native.Nat.{ℕ, zero, suc, ◌+◌, ◌-◌, ◌/◌, ◌%◌, ◌≤◌, ◌<◌, min}
use native.Mathlib.Omega.{arith}
use lib.IntN.{pos, neg_ℤ, neg_ℤ-neg_ℤ}
use lib.Dec.{eqb, leb}
use Rattle.sine_table.specs.Table.{quarter_turn}
use Rattle.sine_table.specs.QuarterSine.{quarter_sine_over}
use Rattle.trig.specs.Units.{sin_quarter, sin_units_over, cos_units_over, with_sign}

-- What the code folds v to in the quarter k.
abbrev pub fold : ℕ → ℕ → ℕ
fold k v = cond (eqb (k % 2) 1) (quarter_turn - v) v

pub fold-odd : (k v : ℕ) → k % 2 ≡ 1 → quarter_turn - v ≡ fold k v
fold-odd k v e = ap (λ (x : ℕ). cond (eqb x 1) (quarter_turn - v) v) (sym e)

pub fold-even : (k v : ℕ) → k % 2 ≡ 0 → v ≡ fold k v
fold-even k v e = ap (λ (x : ℕ). cond (eqb x 1) (quarter_turn - v) v) (sym e)

fold-le : (k v : ℕ) → v ≤ quarter_turn → fold k v ≤ quarter_turn
fold-le k v h = go (eqb (k % 2) 1)
  where
    go : (b : Bool) → cond b (quarter_turn - v) v ≤ quarter_turn
    go true = omega arith
    go false = h

quarter-sin : (H : ℕ → ℕ) (s : Bool) (k v : ℕ) → k < 4 → with_sign (not (beq s (leb 2 k))) (pos (H (fold k v))) ≡ with_sign s (sin_quarter H k v)
unfolding sin_quarter
quarter-sin H true zero v h = refl
quarter-sin H true (suc zero) v h = refl
quarter-sin H true (suc (suc zero)) v h = sym (neg_ℤ-neg_ℤ (pos (H v)))
quarter-sin H true (suc (suc (suc zero))) v h = sym (neg_ℤ-neg_ℤ (pos (H (quarter_turn - v))))
quarter-sin H false zero v h = refl
quarter-sin H false (suc zero) v h = refl
quarter-sin H false (suc (suc zero)) v h = refl
quarter-sin H false (suc (suc (suc zero))) v h = refl
quarter-sin H s (suc (suc (suc (suc k)))) v h = absurd (omega arith)

-- j is the number of the next quarter.
quarter-cos : (H : ℕ → ℕ) (k j v : ℕ) → k < 4 → j ≡ (k + 1) % 4 → v ≤ quarter_turn
    → with_sign (eqb k 1 || eqb k 2) (pos (H (quarter_turn - fold k v))) ≡ sin_quarter H j v
unfolding sin_quarter
quarter-cos H zero j v h e l = subst (λ (i : ℕ). pos (H (quarter_turn - v)) ≡ sin_quarter H i v) (sym e) refl
quarter-cos H (suc zero) j v h e l =
    subst (λ (i : ℕ). neg_ℤ (pos (H (quarter_turn - (quarter_turn - v)))) ≡ sin_quarter H i v) (sym e)
    (ap (λ (n : ℕ). neg_ℤ (pos (H n))) (let z : quarter_turn - (quarter_turn - v) ≡ v = omega arith in z))
quarter-cos H (suc (suc zero)) j v h e l = subst (λ (i : ℕ). neg_ℤ (pos (H (quarter_turn - v))) ≡ sin_quarter H i v) (sym e) refl
quarter-cos H (suc (suc (suc zero))) j v h e l =
    subst (λ (i : ℕ). pos (H (quarter_turn - (quarter_turn - v))) ≡ sin_quarter H i v) (sym e)
    (ap (λ (n : ℕ). pos (H n)) (let z : quarter_turn - (quarter_turn - v) ≡ v = omega arith in z))
quarter-cos H (suc (suc (suc (suc k)))) j v h e l = absurd (omega arith)

pub folded-le : (u w : ℕ) → w ≡ fold (u / quarter_turn % 4) (u % quarter_turn) → w ≤ quarter_turn
folded-le u w W = rw W (fold-le (u / quarter_turn % 4) (u % quarter_turn) (omega arith))

module _ (T : ℕ → ℕ) (u w n : ℕ) (W : w ≡ fold (u / quarter_turn % 4) (u % quarter_turn)) where
  pub sin-folded : (s : Bool) → n ≡ quarter_sine_over T (min w quarter_turn)
      → with_sign (not (beq s (leb 2 (u / quarter_turn % 4)))) (pos n) ≡ with_sign s (sin_units_over T u)
  unfolding sin_units_over
  sin-folded s N =
      let l = folded-le u w W in
      let e : n ≡ quarter_sine_over T (fold (u / quarter_turn % 4) (u % quarter_turn)) =
      N ∙ ap (quarter_sine_over T) (let z : min w quarter_turn ≡ w = omega (arith, l) in z ∙ W)
      in
      ap (λ (m : ℕ). with_sign (not (beq s (leb 2 (u / quarter_turn % 4)))) (pos m)) e
      ∙ quarter-sin (quarter_sine_over T) s (u / quarter_turn % 4) (u % quarter_turn) (omega arith)

  pub cos-folded : n ≡ quarter_sine_over T (quarter_turn - w)
      → with_sign (eqb (u / quarter_turn % 4) 1 || eqb (u / quarter_turn % 4) 2) (pos n) ≡ cos_units_over T u
  unfolding cos_units_over sin_units_over
  cos-folded N =
      let e : n ≡ quarter_sine_over T (quarter_turn - fold (u / quarter_turn % 4) (u % quarter_turn)) =
      N ∙ ap (λ (x : ℕ). quarter_sine_over T (quarter_turn - x)) W
      in
      ap (λ (m : ℕ). with_sign (eqb (u / quarter_turn % 4) 1 || eqb (u / quarter_turn % 4) 2) (pos m)) e
      ∙ quarter-cos (quarter_sine_over T) (u / quarter_turn % 4) ((u + quarter_turn) / quarter_turn % 4) (u % quarter_turn) (omega arith) (omega arith) (omega arith)
      ∙ ap (sin_quarter (quarter_sine_over T) ((u + quarter_turn) / quarter_turn % 4)) (let z : u % quarter_turn ≡ (u + quarter_turn) % quarter_turn = omega arith in z)
