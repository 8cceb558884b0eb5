-- H never falls, `quarter_sine-mono`, from 0 at 0 (`quarter_sine-zero`) to 2 ^ 30 at a quarter turn (`quarter_sine-one`): within two neighbours by the
-- straight line, across entries by the table's rise. H over any entries begins at the first of the table's 2,049, `quarter_sine_over-zero`, and ends at the last,
-- `quarter_sine_over-one`; a quarter turn less an angle takes the angle's own division, `quarter_sine_over-rest`. Over the entries of T it is H,
-- `quarter_sine_over-table`.
use mathlib.Core.Path.{◌≡◌, refl, sym, ap, ap₂, subst, ◌∙◌}
use mathlib.Core.Logic.{inl, inr}
use Prim.Native.Nat.{ℕ, zero, suc, ◌+◌, ◌-◌, ◌*◌, ◌/◌, ◌%◌, ◌^◌, ◌≤◌, ◌<◌}
use native.Mathlib.Nat.{le_refl, le_trans, le_of_eq, eq-or-lt_of_le, mul-le-mul_left}
use native.Mathlib.Decide.{dec_lt}
use native.Mathlib.Omega.{arith}
use Rattle.sine_table.specs.Table.{quarter_turn, sine_entry, sine_table}
use Rattle.sine_table.specs.QuarterSine.{line, quarter_sine_over, quarter_sine, entry, computing}
use Rattle.sine_table.proofs.Entries.{sine_table-right, entry-mono}

-- Between rising entries the line is a whole number above the first.
line-above : (a b r : ℕ) → a ≤ b → r ≤ quarter_turn → line a b r ≡ a + (b - a) * r / quarter_turn
line-above a b r h k = sum a (b - a) r (quarter_turn - r) b (omega arith) (omega arith)
  where
    sum : (a d r s b : ℕ) → s + r ≡ quarter_turn → b ≡ a + d → (a * s + b * r) / quarter_turn ≡ a + d * r / quarter_turn
    sum a d r s b e f =
        let p : a * (s + r) ≡ a * quarter_turn = ap (λ (n : ℕ). a * n) e in
        let q : b * r ≡ (a + d) * r = ap (λ (n : ℕ). n * r) f in
        omega (arith, p, q)

line-ge : (a b r : ℕ) → a ≤ b → r ≤ quarter_turn → a ≤ line a b r
line-ge a b r h k = let e = line-above a b r h k in omega (arith, e)

line-le : (a b r : ℕ) → a ≤ b → r < quarter_turn → line a b r ≤ b
line-le a b r h k =
    let e = line-above a b r h (let l : r ≤ quarter_turn = omega arith in l) in
    let p : (b - a) * r ≤ (b - a) * quarter_turn = mul-le-mul_left (b - a) (let l : r ≤ quarter_turn = omega arith in l) in
    omega (arith, e, p)

line-mono : (a b r s : ℕ) → a ≤ b → r ≤ s → s ≤ quarter_turn → line a b r ≤ line a b s
line-mono a b r s g h k =
    let e = line-above a b r g (le_trans h k) in
    let f = line-above a b s g k in
    let p : (b - a) * r ≤ (b - a) * s = mul-le-mul_left (b - a) h in
    omega (arith, e, f, p)

-- The sine at r of Q parts past the entry i.
abbrev past : ℕ → ℕ → ℕ
past i r = line (sine_entry i) (sine_entry (i + 1)) r

past-le : (i r : ℕ) → i < 2048 → r < quarter_turn → past i r ≤ sine_entry (i + 1)
past-le i r h l = line-le (sine_entry i) (sine_entry (i + 1)) r (entry-mono i (i + 1) (omega arith) (omega arith)) l

past-later : (i j r s : ℕ) → i < j → j < 2048 → r < quarter_turn → s < quarter_turn → past i r ≤ past j s
past-later i j r s p k l m =
    le_trans (past-le i r (omega arith) l)
    (le_trans (entry-mono (i + 1) j (omega arith) (omega arith))
    (line-ge (sine_entry j) (sine_entry (j + 1)) s (entry-mono j (j + 1) (omega arith) (omega arith)) (omega arith)))

past_same : (i j r s : ℕ) → i ≡ j → i < 2048 → r ≤ s → s < quarter_turn → past i r ≤ past j s
past_same i j r s e k h m =
    subst (λ (n : ℕ). past i r ≤ past n s) e
    (line-mono (sine_entry i) (sine_entry (i + 1)) r s (entry-mono i (i + 1) (omega arith) (omega arith)) h (omega arith))

parts-mono : (v w : ℕ) → v ≤ w → v * 2048 / quarter_turn ≡ w * 2048 / quarter_turn → v * 2048 % quarter_turn ≤ w * 2048 % quarter_turn
parts-mono v w h e = omega arith

pub quarter_sine-zero : quarter_sine 0 ≡ 0
unfolding computing
quarter_sine-zero = refl

pub quarter_sine-one : quarter_sine quarter_turn ≡ 2 ^ 30
unfolding computing
quarter_sine-one = refl

pub quarter_sine-le-one : (v : ℕ) → v ≤ quarter_turn → quarter_sine v ≤ 2 ^ 30
quarter_sine-le-one v h = elim (eq-or-lt_of_le h) [
  | inl e ↦ le_of_eq (ap quarter_sine e ∙ quarter_sine-one)
  | inr l ↦ unfold quarter_sine quarter_sine_over in
      le_trans (past-le (v * 2048 / quarter_turn) (v * 2048 % quarter_turn) (omega arith) (omega arith))
      (le_trans (entry-mono (v * 2048 / quarter_turn + 1) 2048 (omega arith) (le_refl 2048))
      (le_of_eq (sym (sine_table-right.rule 2048 (omega arith)) ∙ sine_table-right.last)))
]

-- Below a quarter turn both neighbours stand in the table.
below-mono : (v w : ℕ) → v ≤ w → w < quarter_turn → quarter_sine v ≤ quarter_sine w
unfolding quarter_sine quarter_sine_over
below-mono v w h k = elim (dec_lt (v * 2048 / quarter_turn) (w * 2048 / quarter_turn)) [
  | yes p ↦
      past-later (v * 2048 / quarter_turn) (w * 2048 / quarter_turn) (v * 2048 % quarter_turn) (w * 2048 % quarter_turn)
      p (omega arith) (omega arith) (omega arith)
  | no p ↦
      let e : v * 2048 / quarter_turn ≡ w * 2048 / quarter_turn = omega arith in
      past_same (v * 2048 / quarter_turn) (w * 2048 / quarter_turn) (v * 2048 % quarter_turn) (w * 2048 % quarter_turn)
      e (omega arith) (parts-mono v w h e) (omega arith)
]

pub quarter_sine-mono : (v w : ℕ) → v ≤ w → w ≤ quarter_turn → quarter_sine v ≤ quarter_sine w
quarter_sine-mono v w h k = elim (eq-or-lt_of_le k) [
  | inl e ↦ le_trans (quarter_sine-le-one v (le_trans h k)) (le_of_eq (sym (ap quarter_sine e ∙ quarter_sine-one)))
  | inr l ↦ below-mono v w h l
]

-- ---- H over any entries

-- At a quarter turn it is the last entry.
pub quarter_sine_over-one : (T : ℕ → ℕ) → quarter_sine_over T quarter_turn ≡ T 2048
unfolding quarter_sine_over
quarter_sine_over-one T = start (T 2048) (T 2049)
  where
    start : (a b : ℕ) → line a b 0 ≡ a
    start a b = omega arith

-- At 0 it is the first.
pub quarter_sine_over-zero : (T : ℕ → ℕ) → quarter_sine_over T 0 ≡ T 0
unfolding quarter_sine_over
quarter_sine_over-zero T = start (T 0) (T 1)
  where
    start : (a b : ℕ) → line a b 0 ≡ a
    start a b = omega arith

-- A quarter turn less v, by the division that v takes: v is r parts past the entry i, and it is Q - r parts past the entry 2047 - i.
pub quarter_sine_over-rest : (T : ℕ → ℕ) (v : ℕ) → v < quarter_turn
    → quarter_sine_over T (quarter_turn - v)
    ≡ line (T (2047 - v * 2048 / quarter_turn)) (T (2048 - v * 2048 / quarter_turn)) (quarter_turn - v * 2048 % quarter_turn)
unfolding quarter_sine_over
quarter_sine_over-rest T v h = go (v * 2048 / quarter_turn) (v * 2048 % quarter_turn) (omega arith) (omega arith) (omega arith)
  where
    -- at an entry itself the line begins there, or ends there
    ends : (a b c : ℕ) → line a b 0 ≡ line c a quarter_turn
    ends a b c = omega arith

    quotient : (n i r : ℕ) → n ≡ i * quarter_turn + r → r < quarter_turn → n / quarter_turn ≡ i
    quotient n i r e l = omega arith

    remainder : (n i r : ℕ) → n ≡ i * quarter_turn + r → r < quarter_turn → n % quarter_turn ≡ r
    remainder n i r e l = let q = quotient n i r e l in omega (arith, q)

    place : (n i r : ℕ) → n ≡ i * quarter_turn + r → r < quarter_turn
        → line (T (n / quarter_turn)) (T (n / quarter_turn + 1)) (n % quarter_turn) ≡ line (T i) (T (i + 1)) r
    place n i r e l = ap₂ (λ (j s : ℕ). line (T j) (T (j + 1)) s) (quotient n i r e l) (remainder n i r e l)

    go : (i r : ℕ) → v * 2048 ≡ i * quarter_turn + r → r < quarter_turn → i < 2048
        → line (T ((quarter_turn - v) * 2048 / quarter_turn)) (T ((quarter_turn - v) * 2048 / quarter_turn + 1)) ((quarter_turn - v) * 2048 % quarter_turn)
        ≡ line (T (2047 - i)) (T (2048 - i)) (quarter_turn - r)
    go i zero e l k =
        place ((quarter_turn - v) * 2048) (2048 - i) 0 (omega arith) (omega arith)
        ∙ ends (T (2048 - i)) (T (2048 - i + 1)) (T (2047 - i))
    go i (suc r) e l k =
        place ((quarter_turn - v) * 2048) (2047 - i) (quarter_turn - suc r) (omega arith) (omega arith)
        ∙ ap (λ (j : ℕ). line (T (2047 - i)) (T j) (quarter_turn - suc r)) (let z : 2047 - i + 1 ≡ 2048 - i = omega arith in z)

pub quarter_sine_over-table : (v : ℕ) → v ≤ quarter_turn → quarter_sine_over (entry sine_table) v ≡ quarter_sine v
quarter_sine_over-table v h = elim (eq-or-lt_of_le h) [
  | inl e ↦ ap (quarter_sine_over (entry sine_table)) e ∙ quarter_sine_over-one (entry sine_table) ∙ sine_table-right.last ∙ sym (ap quarter_sine e ∙ quarter_sine-one)
  | inr l ↦ unfold quarter_sine_over quarter_sine in
      ap₂ (λ (a b : ℕ). line a b (v * 2048 % quarter_turn))
      (sine_table-right.rule (v * 2048 / quarter_turn) (omega arith)) (sine_table-right.rule (v * 2048 / quarter_turn + 1) (omega arith))
]
