-- Values of binary32 that are alike are equal, or both are zeros: `alike-values`.
use mathlib.Core.Path.{◌≡◌, refl, sym, ap, ◌∙◌}
use mathlib.Core.Logic.{◌⊎◌, inl, inr}
use mathlib.Core.Bool.{Bool, true, false, cond}
use Prim.Native.Nat.{ℕ, ◌+◌, ◌-◌, ◌*◌, ◌/◌, ◌^◌, ◌≤◌, ◌<◌}
use native.Mathlib.Nat.{mul-pos, eq-zero-or-pos}
use native.Mathlib.Omega.{arith}
use lib.IntN.{ℤ, pos}
use lib.Dec.{T}
use lib.Ieee.{Float, nan, inf, fin, Format, binary32, prec, low, hid, top, size, up, down, le, of_bits, to_bits, fits}
use lib.Ieee.Fits.{up_pos, down_pos}
use lib.Ieee.Bits.{of_bits-to_bits}
use lib.Ieee.Nearest.{div_same}
use Rattle.own_rounding.specs.rounding.Order.{◌≼◌}
use Rattle.own_rounding.proofs.rounding.Order.{to-fraction}
use Rattle.own_rounding.specs.float32.Operators.{positive_zero}
use Rattle.own_rounding.specs.means.Alike.{Alike}
use Rattle.alike.proofs.Equivalence.{alike-zeros}

-- ---- a value's bits turn on its sign and its fraction only
scaled : (a b c d l : ℕ) → a * d ≡ c * b → a * l * d ≡ c * l * b
scaled a b c d l h = let k : a * d * l ≡ c * b * l = ap (λ (n : ℕ). n * l) h in omega arith

module _ (f : Format) (s : Bool) (m : ℕ) (e : ℤ) (n : ℕ) (d : ℤ) (h : m * up e * down d ≡ n * up d * down e) where
  same_bits : to_bits f (fin s m e) ≡ to_bits f (fin s n d)
  unfolding to_bits
  same_bits =
      ap (λ (q : ℕ). cond s (top f) 0 + (size q - prec f) * hid f + q / 2 ^ (size q - prec f))
      (div_same (m * up e * 2 ^ low f) (down e) (n * up d * 2 ^ low f) (down d) (down_pos e) (down_pos d)
      (scaled (m * up e) (down e) (n * up d) (down d) (2 ^ low f) h))

  value-unique : T (fits f (fin s m e)) → T (fits f (fin s n d)) → fin s m e ≡ fin s n d
  value-unique v w = sym (of_bits-to_bits f (fin s m e) v) ∙ ap (of_bits f) same_bits ∙ of_bits-to_bits f (fin s n d) w

-- ---- alike values
zero-factor : (a d : ℕ) → 0 < d → a * d ≤ 0 → a ≡ 0
zero-factor a d D h = elim (eq-zero-or-pos a) [ inl z ↦ z | inr p ↦ absurd (let q : 0 < a * d = mul-pos p D in omega arith) ]

up-zero : (m : ℕ) (e : ℤ) → m * up e ≡ 0 → m ≡ 0
up-zero m e h = zero-factor m (up e) (up_pos e) (omega (arith, h))

is_zero : (s : Bool) (m : ℕ) (e : ℤ) → m * up e ≡ 0 → Alike (fin s m e) positive_zero
unfolding of_bits
is_zero s m e h = rw (up-zero m e h) (alike-zeros s false e (pos 0))

pub alike-values : {x y : Float} → T (fits binary32 x) → T (fits binary32 y) → Alike x y → (x ≡ y) ⊎ (Alike x positive_zero × Alike y positive_zero)
alike-values {x} {y} v w a = go x y v w a.to a.from
  where
    go : (x y : Float) → T (fits binary32 x) → T (fits binary32 y) → x ≼ y → y ≼ x → (x ≡ y) ⊎ (Alike x positive_zero × Alike y positive_zero)
    go nan y v w h k = absurd (unfold le in h.holds)
    go (inf s) nan v w h k = absurd (unfold le in h.holds)
    go (inf true) (inf true) v w h k = inl refl
    go (inf true) (inf false) v w h k = absurd (unfold le in k.holds)
    go (inf false) (inf true) v w h k = absurd (unfold le in h.holds)
    go (inf false) (inf false) v w h k = inl refl
    go (inf true) (fin t n d) v w h k = absurd (unfold le in k.holds)
    go (inf false) (fin t n d) v w h k = absurd (unfold le in h.holds)
    go (fin s m e) nan v w h k = absurd (unfold le in h.holds)
    go (fin s m e) (inf true) v w h k = absurd (unfold le in h.holds)
    go (fin s m e) (inf false) v w h k = absurd (unfold le in k.holds)
    go (fin false m e) (fin false n d) v w h k =
        let i = to-fraction {x = fin false m e} {y = fin false n d} tt tt h in
        let j = to-fraction {x = fin false n d} {y = fin false m e} tt tt k in
        inl (value-unique binary32 false m e n d (omega arith) v w)
    go (fin true m e) (fin true n d) v w h k =
        let i = to-fraction {x = fin true m e} {y = fin true n d} tt tt h in
        let j = to-fraction {x = fin true n d} {y = fin true m e} tt tt k in
        inl (value-unique binary32 true m e n d (omega arith) v w)
    go (fin false m e) (fin true n d) v w h k =
        let i = to-fraction {x = fin false m e} {y = fin true n d} tt tt h in
        inr (
          is_zero false m e (zero-factor (m * up e) (down d) (down_pos d) (omega arith)),
          is_zero true n d (zero-factor (n * up d) (down e) (down_pos e) (omega arith)),
        )
    go (fin true m e) (fin false n d) v w h k =
        let i = to-fraction {x = fin false n d} {y = fin true m e} tt tt k in
        inr (
          is_zero true m e (zero-factor (m * up e) (down d) (down_pos d) (omega arith)),
          is_zero false n d (zero-factor (n * up d) (down e) (down_pos e) (omega arith)),
        )
