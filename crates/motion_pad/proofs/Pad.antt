-- The pad over an interval of dt: it encloses the pad at every dt of it (`pad-extends`), a part of it gives no more (`pad-isotone`), the pad of two pads
-- from 0 on is from 0 on (`pad-nonnegative`), so that each lies from 0 to the high end (`pad-within`); and it is refused with 5 alone (`pad-number`).
use mathlib.Core.Path.{◌≡◌, refl}
use mathlib.Core.Logic.{◌⊎◌, inl, inr}
use mathlib.Core.Bool.{Bool, true, false, ◌&&◌, cond}
use mathlib.Core.List.{[], ◌∷◌}
use Prim.Native.Nat.{ℕ, ◌*◌, ◌+◌}
use native.Mathlib.Nat.{mul-pos, zero-lt-suc}
use native.Mathlib.Omega.{arith}
use lib.Dec.{T}
use lib.Ieee.{Float, nan, inf, fin, binary32, of_bits, round, add, sub, le}
use lib.Ieee.Scale.{finite}
use lib.Ieee.Positive.{den, den_pos}
use Rattle.interval.proofs.refusal.First.{first-keeps}
use Rattle.interval.specs.refusal.First.{first_refusal}
use Rattle.float32.specs.rounding.Order.{◌≼◌}
use Rattle.float32.proofs.rounding.Rational.{num_pos, num_neg, FractionLe}
use Rattle.float32.proofs.rounding.Order.{≼_refl, ≼_trans, finite_number, between-finite}
use Rattle.float32.proofs.rounding.Monotone.{Rounds, rounds-mono}
use Rattle.float32.proofs.rounding.Arithmetic.{add_rounds, mul-rounds, sub-mono}
use Rattle.float32.specs.Operators.{◌⊕◌, ◌⊖◌, ◌⊗◌, one, positive_zero}
use Rattle.float32.specs.Lerp.{lerp}
use Rattle.float32.proofs.Constants.{zero-finite, one-finite, zero-rounds}
use Rattle.own_rounding.proofs.OwnRounding.{no-negative}
use Rattle.interval.specs.declared.Interval.{Interval}
use Rattle.interval.specs.Interval.{Interval-point}
use Rattle.interval.specs.Contains.{Contains, Subset, Encloses, Refines}
use Rattle.interval.specs.Enclosure.{not_finite, Judged-judge, Judged-add_enclosure, Judged-sub_enclosure, Judged-mul_enclosure}
use Rattle.interval.proofs.Contains.{point-encloses, point-refines, subset-finite, subset-trans, contains-subset, own-low}
use Rattle.interval_unjudged.specs.formula.Enclose.{enclosure, Expr-enclose, Expr-enclose_all, Program-enclose}
use Rattle.interval_unjudged.proofs.formula.Stage.{stage-extends, stage-isotone}
use Rattle.pose_steps.specs.unit_interval.Unit.{unit_interval}
use Rattle.pose_steps.proofs.unit_interval.DtUnit.{sub-nonnegative}
use Rattle.pose_steps.proofs.Angle.{unit-finite}
use Rattle.motion_pad.proofs.Box.{PadWithin}
use Rattle.motion_pad.specs.Pad.{pad_stage, Pad-at, Pad-inputs, Pad-enclose}

module _ (pad0 pad1 : Float) (f : T (finite pad0)) (g : T (finite pad1)) where
  pub pad-extends : {D : Interval} {t : Float} → Subset D unit_interval → Contains D t → (Pad-enclose pad0 pad1 D).refusal ≡ 0
      → Encloses (Pad-enclose pad0 pad1 D).interval (Pad-at pad0 pad1 t)
  unfolding Pad-enclose lerp of_bits
  pad-extends {D} {t} u c h =
      let d : Encloses D t = record { finite = subset-finite unit-finite u; contains = c } in
      (stage-extends pad_stage (enclosure 0 (Pad-inputs pad0 pad1 D)) (pad0 ∷ pad1 ∷ t ∷ []) tt
      (λ _. (point-encloses pad0 f, (point-encloses pad1 g, (d, tt)))) h).0

  pub pad-isotone : {D D' : Interval} → Subset D D' → Subset D' unit_interval → (Pad-enclose pad0 pad1 D').refusal ≡ 0
      → ((Pad-enclose pad0 pad1 D).refusal ≡ 0) × Refines (Pad-enclose pad0 pad1 D).interval (Pad-enclose pad0 pad1 D').interval
  unfolding Pad-enclose of_bits
  pad-isotone {D} {D'} s u h =
      let d : Refines D D' = record { finite = subset-finite unit-finite u; subset = s } in
      let (z, (r, _)) = stage-isotone pad_stage (enclosure 0 (Pad-inputs pad0 pad1 D)) (enclosure 0 (Pad-inputs pad0 pad1 D')) tt
      (λ _. (refl, (point-refines pad0 f, (point-refines pad1 g, (d, tt))))) h in
      (z, r)

-- ---- from 0 on
mul-nonnegative : (x y : Float) → T (finite x) → T (finite y) → positive_zero ≼ x → positive_zero ≼ y → positive_zero ≼ x ⊗ y
mul-nonnegative x y f g h k =
    rounds-mono zero-rounds (mul-rounds binary32 x y f g) (zero-lt-suc 0) (mul-pos (den_pos x) (den_pos y))
    (above (num_pos x) (num_neg x) (num_pos y) (num_neg y) (den x * den y) (no-negative x f h) (no-negative y g k))
  where
    above : (p n q m d : ℕ) → n ≡ 0 → m ≡ 0 → FractionLe 0 0 1 (p * q + n * m) (p * m + n * q) d
    above p n q m d a b = rw (a, b) (omega arith)

-- A sum may be infinite.
add-nonnegative : (x y : Float) → positive_zero ≼ x → positive_zero ≼ y → positive_zero ≼ x ⊕ y
unfolding add le of_bits
add-nonnegative nan y h k = absurd h.holds
add-nonnegative (inf true) y h k = absurd h.holds
add-nonnegative (inf false) nan h k = absurd k.holds
add-nonnegative (inf false) (inf true) h k = absurd k.holds
add-nonnegative (inf false) (inf false) h k = record { holds = tt }
add-nonnegative (inf false) (fin t n d) h k = record { holds = tt }
add-nonnegative (fin s m e) nan h k = absurd k.holds
add-nonnegative (fin s m e) (inf true) h k = absurd k.holds
add-nonnegative (fin s m e) (inf false) h k = record { holds = tt }
add-nonnegative (fin s m e) (fin t n d) h k = finite-sum (fin s m e) (fin t n d) tt tt h k
  where
    above : (p n d q m e : ℕ) → n ≡ 0 → m ≡ 0 → FractionLe 0 0 1 (p * e + q * d) (n * e + m * d) (d * e)
    above p n d q m e a b = rw (a, b) (omega arith)

    finite-sum : (x y : Float) → T (finite x) → T (finite y) → positive_zero ≼ x → positive_zero ≼ y → positive_zero ≼ x ⊕ y
    finite-sum x y f g h k =
        rounds-mono zero-rounds (add_rounds binary32 x y f g) (zero-lt-suc 0) (mul-pos (den_pos x) (den_pos y))
        (above (num_pos x) (num_neg x) (den x) (num_pos y) (num_neg y) (den y) (no-negative x f h) (no-negative y g k))

pub pad-nonnegative : (pad0 pad1 : Float) {t : Float} → T (finite pad0) → T (finite pad1) → positive_zero ≼ pad0 → positive_zero ≼ pad1 → Contains unit_interval t
    → positive_zero ≼ Pad-at pad0 pad1 t
unfolding lerp
pad-nonnegative pad0 pad1 {t} f g h k u =
    let T-finite = between-finite zero-finite one-finite u.low u.high in
    let low = sub-nonnegative T-finite one-finite u.high in
    let high = sub-mono binary32 one-finite one-finite T-finite zero-finite (≼_refl one (finite_number one one-finite)) u.low in
    let S-finite = between-finite zero-finite one-less-zero low high in
    add-nonnegative ((one ⊖ t) ⊗ pad0) (t ⊗ pad1) (mul-nonnegative (one ⊖ t) pad0 S-finite f low h) (mul-nonnegative t pad1 T-finite g u.low k)
  where
    one-less-zero : T (finite (one ⊖ positive_zero))
    one-less-zero = unfold sub add of_bits round in tt

-- The pad at every dt of an interval lies from 0 to the high end.
pub pad-within : (pad0 pad1 : Float) {D : Interval} {t : Float} → T (finite pad0) → T (finite pad1) → positive_zero ≼ pad0 → positive_zero ≼ pad1
    → Subset D unit_interval → Contains D t → (Pad-enclose pad0 pad1 D).refusal ≡ 0
    → PadWithin (Pad-at pad0 pad1 t) (Pad-enclose pad0 pad1 D).interval.high
pad-within pad0 pad1 f g h k u c e =
    let w = pad-extends pad0 pad1 f g u c e in
    record { high-finite = w.finite.high; from_zero = pad-nonnegative pad0 pad1 f g h k (contains-subset c u); most = w.contains.high }

-- So does the high end of a part of it.
pub pad-high-within : (pad0 pad1 : Float) {D D' : Interval} → T (finite pad0) → T (finite pad1) → positive_zero ≼ pad0 → positive_zero ≼ pad1
    → Subset D D' → Subset D' unit_interval → (Pad-enclose pad0 pad1 D').refusal ≡ 0
    → ((Pad-enclose pad0 pad1 D).refusal ≡ 0) × PadWithin (Pad-enclose pad0 pad1 D).interval.high (Pad-enclose pad0 pad1 D').interval.high
pad-high-within pad0 pad1 f g h k s u e =
    let (z, r) = pad-isotone pad0 pad1 f g s u e in
    let w = pad-within pad0 pad1 f g h k (subset-trans s u) (own-low s) z in
    (z, record { high-finite = r.finite.high; from_zero = ≼_trans w.from_zero w.most; most = r.subset.high })

-- ---- its number
abbrev pub PadNumber : ℕ → Type 0
PadNumber n = (n ≡ 0) ⊎ (n ≡ 5)

judge-number : (m : ℕ) (X : Interval) → PadNumber m → PadNumber (first_refusal m (not_finite X))
unfolding not_finite
judge-number m X i = first-keeps PadNumber m (not_finite X) i (go (finite X.low && finite X.high))
  where
    go : (b : Bool) → PadNumber (cond b 0 5)
    go true = inl refl
    go false = inr refl

pub pad-number : (pad0 pad1 : Float) (D : Interval) → PadNumber (Pad-enclose pad0 pad1 D).refusal
unfolding Pad-enclose Program-enclose Expr-enclose_all Expr-enclose Judged-add_enclosure Judged-sub_enclosure Judged-mul_enclosure Judged-judge
pad-number pad0 pad1 D = judge-number _ _ (judge-number _ _ (judge-number _ _ (judge-number 0 _ (inl refl))))
