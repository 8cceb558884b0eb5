-- A divisor that is a root meets no refusal of its own (`div-after-sqrt`): where the root was not refused, its low end is positive (`root-low-positive`),
-- and where it was, that number stands. So in a formula that divides by roots only, 10 is met at roots only.
use Rattle.std.proofs.Common.{◌≡◌, ℕ, zero, suc, T, sym, refl, ap, ◌∙◌, arith}
use lib.Ieee.{binary32, fits}
use lib.Ieee.Positive.{positive}
use Rattle.refusal.specs.First.{first_refusal}
use Rattle.refusal.proofs.First.{first-zero, first-stands, first-right}
use Rattle.square_root.proofs.Monotone.{sqrt-positive}
use Rattle.interval.specs.declared.Interval.{Interval}
use Rattle.interval.specs.Contains.{Finite}
use Rattle.interval.specs.Enclosure.{Interval-div_enclosure, Interval-sqrt_enclosure, not_positive, Judged-judge, Judged-div_enclosure, Judged-sqrt_enclosure}
use Rattle.interval.proofs.Refusal.{judge-zero, judged-positive, positive-accepted}

module _ (m : ℕ) (X : Interval) (f : m ≡ 0 → Finite X) (h : T (fits binary32 X.low)) where
  pub root-low-positive : (Judged-sqrt_enclosure m X).refusal ≡ 0 → T (positive (Interval-sqrt_enclosure X).low)
  unfolding Judged-sqrt_enclosure Interval-sqrt_enclosure
  root-low-positive z =
      let k = first-zero m (not_positive X) (judge-zero (first_refusal m (not_positive X)) (Interval-sqrt_enclosure X) z) in
      sqrt-positive binary32 X.low (judged-positive m (Interval-sqrt_enclosure X) (f k.0) z) h

  -- n is met after the root.
  pub div-after-sqrt : (n : ℕ) (Y : Interval) → (n ≡ 0 → (Judged-sqrt_enclosure m X).refusal ≡ 0)
      → Judged-div_enclosure n Y (Interval-sqrt_enclosure X) ≡ Judged-judge n (Interval-div_enclosure Y (Interval-sqrt_enclosure X))
  unfolding Judged-div_enclosure
  div-after-sqrt n Y k = ap (λ (i : ℕ). Judged-judge i (Interval-div_enclosure Y (Interval-sqrt_enclosure X))) (go n k)
    where
      go : (n : ℕ) → (n ≡ 0 → (Judged-sqrt_enclosure m X).refusal ≡ 0) → first_refusal n (not_positive (Interval-sqrt_enclosure X)) ≡ n
      go zero k = ap (first_refusal 0) (positive-accepted (Interval-sqrt_enclosure X) (root-low-positive (k refl))) ∙ sym (first-right 0)
      go (suc n) k = sym (first-stands (suc n) (not_positive (Interval-sqrt_enclosure X)) (λ z. omega arith))
