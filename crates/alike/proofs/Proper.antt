-- What the operations of the cover give is proper where it is finite: `add-proper`, `sub-proper`, `mul-proper`, `div-proper`, `sqrt-proper`; so is a
-- finite number, `point-proper`.
use lib.Dec.{T}
use mathlib.Core.Bool.{true, false}
use Prim.Native.Nat.{zero, suc, ◌+◌, ◌*◌, ◌^◌}
use lib.Ieee.{Float, nan, inf, fin, binary32, low, up, down, fits}
use lib.Ieee.Fits.{add-fits, sub-fits, mul-fits, div-fits, round-fits}
use lib.Ieee.Positive.{positive}
use lib.Ieee.Scale.{finite}
use Rattle.own_rounding.specs.rounding.Order.{◌≼◌, Number}
use Rattle.own_rounding.proofs.rounding.Order.{≼_refl, ≼_trans, finite_number}
use Rattle.own_rounding.proofs.rounding.Arithmetic.{add-mono, sub-mono}
use Rattle.own_rounding.specs.float32.Operators.{◌⊗◌, ◌⊘◌}
use Rattle.own_rounding.proofs.float32.MinMax.{min-picks, max-picks}
use Rattle.interval_unjudged.specs.square_root.SquareRoot.{sqrt, round_sqrt, sticky_sqrt}
use Rattle.interval_unjudged.proofs.square_root.Monotone.{sqrt-mono, positive-above-zero}
use Rattle.interval_unjudged.specs.interval.declared.Interval.{Interval}
use Rattle.interval_unjudged.specs.interval.Contains.{Finite, Contains}
use Rattle.interval_unjudged.specs.interval.Interval.{Interval-new, Interval-point, Interval-hull, Interval-of_four}
use Rattle.interval_unjudged.specs.interval.Enclosure.{Interval-add_enclosure, Interval-sub_enclosure, Interval-mul_enclosure, Interval-div_enclosure, Interval-sqrt_enclosure}
use Rattle.interval_unjudged.proofs.interval.Contains.{new-left, hull-left}
use Rattle.interval_unjudged.proofs.interval.Extends.{mul-number, div-number}
use Rattle.interval_unjudged.specs.means.Unjudged.{Positive}
use Rattle.alike.specs.means.Alike.{Interval-Values, Interval-Proper}

pub point-proper : (x : Float) → T (finite x) → T (fits binary32 x) → Interval-Proper (Interval-point x)
point-proper x f v = record { finite = record { low = f; high = f }; values = record { low = v; high = v }; rises = ≼_refl x (finite_number x f) }

module _ {X Y : Interval} (p : Interval-Proper X) (q : Interval-Proper Y) where
  pub add-proper : Finite (Interval-add_enclosure X Y) → Interval-Proper (Interval-add_enclosure X Y)
  unfolding Interval-add_enclosure
  add-proper f = record {
    finite = f;
    values = record { low = add-fits binary32 X.low Y.low; high = add-fits binary32 X.high Y.high };
    rises = add-mono binary32 p.finite.low p.finite.high q.finite.low q.finite.high p.rises q.rises;
  }

  pub sub-proper : Finite (Interval-sub_enclosure X Y) → Interval-Proper (Interval-sub_enclosure X Y)
  unfolding Interval-sub_enclosure
  sub-proper f = record {
    finite = f;
    values = record { low = sub-fits binary32 X.low Y.high; high = sub-fits binary32 X.high Y.low };
    rises = sub-mono binary32 p.finite.low p.finite.high q.finite.high q.finite.low p.rises q.rises;
  }

-- ---- roots
sqrt-fits : (x : Float) → T (positive x) → T (fits binary32 (sqrt binary32 x))
unfolding sqrt round_sqrt
sqrt-fits nan p = absurd p
sqrt-fits (inf s) p = absurd p
sqrt-fits (fin true m e) p = absurd p
sqrt-fits (fin false zero e) p = absurd p
sqrt-fits (fin false (suc m) e) p = round-fits binary32 false (sticky_sqrt (suc m * up e * 4 ^ (low binary32 + 1)) (down e)) (2 ^ (low binary32 + 2))

pub sqrt-proper : {X : Interval} → Positive X → X.low ≼ X.high → Finite (Interval-sqrt_enclosure X) → Interval-Proper (Interval-sqrt_enclosure X)
unfolding Interval-sqrt_enclosure
sqrt-proper {X} p h f = record {
  finite = f;
  values = record { low = sqrt-fits X.low p.low; high = sqrt-fits X.high p.high };
  rises = sqrt-mono binary32 (positive-above-zero X.low p.low) h;
}

-- ---- from the least to the greatest of four
abbrev V32 : Float → Type 0
V32 x = T (fits binary32 x)

module _ (a b c d : Float) (p : V32 a) (q : V32 b) (r : V32 c) (s : V32 d) where
  four-values : Interval-Values (Interval-of_four a b c d)
  unfolding Interval-of_four Interval-hull Interval-new
  four-values = record {
    low = min-picks V32 _ _ (min-picks V32 a b p q) (min-picks V32 c d r s);
    high = max-picks V32 _ _ (max-picks V32 a b p q) (max-picks V32 c d r s);
  }

  four-proper : Number a → Finite (Interval-of_four a b c d) → Interval-Proper (Interval-of_four a b c d)
  four-proper n f = record { finite = f; values = four-values; rises = (let i = first in ≼_trans i.low i.high) }
    where
      first : Contains (Interval-of_four a b c d) a
      first = unfold Interval-of_four in hull-left (Interval-new c d) (new-left a b n)

module _ {X Y : Interval} (f : Finite X) where
  pub mul-proper : Finite Y → Finite (Interval-mul_enclosure X Y) → Interval-Proper (Interval-mul_enclosure X Y)
  unfolding Interval-mul_enclosure
  mul-proper g h =
      four-proper (X.low ⊗ Y.low) (X.high ⊗ Y.low) (X.low ⊗ Y.high) (X.high ⊗ Y.high)
      (mul-fits binary32 X.low Y.low) (mul-fits binary32 X.high Y.low) (mul-fits binary32 X.low Y.high)
      (mul-fits binary32 X.high Y.high) (mul-number X.low Y.low f.low g.low) h

  pub div-proper : Positive Y → Finite (Interval-div_enclosure X Y) → Interval-Proper (Interval-div_enclosure X Y)
  unfolding Interval-div_enclosure
  div-proper g h =
      four-proper (X.low ⊘ Y.low) (X.high ⊘ Y.low) (X.low ⊘ Y.high) (X.high ⊘ Y.high)
      (div-fits binary32 X.low Y.low) (div-fits binary32 X.high Y.low) (div-fits binary32 X.low Y.high)
      (div-fits binary32 X.high Y.high) (div-number X.low Y.low f.low g.low) h
