-- `is_unit_part` meets its contract: an f32 is a value of binary32.
use mathlib.Core.Path.{sym, subst}
use mathlib.Core.Bool.{◌&&◌}
use lib.Dec.{T}
use lib.Ieee.{le}
use lib.Ieee.Fits.{and_l, and_r}
use Rattle.bounds3.specs.float32.Operators.{positive_zero, one}
use Rattle.window_slices.proofs.is_unit_part.Goals as goal

pub returns : goal.returns
returns c = record {
  value = λ e.
      let a = c.args in
      let p = le positive_zero a.low in
      let q = le a.low a.high in
      let r = le a.high one in
      let all : T (p && q && r) = subst T (sym e) tt in
      record {
        subset = record {
          low = record { holds = and_l p q (and_l (p && q) r all) };
          proper = record { holds = and_r p q (and_l (p && q) r all) };
          high = record { holds = and_r (p && q) r all };
        };
        low_fits = subst T (sym c.well_formed.0.1) tt;
        high_fits = subst T (sym c.well_formed.1.0.1) tt;
      };
}
