-- Sums, differences, products and quotients of alike finite floats are alike: `add-alike`, `sub_alike`, `mul-alike`, `div-alike` where the divisor is positive;
-- and roots of what is from zero up, `sqrt-alike`. Each is the operation's monotone law, used both ways.
use mathlib.Core.Logic.{inl, inr}
use lib.Dec.{T}
use lib.Ieee.{Float, binary32, of_bits}
use lib.Ieee.Scale.{finite}
use lib.Ieee.Positive.{positive}
use Rattle.own_rounding.specs.rounding.Order.{◌≼◌, Between}
use Rattle.own_rounding.proofs.rounding.Order.{≼_trans}
use Rattle.own_rounding.proofs.rounding.Arithmetic.{add-mono, sub-mono, mul-between-left, mul-between-right, div_mono, div-between-right}
use Rattle.own_rounding.specs.float32.Operators.{◌⊕◌, ◌⊖◌, ◌⊗◌, ◌⊘◌, positive_zero}
use Rattle.interval_unjudged.specs.square_root.SquareRoot.{sqrt}
use Rattle.interval_unjudged.proofs.square_root.Monotone.{sqrt-mono}
use Rattle.own_rounding.specs.means.Alike.{Alike}
use Rattle.own_rounding.proofs.OwnRounding.{alike-trans}
use Rattle.alike.proofs.Equivalence.{alike-finite, alike-positive}

-- What lies between x and x is alike to x.
between-alike : {x y : Float} → Between x y x → Alike x y
between-alike (inl b) = record { to = b.0; from = b.1 }
between-alike (inr b) = record { to = b.0; from = b.1 }

module _ {x x' y y' : Float} (f : T (finite x)) (g : T (finite y)) (a : Alike x x') (b : Alike y y') where
  pub add-alike : Alike (x ⊕ y) (x' ⊕ y')
  add-alike =
      let f' = alike-finite f a in
      let g' = alike-finite g b in
      record { to = add-mono binary32 f f' g g' a.to b.to; from = add-mono binary32 f' f g' g a.from b.from }

  pub sub_alike : Alike (x ⊖ y) (x' ⊖ y')
  sub_alike =
      let f' = alike-finite f a in
      let g' = alike-finite g b in
      record { to = sub-mono binary32 f f' g g' a.to b.from; from = sub-mono binary32 f' f g' g a.from b.to }

  -- One factor after the other.
  pub mul-alike : Alike (x ⊗ y) (x' ⊗ y')
  mul-alike =
      let f' = alike-finite f a in
      let g' = alike-finite g b in
      alike-trans
      (between-alike (mul-between-left binary32 y f f' f g a.to a.from))
      (between-alike (mul-between-right binary32 x' f' g g' g b.to b.from))

module _ {x x' y y' : Float} (f : T (finite x)) (p : T (positive y)) (a : Alike x x') (b : Alike y y') where
  pub div-alike : Alike (x ⊘ y) (x' ⊘ y')
  div-alike =
      let f' = alike-finite f a in
      alike-trans
      (record { to = div_mono binary32 y f f' p a.to; from = div_mono binary32 y f' f p a.from })
      (between-alike (div-between-right binary32 x' f' p (alike-positive p b) p b.to b.from))

pub sqrt-alike : {x y : Float} → positive_zero ≼ x → Alike x y → Alike (sqrt binary32 x) (sqrt binary32 y)
unfolding of_bits
sqrt-alike z a = record { to = sqrt-mono binary32 z a.to; from = sqrt-mono binary32 (≼_trans z a.to) a.from }
