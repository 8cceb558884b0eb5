-- Cases of the definitions, by computing: halfway from the identity to itself is the identity, and 2 * (3, 4, 12, 84) is normalized by its length 170.
use mathlib.Core.Path.{◌≡◌, refl}
use Prim.Native.Nat.{ℕ}
use mathlib.Core.Bool.{false}
use lib.Ieee.{Float, binary32, round}
use Rattle.quaternion.specs.declared.Quaternion.{Quaternion}
use Rattle.quaternion.specs.means.Computing.{computing}
use Rattle.quaternion.specs.Quaternion.{Quaternion-normalize}
use Rattle.quaternion.specs.Slerp.{Quaternion-slerp}

abbrev fraction : ℕ → ℕ → Float
fraction n d = round binary32 false n d

abbrev quaternion : Float → Float → Float → Float → Quaternion
quaternion x y z w = record { v = record { x = x; y = y; z = z }; w = w }

abbrev identity : Quaternion
identity = quaternion (fraction 0 1) (fraction 0 1) (fraction 0 1) (fraction 1 1)

slerp-identity : Quaternion-slerp identity identity (fraction 1 2) ≡ identity
unfolding computing
slerp-identity = refl

normalize-length-170 : Quaternion-normalize (quaternion (fraction 6 1) (fraction 8 1) (fraction 24 1) (fraction 168 1))
    ≡ quaternion (fraction 6 170) (fraction 8 170) (fraction 24 170) (fraction 168 170)
unfolding computing
normalize-length-170 = refl
