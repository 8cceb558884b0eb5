-- Every row of the table holds, `every-row-holds`: each is computed from its arguments, and an arc cosine is shown by its angle and the one before it.
use mathlib.Core.Path.{◌≡◌, refl, sym, ap, subst, ◌∙◌}
use mathlib.Core.Logic.{inl, inr}
use mathlib.Core.Bool.{false}
use mathlib.Core.List.Memᴰ
use mathlib.Core.List.{List, [], ◌∷◌, Memᴰ}
use Prim.Native.Nat.{ℕ, ◌-◌, ◌^◌, ◌<◌}
use native.Mathlib.Omega.{arith}
use lib.Dec.{lit≤, lit<}
use lib.IntN.{negsuc}
use lib.Ieee.{fin, binary32, round}
use Rattle.motion_cover.specs.sine_table.Table.{quarter_turn}
use Rattle.motion_cover.specs.trig.Units.{cos_units}
use Rattle.motion_cover.specs.arc_cosine.Acos.{floor_units, acos}
use Rattle.motion_cover.specs.trig.Biased.{biased}
use Rattle.motion_cover.specs.trig.means.Computing as trig
use Rattle.motion_cover.proofs.arc_cosine.Range.{acos-unique}
use Rattle.motion_cover.specs.animated_transform.means.Computing as building
use Rattle.motion_cover.specs.motion_point.means.Computing as point
use Rattle.motion_cover.specs.means.Computing as cover
use Rattle.cases.specs.Query.{number}
use Rattle.cases.specs.Cases.{Row, holds, fraction, zero, one, translation-midpoint, start-at-minus-infinity, end-at-infinity}
use Rattle.cases.specs.Cases.{nan-time-refused, depth-0-zero-quaternion-norm, depth-1-translation-covered, depth-13-refused}
use Rattle.cases.specs.Cases.{end-before-start-refused, equal-times-built, equal-times-start-at-zero, equal-times-end-just-above}
use Rattle.cases.specs.Cases.{equal-times-end-at-one, equal-times-end-at-infinity, zero-linear-part-refused, infinite-entry-before-bottom-row}
use Rattle.cases.specs.Cases.{infinite-duration-refused, equal-poses-keep-box, acos-of-one, acos-of-zero, sin-of-zero, EveryRowHolds}

-- ---- moves

translation-midpoint-holds : holds translation-midpoint
unfolding building.computing point.computing
translation-midpoint-holds = refl

start-at-minus-infinity-holds : holds start-at-minus-infinity
unfolding building.computing point.computing
start-at-minus-infinity-holds = refl

end-at-infinity-holds : holds end-at-infinity
unfolding building.computing point.computing
end-at-infinity-holds = refl

nan-time-refused-holds : holds nan-time-refused
unfolding building.computing point.computing
nan-time-refused-holds = refl

depth-0-zero-quaternion-norm-holds : holds depth-0-zero-quaternion-norm
unfolding building.computing cover.computing
depth-0-zero-quaternion-norm-holds = refl

depth-1-translation-covered-holds : holds depth-1-translation-covered
unfolding building.computing cover.computing
depth-1-translation-covered-holds = refl

depth-13-refused-holds : holds depth-13-refused
unfolding building.computing cover.computing
depth-13-refused-holds = refl

end-before-start-refused-holds : holds end-before-start-refused
unfolding building.computing
end-before-start-refused-holds = refl

equal-times-built-holds : holds equal-times-built
unfolding building.computing
equal-times-built-holds = refl

equal-times-start-at-zero-holds : holds equal-times-start-at-zero
unfolding building.computing point.computing
equal-times-start-at-zero-holds = refl

equal-times-end-just-above-holds : holds equal-times-end-just-above
unfolding building.computing point.computing
equal-times-end-just-above-holds = refl

equal-times-end-at-one-holds : holds equal-times-end-at-one
unfolding building.computing point.computing
equal-times-end-at-one-holds = refl

equal-times-end-at-infinity-holds : holds equal-times-end-at-infinity
unfolding building.computing point.computing
equal-times-end-at-infinity-holds = refl

zero-linear-part-refused-holds : holds zero-linear-part-refused
unfolding building.computing
zero-linear-part-refused-holds = refl

infinite-entry-before-bottom-row-holds : holds infinite-entry-before-bottom-row
unfolding building.computing
infinite-entry-before-bottom-row-holds = refl

infinite-duration-refused-holds : holds infinite-duration-refused
unfolding building.computing
infinite-duration-refused-holds = refl

equal-poses-keep-box-holds : holds equal-poses-keep-box
unfolding building.computing cover.computing
equal-poses-keep-box-holds = refl

-- ---- angles

acos-of-one-holds : holds acos-of-one
unfolding trig.computing floor_units
acos-of-one-holds = ap number (acos-unique one (2 ^ 31) 0 refl refl (lit≤ tt) (lit≤ tt) (λ k e. absurd (omega (arith, e))))

before-quarter : 2 ^ 30 < biased (cos_units (quarter_turn - 1))
unfolding trig.computing
before-quarter = lit< tt

-- A quarter turn, 421,657,428/2^28, and 13,176,795/2^23 round to one float.
quarter-rounds : round binary32 false quarter_turn (2 ^ 28) ≡ fin false 13176795 (negsuc 22)
unfolding trig.computing
quarter-rounds = refl

zero-result : fraction 13176795 (2 ^ 23) ≡ fin false 13176795 (negsuc 22)
unfolding trig.computing
zero-result = refl

zero-value : acos zero ≡ round binary32 false quarter_turn (2 ^ 28)
unfolding trig.computing floor_units
zero-value =
    acos-unique zero (2 ^ 30) quarter_turn refl refl (lit≤ tt) (lit≤ tt)
    (λ k e. subst (λ (u : ℕ). 2 ^ 30 < biased (cos_units u)) (let f : quarter_turn - 1 ≡ k = omega (arith, e) in f) before-quarter)

acos-of-zero-holds : holds acos-of-zero
acos-of-zero-holds = ap number (zero-value ∙ quarter-rounds ∙ sym zero-result)

sin-of-zero-holds : holds sin-of-zero
unfolding trig.computing
sin-of-zero-holds = refl

-- ---- the theorem

infixr 60 ◌and◌
data All : List Row → Type 0 where
  none : All []
  ◌and◌ : {r : Row} {rs : List Row} → holds r → All rs → All (r ∷ rs)

each : {rs : List Row} → All rs → (r : Row) → Memᴰ r rs → holds r
each none r m = absurd (Memᴰ.not-nil m)
each (h and hs) r m = elim (Memᴰ.cases_cons m) [ inl e ↦ subst holds (sym e) h | inr n ↦ each hs r n ]

pub every-row-holds : EveryRowHolds
every-row-holds =
    each
    (translation-midpoint-holds
    and start-at-minus-infinity-holds
    and end-at-infinity-holds
    and nan-time-refused-holds
    and depth-0-zero-quaternion-norm-holds
    and depth-1-translation-covered-holds
    and depth-13-refused-holds
    and end-before-start-refused-holds
    and equal-times-built-holds
    and equal-times-start-at-zero-holds
    and equal-times-end-just-above-holds
    and equal-times-end-at-one-holds
    and equal-times-end-at-infinity-holds
    and zero-linear-part-refused-holds
    and infinite-entry-before-bottom-row-holds
    and infinite-duration-refused-holds
    and equal-poses-keep-box-holds
    and acos-of-one-holds
    and acos-of-zero-holds
    and sin-of-zero-holds
    and none)
