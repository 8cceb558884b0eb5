-- The pieces of a part of the unit interval: each is such a part and lies in the whole (`pieces-part`), every number of the whole lies in one (`pieces-cover`),
-- and each piece of a deeper cut lies in a piece of the shallower one (`pieces-finer`).
use mathlib.Core.Path.{◌≡◌, refl, sym, subst}
use mathlib.Core.Logic.{inl, inr}
use mathlib.Core.List.Memᴰ
use mathlib.Core.List.{Memᴰ}
use Prim.Native.Nat.{ℕ, zero, suc, ◌+◌}
use native.Mathlib.Omega.{arith}
use lib.Ieee.{Float, binary32}
use lib.Ieee.Fits.{mul-fits}
use Rattle.float32.proofs.rounding.Order.{≼_refl, ≼-total, number-left, number-right}
use Rattle.float32.specs.Operators.{◌⊕◌, half}
use Rattle.interval.specs.declared.Interval.{Interval}
use Rattle.interval.specs.Interval.{Interval-midpoint}
use Rattle.interval.specs.Contains.{Contains, Subset}
use Rattle.interval.proofs.Contains.{subset-trans}
use Rattle.dt_share.specs.Share.{lower_half, upper_half, pieces}
use Rattle.dt_share.specs.means.Part.{UnitPart}
use Rattle.dt_share.proofs.Between.{midpoint-contained}

-- ---- halves
part-midpoint : {i : Interval} → UnitPart i → Contains i (Interval-midpoint i)
part-midpoint u = midpoint-contained u.low_fits u.high_fits u.subset

pub lower-subset : {i : Interval} → UnitPart i → Subset (lower_half i) i
lower-subset {i} u = let m = part-midpoint u in record { low = ≼_refl i.low (number-left m.low); proper = m.low; high = m.high }

pub upper-subset : {i : Interval} → UnitPart i → Subset (upper_half i) i
upper-subset {i} u = let m = part-midpoint u in record { low = m.low; proper = m.high; high = ≼_refl i.high (number-right m.high) }

pub lower-part : {i : Interval} → UnitPart i → UnitPart (lower_half i)
lower-part {i} u = record { subset = subset-trans (lower-subset u) u.subset; low_fits = u.low_fits; high_fits = mul-fits binary32 (i.low ⊕ i.high) half }

pub upper-part : {i : Interval} → UnitPart i → UnitPart (upper_half i)
upper-part {i} u = record { subset = subset-trans (upper-subset u) u.subset; low_fits = mul-fits binary32 (i.low ⊕ i.high) half; high_fits = u.high_fits }

part-refl : {i : Interval} → UnitPart i → Subset i i
part-refl {i} u =
    let p = u.subset.proper in
    record { low = ≼_refl i.low (number-left p); proper = p; high = ≼_refl i.high (number-right p) }

-- ---- each piece
pub record PartOf (whole part : Interval) : Type 0 where
  pub unit : UnitPart part
  pub subset : Subset part whole

pub pieces-part : (d : ℕ) {i : Interval} → UnitPart i → (j : Interval) → Memᴰ j (pieces d i) → PartOf i j
unfolding pieces
pieces-part zero {i} u j m = subst (PartOf i) (sym (Memᴰ.eq_of_singleton m)) (record { unit = u; subset = part-refl u })
pieces-part (suc d) {i} u j m =
    elim (Memᴰ.append_cases (pieces d (lower_half i)) m) [
      | inl k ↦ let p = pieces-part d (lower-part u) j k in record { unit = p.unit; subset = subset-trans p.subset (lower-subset u) }
      | inr k ↦ let p = pieces-part d (upper-part u) j k in record { unit = p.unit; subset = subset-trans p.subset (upper-subset u) }
    ]

-- ---- every number of the whole
pub record InPiece (d : ℕ) (i : Interval) (x : Float) : Type 0 where
  pub piece : Interval
  pub member : Memᴰ piece (pieces d i)
  pub contains : Contains piece x

pub pieces-cover : (d : ℕ) {i : Interval} {x : Float} → UnitPart i → Contains i x → InPiece d i x
unfolding pieces
pieces-cover zero {i} u c = record { piece = i; member = Memᴰ.head refl; contains = c }
pieces-cover (suc d) {i} {x} u c =
    let m = part-midpoint u in
    elim (≼-total x (Interval-midpoint i) (number-right c.low) (number-right m.low)) [
      | inl h ↦
          let p = pieces-cover d (lower-part u) (record { low = c.low; high = h }) in
          record { piece = p.piece; member = Memᴰ.append_left (pieces d (upper_half i)) p.member; contains = p.contains }
      | inr h ↦
          let p = pieces-cover d (upper-part u) (record { low = h; high = c.high }) in
          record { piece = p.piece; member = Memᴰ.append_right (pieces d (lower_half i)) p.member; contains = p.contains }
    ]

-- ---- deeper cuts
pub record InWhole (d : ℕ) (i : Interval) (part : Interval) : Type 0 where
  pub piece : Interval
  pub member : Memᴰ piece (pieces d i)
  pub subset : Subset part piece

finer-at : (d n k : ℕ) {i : Interval} → k ≡ d + n → UnitPart i → (j : Interval) → Memᴰ j (pieces k i) → InWhole d i j
unfolding pieces
finer-at zero n k {i} e u j m = record { piece = i; member = Memᴰ.head refl; subset = (pieces-part k u j m).subset }
finer-at (suc d) n zero e u j m = absurd (omega (arith, e))
finer-at (suc d) n (suc k) {i} e u j m =
    let f : k ≡ d + n = omega (arith, e) in
    elim (Memᴰ.append_cases (pieces k (lower_half i)) m) [
      | inl l ↦
          let p = finer-at d n k f (lower-part u) j l in
          record { piece = p.piece; member = Memᴰ.append_left (pieces d (upper_half i)) p.member; subset = p.subset }
      | inr l ↦
          let p = finer-at d n k f (upper-part u) j l in
          record { piece = p.piece; member = Memᴰ.append_right (pieces d (lower_half i)) p.member; subset = p.subset }
    ]

pub pieces-finer : (d n : ℕ) {i : Interval} → UnitPart i → (j : Interval) → Memᴰ j (pieces (d + n) i) → InWhole d i j
pieces-finer d n = finer-at d n (d + n) refl
