-- A sum or a difference of floats that is finite has finite operands, `add-finite`, `sub-finite`; so have those of intervals, `add-operands`, `sub-operands`.
use Rattle.std.proofs.Common.{Bool, true, false, T}
use lib.Ieee.{Float, nan, inf, fin, add, sub, neg}
use lib.Ieee.Scale.{finite}
use Rattle.float32.specs.Operators.{◌⊕◌, ◌⊖◌}
use Rattle.interval.specs.declared.Interval.{Interval}
use Rattle.interval.specs.Contains.{Finite}
use Rattle.interval.specs.Enclosure.{Interval-add_enclosure, Interval-sub_enclosure}

pub add-finite : (x y : Float) → T (finite (x ⊕ y)) → T (finite x) × T (finite y)
unfolding add
add-finite nan y h = absurd h
add-finite (inf s) nan h = absurd h
add-finite (inf s) (inf t) h = absurd (go s t h)
  where
    go : (s t : Bool) → T (finite (inf s ⊕ inf t)) → ⊥
    go true true h = h
    go true false h = h
    go false true h = h
    go false false h = h
add-finite (inf s) (fin t n d) h = absurd h
add-finite (fin s m e) nan h = absurd h
add-finite (fin s m e) (inf t) h = absurd h
add-finite (fin s m e) (fin t n d) h = (tt, tt)

pub sub-finite : (x y : Float) → T (finite (x ⊖ y)) → T (finite x) × T (finite y)
unfolding sub neg
sub-finite x y h = let a = add-finite x (neg y) h in (a.0, go y a.1)
  where
    go : (y : Float) → T (finite (neg y)) → T (finite y)
    go nan h = h
    go (inf s) h = h
    go (fin s m e) h = tt

-- ---- intervals
pub add-operands : (X Y : Interval) → Finite (Interval-add_enclosure X Y) → Finite X × Finite Y
unfolding Interval-add_enclosure
add-operands X Y f =
    let l = add-finite X.low Y.low f.low in
    let h = add-finite X.high Y.high f.high in
    (record { low = l.0; high = h.0 }, record { low = l.1; high = h.1 })

pub sub-operands : (X Y : Interval) → Finite (Interval-sub_enclosure X Y) → Finite X × Finite Y
unfolding Interval-sub_enclosure
sub-operands X Y f =
    let l = sub-finite X.low Y.high f.low in
    let h = sub-finite X.high Y.low f.high in
    (record { low = l.0; high = h.0 }, record { low = h.1; high = l.1 })
