-- `put_masks` meets its contract: the first n masks are copied into the first places.
use Prim.Native.Nat.{ℕ}
use mathlib.Core.Path.{ap, ◌∙◌}
use mathlib.Core.List.{List, ◌++◌}
use native.Mathlib.Omega.{arith}
use lib.ListN.{take, drop}
use lib.Seq.{length-take-le}
use Rattle.reach_kept.proofs.Masks.{copied-front}
use Rattle.reach_kept.proofs.put_masks.Goals as goal

pub returns : goal.returns
returns c =
    let a = c.args in
    let few = c.requires in
    let size = c.well_formed.0.1.0.1 in
    let room = c.well_formed.1.1.0.1.0.1 in
    let count = length-take-le a.n a.masks (omega (arith, few, size)) in
    record {
      left = ap (λ (l : List ℕ). l ++ drop a.n a.old) c.copy_from_slice.ensures.after
          ∙ copied-front (take a.n a.masks) a.old a.n count (omega (arith, few, room));
      length = room;
    }
