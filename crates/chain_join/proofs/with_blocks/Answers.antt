-- `with_blocks` meets its contract: the others written at once, and behind them what stood there.
use Prim.Native.Nat.{◌+◌, ◌-◌}
use mathlib.Core.Path.{◌≡◌, sym}
use mathlib.Core.List.{append_assoc}
use native.Mathlib.Omega.{arith}
use lib.ListN.{length, take, drop}
use lib.Seq.{take-length, drop-drop}
use Rattle.chain_join.proofs.with_blocks.Goals as goal

pub returns : goal.returns
returns c =
    let a = c.args in
    let n = length a.others.now in
    let k : a.at + n - a.at ≡ n = omega arith in
    record { places = c.well_formed.1.1.0.1.0.1; value = rw (c.copy_from_slice.ensures.after, k, drop-drop n a.at a.blocks, take-length a.others.now) (sym (append_assoc (take a.at a.blocks) a.others.now (drop (a.at + n) a.blocks))) }
