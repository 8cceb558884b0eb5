-- `count_number` meets its contract: one test chooses.
use Prim.Native.Nat.{ℕ}
use mathlib.Core.Path.{sym, ap}
use mathlib.Core.Bool.{Bool, cond}
use Rattle.chain_poses.proofs.count_number.Goals as goal

pub returns-then-n : goal.returns-then-n
returns-then-n c = record { value = ap (λ (b : Bool). cond {A = ℕ} b 12 0) (sym c.if-n.true) }

pub returns-else-n : goal.returns-else-n
returns-else-n c = record { value = ap (λ (b : Bool). cond {A = ℕ} b 12 0) (sym c.if-n.false) }
