-- The angle that `acos_counted` gives, and the count that it gives with it.
use Prim.Native.Nat.{ℕ, ◌≤◌}
use mathlib.Core.Path.{subst}
use Rattle.arc_cosine.proofs.acos.Goals as goal

pub returns : goal.returns
returns c = record { value = c.acos_counted.ensures.value.0; most = subst (λ (n : ℕ). n ≤ 31) c.acos_counted.ensures.value.1 c.acos_counted.ensures.most }
