-- `from_matrices` meets its contract: each half is packed by rows.
use Rattle.transform.proofs.Transform.from_matrices.Goals as goal

pub returns : goal.returns
returns c = record { value = rw (c.from-a.ensures, c.from-b.ensures) }
