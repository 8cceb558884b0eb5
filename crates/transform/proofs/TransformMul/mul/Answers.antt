-- `mul` meets its contract: a product for each half, of matrices taken out of their structs.
use Rattle.transform.specs.Transform.{Transform-mul}
use Rattle.transform.proofs.TransformMul.mul.Goals as goal

pub returns : goal.returns
unfolding Transform-mul
returns c = rw (
  c.from_matrices.ensures.value,
  c.mul-m_inv.ensures.value,
  c.to_rows-4.ensures.value,
  c.to_rows-3.ensures.value,
  c.mul-m.ensures.value,
  c.to_rows-2.ensures.value,
  c.to_rows.ensures.value,
)
