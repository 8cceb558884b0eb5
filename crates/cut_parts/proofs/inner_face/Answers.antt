-- `inner_face` meets its contract: its operations are the definition's.
use Rattle.cut_laws.specs.Cut.{inner_face}
use Rattle.cut_parts.proofs.inner_face.Goals as goal

pub returns : goal.returns
unfolding inner_face
returns c = record { value = c.min.ensures.value }
