-- `transform_vector` meets its contract: the matrix half times the vector.
use Rattle.transform.proofs.Transform.transform_vector.Goals as goal

pub returns : goal.returns
returns c = record { value = cc }
