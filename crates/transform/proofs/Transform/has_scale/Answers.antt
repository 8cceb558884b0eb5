-- `Transform::has_scale` meets its contract: it is that of the matrix half.
use Rattle.transform.proofs.Transform.has_scale.Goals as goal

pub returns : goal.returns
returns c = record { value = cc }
