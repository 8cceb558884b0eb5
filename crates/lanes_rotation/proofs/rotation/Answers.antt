-- `rotation` meets its contract: the entries of the products, lane by lane.
use mathlib.Core.Path.{ap, ◌∙◌}
use Rattle.lanes_rotation.specs.means.Matrices.{LanesMatrix-entries}
use Rattle.lanes_rotation.proofs.Lanewise.{rotation-lanes}
use Rattle.lanes_rotation.proofs.rotation.Goals as goal

pub returns : goal.returns
returns c = record { value = c.entries.ensures.value ∙ ap LanesMatrix-entries c.products.ensures.value ∙ rotation-lanes c.args.q }
