-- `limited` meets its contract: one call.
use Rattle.dt_share.specs.Share.{limited}
use Rattle.dt_share.proofs.limited.Goals as goal

pub returns : goal.returns
unfolding limited
returns c = record { value = c.clamp.ensures.value }
