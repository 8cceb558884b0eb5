-- `share` meets its contract: both ends by the same two calls.
use Rattle.dt_share.specs.Share.{share}
use Rattle.dt_share.proofs.share.Goals as goal

pub returns : goal.returns
unfolding share
returns c = record { value = rw (c.limited-2.ensures.value, c.dt-2.ensures.value, c.limited.ensures.value, c.dt.ensures.value) }
