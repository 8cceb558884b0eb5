-- `length` meets its contract: its calls in turn.
use Rattle.lanes.specs.means.Lanes.{Lanes-lane, Lanes-of, Lanes-zip, Lanes-map}
use Rattle.pose_lean.specs.means.Lean.{length}
use Rattle.lanes_slerp.specs.means.Quaternions.{LanesQuaternion-lane}
use Rattle.lanes_slerp.proofs.length.Goals as goal

pub returns : goal.returns
unfolding Lanes-lane Lanes-of Lanes-zip Lanes-map length LanesQuaternion-lane
returns c = record {
  value = rw (
    c.sqrt.ensures.value,
    c.add-3.ensures.value,
    c.add-2.ensures.value,
    c.add.ensures.value,
    c.mul-w.ensures.value,
    c.mul-z.ensures.value,
    c.mul-y.ensures.value,
    c.mul-x.ensures.value,
  );
}
