-- `entries` meets its contract: nine entries, side by side.
use Rattle.lanes_rotation.specs.means.Matrices.{LanesMatrix-entries}
use Rattle.lanes_rotation.proofs.entries.Goals as goal

pub returns : goal.returns
unfolding LanesMatrix-entries
returns c = record {
  value = λ i. record {
    r0 = record { x = c.diagonal-m00.ensures.value i; y = c.twice_difference-m01.ensures.value i; z = c.twice_sum-m02.ensures.value i };
    r1 = record { x = c.twice_sum-m10.ensures.value i; y = c.diagonal-m11.ensures.value i; z = c.twice_difference-m12.ensures.value i };
    r2 = record { x = c.twice_difference-m20.ensures.value i; y = c.twice_sum-m21.ensures.value i; z = c.diagonal-m22.ensures.value i };
  };
}
