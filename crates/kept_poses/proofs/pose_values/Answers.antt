-- `pose_values` meets its contract: a row is its four entries.
use mathlib.Core.Path.{◌≡◌}
use lib.ListN.{length}
use borrow.Author.Rules.{rules}
use Rattle.motion_rows.specs.matrix4x4.Rows.{Row}
use Rattle.kept_poses.specs.means.Poses.{pose}
use Rattle.kept_poses.proofs.Row.{row-entries}
use Rattle.kept_poses.proofs.pose_values.Goals as goal

pub returns : goal.returns
returns c = record {
  value = let a = c.args in
      let h0 : length a.r0 ≡ 4 = search rules in
      let h1 : length a.r1 ≡ 4 = search rules in
      let h2 : length a.r2 ≡ 4 = search rules in
      let h3 : length a.r3 ≡ 4 = search rules in
      λ i. pose a.time (row-entries a.r0 h0 i) (row-entries a.r1 h1 i) (row-entries a.r2 h2 i) (row-entries a.r3 h3 i) a.pad;
}
