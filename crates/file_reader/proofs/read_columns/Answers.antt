-- `read_columns` is `MoveFile-read_as`, and it puts `MoveFile-poses_as`: each line begins where the one before it ends (`Files.antt`).
use Prim.Native.Nat.{ℕ, ◌≤◌}
use native.Mathlib.Omega.{arith}
use mathlib.Core.Path.{◌≡◌, sym, subst}
use lib.Ieee.{binary32, of_bits}
use lib.ListN.{length, replicate}
use lib.Seq.{length-take-le}
use Rattle.motion_file.specs.Text.{ascii}
use Rattle.motion_file.specs.Layout.{values as values', max_bytes}
use Rattle.motion_file.specs.means.Place.{through}
use Rattle.motion_file.proofs.Files.{file-long, file-departs, file-poses, file-room, file-contents}
use Rattle.file_reader.proofs.read_columns.Goals as goal

pub returns-then-bytes-gt65536 : goal.returns-then-bytes-gt65536
returns-then-bytes-gt65536 c =
    let a = c.args in
    let all = file-long a.text.now a.columns a.bytes.now a.poses.now (omega arith) in
    record { value = rw c.departs.ensures all.0; left = all.1.0; count = rw c.departs.ensures all.1.1 }

pub slice_bounds-after_values-end : goal.slice_bounds-after_values-end
slice_bounds-after_values-end c =
    sym (length-take-le c.args.columns _ c.requires.columns_bound)

pub returns-then-end-bytes : goal.returns-then-end-bytes
unfolding ascii
returns-then-end-bytes c =
    let s = c.args.bytes.now in
    let least = c.requires.le_columns in
    let most = c.requires.columns_bound in
    let size : length s ≤ max_bytes = omega (arith, c.if-bytes-gt65536.false) in
    let part = length-take-le c.args.columns (replicate 14 (of_bits binary32 0)) most in
    let led =
    subst (λ (n : ℕ). c.after_values-behind.result ≡ through (replicate c.pose_lines-count.result (values' n)) s c.names_line-first.result) part
    c.after_values-behind.ensures in
    let all =
    file-departs c.args.text.now c.args.columns least s size _ _ _ _ _ c.pose_lines-count.ensures c.names_line-first.ensures led
    c.names_line-values.ensures c.values_line-end.ensures.value
    c.args.poses.now c.if-end-bytes.true in
    record { value = rw c.departs-then-end-bytes.ensures all.0; left = all.1.0; count = rw c.departs-then-end-bytes.ensures all.1.1 }

pub put_poses-requires : goal.put_poses-requires
unfolding ascii
put_poses-requires c =
    let s = c.args.bytes.now in
    let least = c.requires.le_columns in
    let most = c.requires.columns_bound in
    let size : length s ≤ max_bytes = omega (arith, c.if-bytes-gt65536.false) in
    let part = length-take-le c.args.columns (replicate 14 (of_bits binary32 0)) most in
    let led =
    subst (λ (n : ℕ). c.after_values-behind.result ≡ through (replicate c.pose_lines-count.result (values' n)) s c.names_line-first.result) part
    c.after_values-behind.ensures in
    let whole = c.if-end-bytes.false in
    record {
      s_len_bound = size;
      count_le_max_pose_lines = file-room c.args.text.now c.args.columns least s size _ _ _ _ _ c.pose_lines-count.ensures c.names_line-first.ensures led
          c.names_line-values.ensures c.values_line-end.ensures.value whole;
      le_columns = least;
      columns_bound = most;
      at_in_bounds = file-poses c.args.text.now c.args.columns least s size _ _ _ _ _ c.pose_lines-count.ensures c.names_line-first.ensures led
          c.names_line-values.ensures c.values_line-end.ensures.value whole;
    }

pub returns : goal.returns
unfolding ascii
returns c =
    let s = c.args.bytes.now in
    let least = c.requires.le_columns in
    let most = c.requires.columns_bound in
    let size : length s ≤ max_bytes = omega (arith, c.if-bytes-gt65536.false) in
    let part = length-take-le c.args.columns (replicate 14 (of_bits binary32 0)) most in
    let led =
    subst (λ (n : ℕ). c.after_values-behind.result ≡ through (replicate c.pose_lines-count.result (values' n)) s c.names_line-first.result) part
    c.after_values-behind.ensures in
    let all =
    file-contents c.args.text.now c.args.columns least s size _ _ _ _ _ c.pose_lines-count.ensures c.names_line-first.ensures led
    c.names_line-values.ensures c.values_line-end.ensures.value c.if-end-bytes.false
    c.args.poses.now _ _ c.put_poses.ensures c.values_line-end.ensures.out_after in
    record { value = all.0; left = all.1.0; count = all.1.1 }
