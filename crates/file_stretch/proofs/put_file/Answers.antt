-- `put_file` meets its contract: the file's number chooses the case, and the poses that were read stand in the front of the array.
use native.Mathlib.Nat.{le_trans}
use native.Mathlib.Omega.{arith}
use mathlib.Core.Path.{sym}
use lib.Seq.{length-take-le}
use borrow.Author.Rules.{rules}
use Rattle.motion_text.specs.motion_file.Layout.{MoveFile-poses}
use Rattle.motion_answer.proofs.Posed.{poses-room}
use Rattle.file_stretch.proofs.Printed.{refusal-put, taken-length, file-refused, file-printed}
use Rattle.file_stretch.proofs.put_file.Goals as goal

pub returns-then-file-ne0 : goal.returns-then-file-ne0
returns-then-file-ne0 c =
    let read = c.read-file in
    let write = c.write_refusal in
    let same = file-refused c.args.bytes.now read.result read.ensures.value c.if-file-ne0.true in
    let all = refusal-put read.result.refusal c.args.out.now _ _ c.requires write.ensures.value write.ensures.text in
    record { value = rw same all.0; text = rw same all.1.0; bound = all.1.1 }

pub slice_bounds-poses-end : goal.slice_bounds-poses-end
slice_bounds-poses-end c =
    let read = c.read-file in
    omega (arith, read.ensures.count, poses-room (MoveFile-poses c.args.bytes.now) _ read.ensures.left)

pub slice_bounds-put_poses-end : goal.slice_bounds-put_poses-end
slice_bounds-put_poses-end c =
    let read = c.read-file in
    let room = poses-room (MoveFile-poses c.args.bytes.now) _ read.ensures.left in
    sym (length-take-le _ _ (omega (arith, read.ensures.count, room)))

pub put_poses-requires : goal.put_poses-requires
put_poses-requires c = let read = c.read-file in record { poses_len_bound = le_trans (taken-length read.result.count _) read.ensures.count; in_bounds = c.requires }

pub returns : goal.returns
returns c =
    let read = c.read-file in
    let same = file-printed c.args.bytes.now read.result read.ensures.value _ _ c.if-file-ne0.false read.ensures.left in
    let put = c.put_poses.ensures in
    record { value = rw same put.value; text = rw same put.text; bound = put.bound }
