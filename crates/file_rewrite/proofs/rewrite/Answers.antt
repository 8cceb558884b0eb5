-- `rewrite` meets its contract: the file's number chooses the case, and the poses that were read stand in the front of the array.
use native.Mathlib.Omega.{arith}
use mathlib.Core.Path.{sym}
use lib.Seq.{length-take-le}
use borrow.Author.Rules.{rules}
use Rattle.motion_text.specs.motion_file.Layout.{MoveFile-poses}
use Rattle.motion_answer.proofs.Posed.{poses-room}
use Rattle.file_rewrite.proofs.Printed.{file-refused, file-printed}
use Rattle.file_rewrite.proofs.rewrite.Goals as goal

pub returns-then-file-ne0 : goal.returns-then-file-ne0
returns-then-file-ne0 c =
    let same = file-refused c.args.bytes.now c.read-file.result c.read-file.ensures.value c.if-file-ne0.true in
    let put = c.write_refusal.ensures in
    record { value = rw same put.value; text = rw same put.text; counts = put.counts }

pub slice_bounds-poses-end : goal.slice_bounds-poses-end
slice_bounds-poses-end c =
    let read = c.read-file in
    let bytes = c.args.bytes.now in
    omega (arith, read.ensures.count, poses-room (MoveFile-poses bytes) _ read.ensures.left)

pub slice_bounds-write_poses-end : goal.slice_bounds-write_poses-end
slice_bounds-write_poses-end c =
    let read = c.read-file in
    let room = poses-room (MoveFile-poses c.args.bytes.now) _ read.ensures.left in
    sym (length-take-le _ _ (omega (arith, read.ensures.count, room)))

pub returns : goal.returns
returns c =
    let same = file-printed c.args.bytes.now c.read-file.result c.read-file.ensures.value _ _ c.bounds.result
    c.if-file-ne0.false c.read-file.ensures.left c.bounds.ensures.value in
    let put = c.write_poses.ensures in
    record { value = rw same put.value; text = rw same put.text; counts = put.counts }
