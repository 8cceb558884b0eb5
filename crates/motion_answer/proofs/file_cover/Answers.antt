-- `file_cover` meets its contract: the file's number chooses the case, and the poses that were read stand in the front of the array.
use native.Mathlib.Omega.{arith}
use mathlib.Core.Path.{sym}
use lib.Seq.{length-take-le}
use borrow.Author.Rules.{rules}
use Rattle.motion_text.specs.motion_file.Layout.{MoveFile-poses}
use Rattle.motion_answer.proofs.Posed.{poses-room, file-refused, file-cover}
use Rattle.motion_answer.proofs.file_cover.Goals as goal

pub returns-then-file-ne0 : goal.returns-then-file-ne0
returns-then-file-ne0 c = record {
  value = let read = c.read-file in
      file-refused c.args.rigid c.args.bytes.now read.result read.ensures.value c.if-file-ne0.true;
}

pub slice_bounds-poses-end : goal.slice_bounds-poses-end
slice_bounds-poses-end c =
    let read = c.read-file in
    let bytes = c.args.bytes.now in
    omega (arith, read.ensures.count, poses-room (MoveFile-poses bytes) _ read.ensures.left)

pub slice_bounds-poses_cover-end : goal.slice_bounds-poses_cover-end
slice_bounds-poses_cover-end c =
    let read = c.read-file in
    let room = poses-room (MoveFile-poses c.args.bytes.now) _ read.ensures.left in
    sym (length-take-le _ _ (omega (arith, read.ensures.count, room)))

pub returns : goal.returns
returns c = record {
  value = let bytes = c.args.bytes.now in
      let read = c.read-file in
      let none = c.if-file-ne0.false in
      file-cover c.args.rigid bytes read.result read.ensures.value _ _ _ c.poses_cover.result none read.ensures.left
      c.bounds.ensures.value c.poses_cover.ensures.value;
}
