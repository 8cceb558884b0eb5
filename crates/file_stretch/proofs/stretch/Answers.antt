-- `stretch` meets its contract: what stands in the front of its own array is the text, and is written if it fits (`wrote`).
use native.Mathlib.Omega.{arith}
use mathlib.Core.Path.{◌≡◌, sym}
use lib.ListN.{take}
use lib.Seq.{length-take-le}
use Rattle.file_stretch.specs.Stretch.{stretch_text}
use Rattle.file_stretch.proofs.Pieces.{front-taken, wrote}
use Rattle.file_stretch.proofs.stretch.Goals as goal

pub returns : goal.returns
returns c =
    let a = c.args in
    let file = c.put_file-n in
    let write = c.write_text in
    let whole = front-taken (stretch_text a.bytes.now) _ _ file.result file.ensures.value file.ensures.bound file.ensures.text in
    let all = wrote (stretch_text a.bytes.now) a.out.now _ _ (rw whole at write.ensures.value) (rw whole at write.ensures.text) in
    record { value = all.0; text = all.1.0; counts = all.1.1 }
