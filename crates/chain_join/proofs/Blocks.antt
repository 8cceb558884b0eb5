-- Blocks put over others, and then those of a second list behind the first: both stand at the front, `two-fronts`.
use Prim.Native.Nat.{◌+◌, ◌≤◌}
use native.Mathlib.Nat.{zero-add}
use native.Mathlib.Omega.{arith}
use mathlib.Core.Path.{◌≡◌, refl, sym, ap, ◌∙◌}
use mathlib.Core.List.{List, [], ◌∷◌, ◌++◌, append_assoc}
use lib.ListN.{length, take, drop, length-append}
use lib.Seq.{paste, take-length, take-append_seam, drop-append_seam, drop-drop}
use Rattle.pose_bits.specs.matrix4x4.Rows.{Rows}
use Rattle.chain_build.specs.Build.{blocks_left}

pub two-fronts : (first second old : List Rows) {filled left : List Rows} → length first + length second ≤ length old
    → filled ≡ paste old 0 first (length first) → left ≡ paste filled (length first) second (length second)
    → left ≡ blocks_left (first ++ second) old
two-fronts first second old {filled} h e f =
    let n = length first in
    let m = length second in
    let plain : filled ≡ first ++ drop n old = e ∙ rw (zero-add n, take-length first) in
    let head : take n filled ≡ first = ap (λ (l : List Rows). take n l) plain ∙ take-append_seam first (drop n old) in
    let tail : drop (n + m) filled ≡ drop (n + m) old =
    sym (drop-drop m n filled)
    ∙ ap (λ (l : List Rows). drop m l) (ap (λ (l : List Rows). drop n l) plain ∙ drop-append_seam first (drop n old))
    ∙ drop-drop m n old in
    f ∙ rw (head, tail, take-length second, length-append first second)
