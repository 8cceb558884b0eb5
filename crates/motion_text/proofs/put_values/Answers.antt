-- `put_values` pastes a line of values. The invariant: the first k of them, each with what stands behind it, stand in `out` from `at` on.
use Prim.Native.Nat.{◌+◌}
use native.Mathlib.Omega.{arith}
use mathlib.Core.Path.{◌≡◌, refl, ◌∙◌, ap}
use lib.ListN.{length}
use lib.Seq.{paste-zero}
use Rattle.motion_text.proofs.Written.{values_line, values-size, values-turn}
use Rattle.motion_text.proofs.put_values.Goals as goal

pub loop-k-init : goal.loop-k-init
loop-k-init c =
    let a = c.args in
    (refl, paste-zero a.out.now a.at (values_line a.values.now))

pub loop-k-preserved : goal.loop-k-preserved
loop-k-preserved c =
    let a = c.args in
    let l = c.loop-k in
    let write = c.write_word in
    let turn =
    values-turn a.values.now l.k (omega arith) a.out.now l.out _ a.at _ _ (omega arith) l.invariant.1
    c.bits_of_float.ensures.value write.ensures.value c.separator.ensures in
    (ap length turn ∙ values-size a.values.now (l.k + 1) a.out.now a.at (omega arith) (omega arith), turn)

pub returns : goal.returns
returns c =
    let l = c.loop-k in
    let e : l.k ≡ length c.args.values.now = omega arith in
    rw (← e) l.invariant.1
