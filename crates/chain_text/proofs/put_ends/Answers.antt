-- `put_ends` puts the lines of the moves' ends. The invariant: the first i of them stand in `out`, and are 32-bit floats.
use Prim.Native.Nat.{◌+◌}
use native.Mathlib.Omega.{arith}
use mathlib.Core.Path.{◌≡◌, refl, ◌∙◌, ap}
use lib.ListN.{length}
use lib.Seq.{paste-zero, take_all}
use Rattle.chain_text.proofs.Lines.{ends_text}
use Rattle.chain_text.proofs.Floats.{ends_next}
use Rattle.chain_text.proofs.Pieces.{ends-size, put-end}
use Rattle.chain_text.proofs.put_ends.Goals as goal

pub loop-i-init : goal.loop-i-init
loop-i-init c =
    let a = c.args in
    (refl, paste-zero a.out.now 183 (ends_text a.moves.now), tt)

pub overflow_mul-i : goal.overflow_mul-i
overflow_mul-i c = record { fits = omega arith }

pub overflow_add-i : goal.overflow_add-i
overflow_add-i c = record { fits = omega arith }

pub put_pose-requires : goal.put_pose-requires
put_pose-requires c =
    let l = c.loop-i in
    omega (arith, l.invariant.0, c.loop-i-test.true)

pub loop-i-preserved : goal.loop-i-preserved
loop-i-preserved c =
    let l = c.loop-i in
    let a = c.args in
    let h = c.loop-i-test.true in
    let turn = put-end a.out.now a.moves.now c.requires l.i h c.end_pose.ensures.value l.out _ l.invariant.1 c.put_pose.ensures.left in
    let floats = ends_next a.moves.now l.i _ h l.invariant.2 c.end_pose.ensures.value c.put_pose.ensures.floats in
    (ap length turn ∙ ends-size a.out.now a.moves.now c.requires (l.i + 1) (omega (arith, h)), turn, floats)

pub returns : goal.returns
returns c = let l = c.loop-i in let e : l.i ≡ length c.args.moves.now = omega arith in let rows = c.args.moves.now in record { left = rw (← e) l.invariant.1; floats = rw (take_all l.i rows (omega (arith, e))) at l.invariant.2 }
