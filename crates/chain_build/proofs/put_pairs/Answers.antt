-- `put_pairs` meets its contract. Its loop keeps the first number of the pairs from the one whose second pose is i, what is put once all of them are,
-- and that all are built if these are.
use Prim.Native.Nat.{◌+◌, ◌-◌}
use mathlib.Core.Path.{refl, ◌∙◌}
use native.Mathlib.Omega.{arith}
use borrow.Author.Tests.{eq-eqb, ne_eqb}
use Rattle.chain_poses.specs.motion_chain.Chain.{first_number}
use Rattle.chain_poses.specs.Poses.{Poses-of_lists, Poses-pair_at}
use Rattle.chain_poses.proofs.Loops.{poses-length, pairs_from, pairs_next, pairs_end, pairs-count}
use Rattle.chain_build.proofs.Put.{put, put_front, put_next}
use Rattle.chain_build.proofs.put_pairs.Goals as goal

pub loop-i-init : goal.loop-i-init
loop-i-init c = (refl, refl, λ h. h)

pub returns-then-refusal-ne0 : goal.returns-then-refusal-ne0
unfolding first_number
returns-then-refusal-ne0 c =
    let l = c.loop-i in
    let next = pairs_next c.args.poses.now l.i l.auto.i c.loop-i-test.true in
    let f = c.if-refusal-ne0.true in
    record { refusal = rw (← l.invariant.0, next, ← c.put_pair-refusal.ensures.refusal, ne_eqb _ 0 f); left = λ z. absurd (f z); built = λ z. absurd (f z) }

pub loop-i-preserved : goal.loop-i-preserved
unfolding first_number
loop-i-preserved c =
    let l = c.loop-i in
    let a = c.args in
    let next = pairs_next a.poses.now l.i l.auto.i c.loop-i-test.true in
    let z = c.if-refusal-ne0.false in
    let pair = Poses-pair_at a.poses.now (l.i - 1) in (
      rw (← l.invariant.0, next, ← c.put_pair-refusal.ensures.refusal, eq-eqb _ 0 z),
      put_next a.rigid l.moves l.i pair (pairs_from a.poses.now (l.i + 1)) l.auto.i (c.put_pair-refusal.ensures.left z) ∙ (rw (← next) refl ∙ l.invariant.1),
      λ rest. l.invariant.2 (rw next (c.put_pair-refusal.ensures.built z, rest)),
    )

pub returns : goal.returns
unfolding first_number put
returns c =
    let l = c.loop-i in
    let a = c.args in
    let end = pairs_end a.poses.now l.i l.auto.i c.loop-i-test.false in
    let poses = Poses-of_lists a.poses.now in
    let n = poses-length a.poses.now in
    let k = pairs-count poses in
    record {
      refusal = rw (← l.invariant.0, end);
      left = λ z.
          rw end at l.invariant.1 ∙ put_front a.rigid (pairs_from a.poses.now 1) a.moves.now (omega (arith, n, k, c.requires.poses_len_bound, c.requires.moves_len));
      built = λ z. l.invariant.2 (rw end tt);
    }
