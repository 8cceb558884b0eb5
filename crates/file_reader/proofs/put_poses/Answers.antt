-- `put_poses` puts a pose at each place in turn. The invariant: once those of the lines from the i-th on are put from place i on, all are.
use Prim.Native.Nat.{ℕ, ◌+◌, ◌≤◌, ◌<◌}
use native.Mathlib.Nat.{sub-zero}
use native.Mathlib.Omega.{arith}
use mathlib.Core.Path.{◌≡◌, sym, subst, ◌∙◌}
use lib.ListN.{length, replicate}
use lib.Ieee.{binary32, of_bits}
use lib.Seq.{length-take-le}
use Rattle.motion_file.specs.Layout.{values, max_bytes}
use Rattle.motion_file.specs.means.Place.{after_line}
use Rattle.motion_file.proofs.Lines.{place_from, place-next, lines-from-end, through-begins}
use Rattle.motion_file.proofs.Files.{line-length, read-pose, pose-put, poses-put}
use Rattle.file_reader.proofs.put_poses.Goals as goal

pub loop-pose-init : goal.loop-pose-init
loop-pose-init c =
    let all = sub-zero c.args.count in
    (rw all c.requires.at_in_bounds, rw all)

pub slice_bounds-values_line-end : goal.slice_bounds-values_line-end
slice_bounds-values_line-end c =
    sym (length-take-le c.args.columns _ c.requires.columns_bound)

pub loop-pose-preserved : goal.loop-pose-preserved
loop-pose-preserved c =
    let l = c.loop-pose in
    let a = c.args in
    let s = a.s.now in
    let line = c.values_line-place in
    let kind = values a.columns in
    let least = c.requires.le_columns in
    let most = c.requires.columns_bound in
    let part = length-take-le a.columns (replicate 14 (of_bits binary32 0)) most in
    let next = subst (λ (n : ℕ). line.result ≡ after_line (values n) s l.place) part line.ensures.value in
    let led : place_from kind s a.count (l.pose-index + 1) line.result ≤ length s =
    rw (next, ← place-next kind s a.count l.pose-index l.place (omega arith)) l.invariant.0 in
    let size : length s ≤ max_bytes = omega arith in
    let begins = through-begins s size _ line.result led in
    let read = line.ensures.out_after begins in
    let count = line-length a.columns s l.place size (rw (← next) begins) in
    let pose = c.pose_of.ensures ∙ read-pose a.columns least most read count in
    let more : l.pose-index < a.count = omega arith in
    (led, pose-put a.columns least most s a.count l.pose-index l.place line.result l.pose-items more next pose ∙ l.invariant.1)

pub returns : goal.returns
returns c =
    let l = c.loop-pose in
    let a = c.args in
    let size = length-take-le a.count a.poses.now (omega (arith, c.told-poses)) in
    poses-put a.columns a.s.now a.count a.at a.poses.now (omega (arith, c.told-poses))
    (rw (lines-from-end (values a.columns) a.s.now a.count l.pose-index l.place (omega (arith, size))) at l.invariant.1)
