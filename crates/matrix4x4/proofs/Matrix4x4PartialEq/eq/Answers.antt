-- `eq` meets its contract: `==` of two rows compares their four entries.
use borrow.Author.Rules.{rules}
use Rattle.matrix4x4.specs.Eq.{Matrix4x4-eq}
use Rattle.matrix4x4.proofs.Rows.{row-eq}
use Rattle.matrix4x4.proofs.Matrix4x4PartialEq.eq.Goals as goal

pub returns : goal.returns
unfolding Matrix4x4-eq
returns c =
    let m = c.args.self.now in
    let n = c.args.other.now in
    rw (
      c.eq.ensures,
      row-eq m.r0 n.r0 (search rules) (search rules),
      c.eq-2.ensures,
      row-eq m.r1 n.r1 (search rules) (search rules),
      c.eq-3.ensures,
      row-eq m.r2 n.r2 (search rules) (search rules),
      c.eq-4.ensures,
      row-eq m.r3 n.r3 (search rules) (search rules),
    )
