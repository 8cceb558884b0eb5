-- `union_slices` meets its contract: a move that the window asks for is its pieces, any other nothing.
use Prim.Native.Nat.{min}
use mathlib.Core.Path.{subst, ◌∙◌}
use mathlib.Core.Bool.{◌&&◌}
use borrow.Author.Rules.{rules}
use Rattle.bounds_query.specs.Query.{max_depth}
use Rattle.bounds_query.specs.Same.{BoundsAnswer-Same}
use Rattle.window_slices.specs.dt_pieces.means.Pieces.{piece_box, union_pieces}
use Rattle.window_cover.proofs.Slices.{slices-pieces, slices-none}
use Rattle.window_cover.proofs.union_slices.Goals as goal

pub returns-then-not-m-overlaps : goal.returns-then-not-m-overlaps
returns-then-not-m-overlaps c = record {
  same = let a = c.args in
      let t = c.overlaps-overlaps in
      let none = rw t.ensures.value at c.if-not-m-overlaps.true in
      λ s h. subst (BoundsAnswer-Same a.r) (slices-none a.m a.b (min a.depth max_depth) a.w s none) h;
}

pub returns : goal.returns
returns c = record {
  same = let a = c.args in
      let t = c.overlaps-overlaps in
      let m = a.m in
      let d = min a.depth max_depth in
      let moves = rw t.ensures.value at c.if-not-m-overlaps.false in
      λ s h. subst (BoundsAnswer-Same c.union_pieces.result)
      ((λ i. union_pieces (piece_box (c.constants-a.ensures.value i) m.s0 m.s1 m.pad0 m.pad1 a.b) s d (c.share-dt.ensures.value i))
      ∙ slices-pieces m a.b d a.w s moves)
      (c.union_pieces.ensures.same s h);
}
