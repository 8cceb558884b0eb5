-- `union_places` meets its contract. The invariant: what is joined, with what is left, is the whole.
use mathlib.Core.Path.{sym, ◌∙◌}
use Rattle.chain_covers.specs.means.Union.{union_boxes}
use Rattle.chain_covers.proofs.Union.{union-next, union-end, behind-first}
use Rattle.chain_covers.proofs.union_places.Goals as goal

pub loop-place-preserved : goal.loop-place-preserved
loop-place-preserved c =
    let l = c.loop-place in
    rw (c.union_bounds-union.ensures.value, c.bounds.ensures.value) (union-next _ l.union l.place-index c.loop-place-test.true) ∙ l.invariant

pub returns : goal.returns
returns c = record {
  value = let l = c.loop-place in
      let a = c.args in
      sym (union-end _ l.union l.place-index c.loop-place-test.false)
      ∙ l.invariant
      ∙ (λ i. union_boxes (c.bounds-union.ensures.value i) (behind-first a.places.now a.n c.requires.n_nonzero i));
}
