-- `interpolate_chain` meets its contract: for the rows of a chain it is the chain's own, and it moves points as the point query does (`chain-clauses`).
use Prim.Native.Nat.{ℕ}
use mathlib.Core.Path.{◌≡◌, ap, ◌∙◌}
use mathlib.Core.List.{[]}
use lib.ListN.{get_or}
use borrow.Author.Tests.{eq-eqb, ne_eqb}
use Rattle.refusal.specs.declared.Refusal.TheVariants
use Rattle.std.specs.Prelude.{Err}
use Rattle.transform.specs.Transform.{TransformAnswer-refused, TransformAnswer-of_result}
use Rattle.interpolate_kept.specs.Kept.{Rows-interpolate, Moves-interpolate}
use Rattle.interpolate_kept.proofs.Kept.{chain-clauses}
use Rattle.interpolate_kept.proofs.interpolate_chain.Goals as goal

pub returns-then-moves-eq0 : goal.returns-then-moves-eq0
unfolding Moves-interpolate
returns-then-moves-eq0 c =
    let a = c.args in
    let value : TransformAnswer-refused 12 ≡ Moves-interpolate a.moves.now a.time = rw (eq-eqb _ 0 c.if-moves-eq0.true) in
    let all = chain-clauses a.moves.now a.time (Err TheVariants.Chain) value in
    record { value = value; kept = all.0; moves_points = all.1 }

pub returns : goal.returns
unfolding Moves-interpolate
returns c =
    let a = c.args in
    let value : TransformAnswer-of_result c.interpolate.result ≡ Moves-interpolate a.moves.now a.time = rw (ne_eqb _ 0 c.if-moves-eq0.false)
    (c.interpolate.ensures.value ∙ ap (λ (i : ℕ). Rows-interpolate (get_or a.moves.now i []) a.time) c.place-i.ensures.value) in
    let all = chain-clauses a.moves.now a.time c.interpolate.result value in
    record { value = value; kept = all.0; moves_points = all.1 }
