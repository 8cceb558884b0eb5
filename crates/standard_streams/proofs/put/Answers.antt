-- `put`: what a turn writes stands behind what was written before it.
use Rattle.std.proofs.Common.{◌≡◌, ℕ, ◌+◌, ◌-◌, List, Option, length, take, drop, sym, subst, le_refl, rules}
use Rattle.std.proofs.lemmas.List.{length-drop, take_all}
use Rattle.std.specs.Io.KnownBytes.{Appends}
use Rattle.std.proofs.KnownBytes.{Appends-trans}
use lib.Seq.{take-add}
use Rattle.standard_streams.proofs.put.Goals as goal

appended : (a b c : Option (List ℕ)) (at more : ℕ) (text : List ℕ) → Appends a b (take at text) → Appends b c (take more (take (length text - at) (drop at text)))
    → Appends a c (take (at + more) text)
appended a b c at more text before now =
    let whole : take (length (drop at text)) (drop at text) ≡ drop at text = take_all (length (drop at text)) (drop at text) (le_refl _) in
    let rest : take (length text - at) (drop at text) ≡ drop at text = subst (λ n. take n (drop at text) ≡ drop at text) (length-drop at text) whole in
    let written : Appends b c (take more (drop at text)) = subst (λ l. Appends b c (take more l)) rest now in
    subst (Appends a c) (sym (take-add at more text)) (Appends-trans a b c (take at text) (take more (drop at text)) before written)

pub loop-at-preserved : goal.loop-at-preserved
loop-at-preserved g c = record {
  in_bounds = search rules;
  given = appended _ _ _ c.loop-at.at c.in_ok-taken.taken c.args.text.now c.loop-at.invariant.given c.in_ok-taken.ensures.bytes;
}
