-- A chain's cover gives the numbers of a move's cover alone, and one whose number is 0 is a box: `chain-cover-numbered`.
use Prim.Native.Nat.{ℕ}
use mathlib.Core.List.{List, [], ◌∷◌, map}
use Rattle.bounds_answers.specs.bounds3.declared.Bounds3f.{Bounds3f}
use Rattle.bounds_answers.specs.transform.declared.BoundsAnswer.{BoundsAnswer}
use Rattle.bounds_answers.specs.animated_transform.declared.AnimatedTransform.{AnimatedTransform}
use Rattle.bounds_answers.specs.motion_cover.Cover.{AnimatedTransform-cover}
use Rattle.bounds_answers.specs.motion_cover.Answer.{BoundsAnswer-Numbered}
use Rattle.bounds_answers.proofs.motion_cover.Number.{cover-numbered}
use Rattle.bounds_answers.proofs.UnionAll.{each_map, each_of, union-all-numbered}
use Rattle.motion_chain.specs.Chain.{Chain, union_covers, Chain-cover}

abbrev CoverNumbered : BoundsAnswer → Type 0
CoverNumbered = BoundsAnswer-Numbered (0 ∷ 5 ∷ 6 ∷ 7 ∷ 8 ∷ 10 ∷ [])

pub chain-cover-numbered : (c : Chain) (b : Bounds3f) (depth : ℕ) → BoundsAnswer-Numbered (0 ∷ 5 ∷ 6 ∷ 7 ∷ 8 ∷ 10 ∷ []) (Chain-cover c b depth)
unfolding Chain-cover union_covers
chain-cover-numbered c b depth =
    let own : AnimatedTransform → BoundsAnswer = λ m. AnimatedTransform-cover m b depth in
    let each = each_map {P = λ (m : AnimatedTransform). Unit {0}} CoverNumbered own (λ m _. cover-numbered m b depth) c.rest (each_of (λ m. tt) c.rest) in
    union-all-numbered (own c.first) (map own c.rest) (cover-numbered c.first b depth) each
