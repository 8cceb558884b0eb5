-- The guarantee of a kept chain's cover, `kept-contains`: rows that building has left are asked as the chain of their moves is, and of built moves it is
-- known (`moves-contain`). Of any rows a cover whose number is 0 is a box, `cover-answered`. Likewise that a finer cover is never a wider one: `kept-finer`.
use Prim.Native.Nat.{ℕ, ◌+◌, ◌-◌}
use mathlib.Core.Path.{◌≡◌, ap, sym, subst, ◌∙◌}
use mathlib.Core.Bool.{not}
use mathlib.Core.List.{List}
use native.Mathlib.Omega.{arith}
use lib.Dec.{T, eqb}
use lib.ListN.{length}
use lib.Ieee.{Float, is_nan}
use Rattle.transform.proofs.control_flow.Choice.{cond-keeps}
use Rattle.transform.specs.matrix4x4.Rows.{Rows}
use Rattle.bounds3.specs.declared.Point3f.{Point3f}
use Rattle.bounds3.specs.declared.Bounds3f.{Bounds3f}
use Rattle.bounds3.specs.Inside.{Inside}
use Rattle.transform.specs.declared.BoundsAnswer.{BoundsAnswer}
use Rattle.transform.specs.declared.BoundsAnswer.TheVariants.{Bounds, Refused}
use Rattle.transform.specs.Answer.{BoundsAnswer-refusal, BoundsAnswer-bounds}
use Rattle.motion_chain.specs.motion_cover.Theorem.{MovedInside}
use Rattle.motion_chain.specs.cover_depth.Finer.{Within}
use Rattle.motion_chain.specs.Chain.{Chain, Chain-transform_point, Chain-pad_at, Chain-cover}
use Rattle.motion_chain.proofs.Cover.{moves-contain, moves-finer}
use Rattle.motion_chain.proofs.Times.{times-inside}
use Rattle.motion_chain.proofs.Numbers.{chain-cover-numbered}
use Rattle.chain_rows.specs.Kept.{Chain-to_rows, Moves-chain, Moves-pad_at, Moves-cover}
use Rattle.chain_rows.specs.Theorem.{KeptChainContainsMotion}
use Rattle.chain_rows.specs.Finer.{KeptChainFiner}
use Rattle.chain_rows.proofs.Kept.{kept-chain, kept-point, kept-points, kept-cover, BuiltRows, built-rows}

pub kept-contains : (rows : List Rows) (b : Bounds3f) (depth : ℕ) → BoundsAnswer-refusal (Moves-cover rows b depth) ≡ 0
    → KeptChainContainsMotion rows b (BoundsAnswer-bounds (Moves-cover rows b depth))
kept-contains rows b depth none =
    record {
      at-time = λ time p h nan inside.
          let k = built-rows h in
          rw (kept-point rows k.chain time p k.same, kept-chain rows k.chain k.same, kept-cover rows k.chain b depth k.same)
          (contains k time p nan inside);
      at-times = λ times p h numbers rises inside.
          let k = built-rows h in
          let box = BoundsAnswer-bounds (Chain-cover k.chain b depth) in
          let pads : Moves-pad_at rows ≡ Chain-pad_at k.chain = λ i time. Chain-pad_at (kept-chain rows k.chain k.same i) time in
          rw (kept-points rows k.chain times p _ k.same, pads, kept-cover rows k.chain b depth k.same)
          (times-inside k.chain box times p (λ t nan. contains k t p nan inside) numbers rises);
    }
  where
    contains : (k : BuiltRows rows) (time : Float) (p : Point3f) → T (not (is_nan time)) → Inside b p
        → MovedInside (BoundsAnswer-bounds (Chain-cover k.chain b depth)) (Chain-pad_at k.chain time) (Chain-transform_point k.chain time p)
    contains k time p nan inside =
        moves-contain k.chain b depth time p k.each (ap BoundsAnswer-refusal (sym (kept-cover rows k.chain b depth k.same)) ∙ none) nan inside

pub kept-finer : (rows : List Rows) (b : Bounds3f) (depth : ℕ) → BoundsAnswer-refusal (Moves-cover rows b depth) ≡ 0
    → KeptChainFiner rows b depth (BoundsAnswer-bounds (Moves-cover rows b depth))
kept-finer rows b depth none finer h l most =
    let k = built-rows h in
    let c = k.chain in
    let n = finer - depth in
    let same : depth + n ≡ finer = omega (arith, l) in
    let own = kept-cover rows c b depth k.same in
    let deeper : Within (Chain-cover c b (depth + n)) (BoundsAnswer-bounds (Chain-cover c b depth)) =
    moves-finer c b depth n k.each (omega (arith, same, most)) (ap BoundsAnswer-refusal (sym own) ∙ none) in
    rw (own, kept-cover rows c b finer k.same) (subst (λ (d : ℕ). Within (Chain-cover c b d) (BoundsAnswer-bounds (Chain-cover c b depth))) same deeper)

pub cover-answered : (rows : List Rows) (b : Bounds3f) (depth : ℕ) → BoundsAnswer-refusal (Moves-cover rows b depth) ≡ 0
    → Moves-cover rows b depth ≡ Bounds (BoundsAnswer-bounds (Moves-cover rows b depth))
unfolding Moves-cover
cover-answered rows b depth =
    cond-keeps (λ (a : BoundsAnswer). BoundsAnswer-refusal a ≡ 0 → a ≡ Bounds (BoundsAnswer-bounds a))
    (eqb (length rows) 0) (Refused 12) (Chain-cover (Moves-chain rows) b depth)
    (λ e. absurd (omega (arith, e))) (chain-cover-numbered (Moves-chain rows) b depth).none

-- The clauses of the cover, from its value.
pub cover-clauses : (rows : List Rows) (b : Bounds3f) (depth : ℕ) {r : BoundsAnswer} → r ≡ Moves-cover rows b depth
    → (r ≡ Moves-cover rows b depth) × (((c : Chain) → rows ≡ Chain-to_rows c → r ≡ Chain-cover c b depth)
    × ((BoundsAnswer-refusal r ≡ 0 → KeptChainContainsMotion rows b (BoundsAnswer-bounds r))
    × (BoundsAnswer-refusal r ≡ 0 → KeptChainFiner rows b depth (BoundsAnswer-bounds r))))
cover-clauses rows b depth e = (e, (λ c k. e ∙ kept-cover rows c b depth k, rw e (kept-contains rows b depth, kept-finer rows b depth)))
