-- The guarantee for a file, from that of a chain's cover: `file-contains` of the cover that a file asks for, and `answer-clauses` of what `answer` returns
-- and leaves. A box is answered only where nothing was refused (`file-accepted`), and its text is whole where 72 bytes are lent (`answer-length`).
use Prim.Native.Nat.{ℕ, ◌≤◌}
use native.Mathlib.Omega.{arith}
use mathlib.Core.Path.{◌≡◌, refl, sym, ap, subst, ◌∙◌}
use mathlib.Core.Bool.{Bool, true, false, cond}
use mathlib.Core.Logic.{inl, inr}
use mathlib.Core.List.{List, ◌++◌}
use borrow.Author.Tests.{eqb-true, eqb-false, le-leb}
use lib.Dec.{eqb}
use lib.ListN.{length, take, drop}
use lib.Seq.{take-append_seam}
use Rattle.bounds3.specs.declared.Bounds3f.{Bounds3f}
use Rattle.transform.specs.declared.BoundsAnswer.{BoundsAnswer}
use Rattle.transform.specs.declared.BoundsAnswer.TheVariants.{Bounds, Refused}
use Rattle.transform.specs.Answer.{BoundsAnswer-refusal, BoundsAnswer-bounds}
use Rattle.transform.proofs.Answer.{refused-number}
use Rattle.chain_build.specs.motion_cover.Theorem.{MovedInside}
use Rattle.chain_build.specs.motion_chain.Chain.{Chain, ChainAnswer, built, refused, ChainAnswer-refusal, Chain-transform_point, Chain-pad_at, Chain-cover}
use Rattle.chain_build.specs.motion_chain.Built.{BuiltChain}
use Rattle.chain_build.proofs.motion_chain.Cover.{chain-cover-answered, chain-contains}
use Rattle.chain_build.proofs.motion_chain.Built.{none-built}
use Rattle.chain_build.specs.chain_poses.Poses.{Poses-of_lists}
use Rattle.motion_text.specs.motion_file.Layout.{MoveFile-read, MoveFile-box, MoveFile-poses}
use Rattle.motion_text.specs.Answer.{text_left, length_in}
use Rattle.motion_text.proofs.Pastes.{Wrote}
use Rattle.motion_answer.specs.Answer.{cover_depth, ChainAnswer-cover, MoveFile-chain, MoveFile-cover, BoundsAnswer-text, answer_text}
use Rattle.motion_answer.specs.Theorem.{FileContainsMotion, AnswerContainsMotion, longest_text}
use Rattle.motion_answer.proofs.Built.{poses-binary32}
use Rattle.motion_answer.proofs.Length.{answer-length}

-- ---- where the number is 0

-- the chain was built, and the answer is its cover
pub record Accepted (rigid : Bool) (bytes : List ℕ) : Type 0 where
  pub chain : Chain
  pub from-file : MoveFile-chain rigid bytes ≡ built chain
  pub same : MoveFile-cover rigid bytes ≡ Chain-cover chain (MoveFile-box bytes) cover_depth

built-cover : (c : Chain) (b : Bounds3f) → ChainAnswer-cover (built c) b ≡ Chain-cover c b cover_depth
unfolding ChainAnswer-cover
built-cover c b = refl

chain-none : (a : ChainAnswer) (b : Bounds3f) → (ChainAnswer-refusal a ≡ 0 → (c : Chain) × (a ≡ built c))
    → BoundsAnswer-refusal (ChainAnswer-cover a b) ≡ 0 → (c : Chain) × (a ≡ built c)
unfolding ChainAnswer-cover
chain-none (built c) b h e = (c, refl)
chain-none (refused n) b h e = h e

pub file-accepted : (rigid : Bool) (bytes : List ℕ) → BoundsAnswer-refusal (MoveFile-cover rigid bytes) ≡ 0 → Accepted rigid bytes
unfolding MoveFile-cover MoveFile-chain
file-accepted rigid bytes = go (eqb n 0) refl (eqb-false n 0)
  where
    n : ℕ
    n = (MoveFile-read bytes).refusal

    a : ChainAnswer
    a = MoveFile-chain rigid bytes

    b : Bounds3f
    b = MoveFile-box bytes

    go : (t : Bool) → eqb n 0 ≡ t → (t ≡ false → n ≡ 0 → ⊥) → BoundsAnswer-refusal (cond t (ChainAnswer-cover a b) (Refused n)) ≡ 0 → Accepted rigid bytes
    go true t f e =
        let (c, s) = chain-none a b (none-built rigid (Poses-of_lists (MoveFile-poses bytes))) e in
        record { chain = c; from-file = s; same = rw t (ap (λ (x : ChainAnswer). ChainAnswer-cover x b) s ∙ built-cover c b) }
    go false t f e = absurd (f refl e)

pub file-answered : (rigid : Bool) (bytes : List ℕ) → BoundsAnswer-refusal (MoveFile-cover rigid bytes) ≡ 0
    → MoveFile-cover rigid bytes ≡ Bounds (BoundsAnswer-bounds (MoveFile-cover rigid bytes))
file-answered rigid bytes e =
    let r = file-accepted rigid bytes e in
    rw r.same (chain-cover-answered (MoveFile-box bytes) cover_depth r.chain (rw r.same at e))

file-built : (rigid : Bool) (bytes : List ℕ) (c : Chain) → MoveFile-chain rigid bytes ≡ built c → BuiltChain c
unfolding MoveFile-chain
file-built rigid bytes c e = record { rigid = rigid; poses = Poses-of_lists (MoveFile-poses bytes); poses-binary32 = poses-binary32 bytes; accepted = e }

pub file-contains : (rigid : Bool) (bytes : List ℕ) → BoundsAnswer-refusal (MoveFile-cover rigid bytes) ≡ 0 → FileContainsMotion rigid bytes (BoundsAnswer-bounds (MoveFile-cover rigid bytes))
file-contains rigid bytes e =
    let r = file-accepted rigid bytes e in
    let is-built = file-built rigid bytes r.chain r.from-file in
    record {
      chain = r.chain;
      from-file = r.from-file;
      is-built = is-built;
      contains = λ time p n i. subst
          (λ (x : BoundsAnswer). MovedInside (BoundsAnswer-bounds x) (Chain-pad_at r.chain time) (Chain-transform_point r.chain time p)) (sym r.same)
          (chain-contains r.chain (MoveFile-box bytes) cover_depth time p is-built (rw r.same at e) n i);
    }

-- ---- the text
text-contains : (rigid : Bool) (bytes : List ℕ) → AnswerContainsMotion rigid bytes (answer_text rigid bytes)
unfolding answer_text BoundsAnswer-text
text-contains rigid bytes = go (eqb (BoundsAnswer-refusal r) 0) (eqb-true (BoundsAnswer-refusal r) 0) (eqb-false (BoundsAnswer-refusal r) 0)
  where
    r : BoundsAnswer
    r = MoveFile-cover rigid bytes

    go : (b : Bool) → (b ≡ true → BoundsAnswer-refusal r ≡ 0) → (b ≡ false → BoundsAnswer-refusal r ≡ 0 → ⊥) → AnswerContainsMotion rigid bytes (BoundsAnswer-text r)
    go true f g =
        let e = f refl in
        inr (record { accepted = e; printed = ap BoundsAnswer-text (file-answered rigid bytes e); contains = file-contains rigid bytes e })
    go false f g = inl (record { refused = g refl; printed = ap BoundsAnswer-text (refused-number r (g refl)) })

-- A text that fits stands whole in the front of the buffer.
front-text : (text buffer after : List ℕ) (r : ℕ) → length text ≤ length buffer → r ≡ length_in text buffer → after ≡ text_left text buffer → take r after ≡ text
unfolding text_left length_in
front-text text buffer after r fits e f = rw (e, f, le-leb (length text) (length buffer) fits) (take-append_seam text (drop (length text) buffer))

same_text : (rigid : Bool) (bytes : List ℕ) (cover : BoundsAnswer) → cover ≡ MoveFile-cover rigid bytes → BoundsAnswer-text cover ≡ answer_text rigid bytes
unfolding answer_text
same_text rigid bytes cover e = ap BoundsAnswer-text e

-- The four clauses of `answer`, from what its two calls give.
pub answer-clauses : (rigid : Bool) (bytes buffer after : List ℕ) (r : ℕ) (cover : BoundsAnswer)
    → cover ≡ MoveFile-cover rigid bytes → Wrote (BoundsAnswer-text cover) buffer after r
    → (r ≡ length_in (answer_text rigid bytes) buffer) × ((after ≡ text_left (answer_text rigid bytes) buffer) × (((r ≤ length after) × (r ≡ length (take r after)))
    × (longest_text ≤ length buffer → AnswerContainsMotion rigid bytes (take r after))))
answer-clauses rigid bytes buffer after r cover e w =
    let text = same_text rigid bytes cover e in
    let (number, (left, counts)) : Wrote (answer_text rigid bytes) buffer after r = subst (λ (x : List ℕ). Wrote x buffer after r) text w in
    let whole : longest_text ≤ length buffer → take r after ≡ answer_text rigid bytes =
    λ room. front-text (answer_text rigid bytes) buffer after r (omega (arith, answer-length rigid bytes, room)) number left in
    (number, (left, (counts, λ room. subst (AnswerContainsMotion rigid bytes) (sym (whole room)) (text-contains rigid bytes))))
