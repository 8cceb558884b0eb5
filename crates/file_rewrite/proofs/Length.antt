-- No text is longer than that of 32 poses, so that 4,161 bytes hold what is printed for every file: `rewritten-length`.
use Prim.Native.Nat.{ℕ, ◌+◌, ◌*◌, ◌≤◌}
use native.Mathlib.Omega.{arith}
use mathlib.Core.Path.{◌≡◌, refl, sym, ap}
use mathlib.Core.Bool.{false}
use mathlib.Core.List.{List, [], ◌∷◌}
use lib.Dec.{eqb}
use lib.Ieee.{Float}
use lib.ListN.{length}
use Rattle.bounds_query.proofs.control_flow.Choice.{cond-keeps}
use Rattle.bounds3.specs.declared.Bounds3f.{Bounds3f}
use Rattle.bounds3.specs.List.{Bounds3f-list}
use Rattle.bounds_query.specs.Query.{Bounds3f-refusal}
use Rattle.chain_build.specs.motion_chain.Chain.{Chain, ChainAnswer, built, refused, ChainAnswer-refusal, Chain-new}
use Rattle.chain_build.specs.motion_chain.Built.{Each}
use Rattle.chain_build.specs.chain_poses.Poses.{Poses-of_lists}
use Rattle.chain_text.specs.built_poses.Poses.{places_per_pose, Poses-lists, Chain-poses}
use Rattle.chain_text.proofs.built_poses.Built.{built-poses}
use Rattle.motion_text.specs.motion_file.declared.MoveFile.{MoveFile}
use Rattle.motion_text.specs.motion_file.Layout.{MoveFile-read, MoveFile-box, MoveFile-poses}
use Rattle.motion_text.specs.Answer.{refusal_text}
use Rattle.motion_text.proofs.Written.{refusal-bound}
use Rattle.motion_answer.specs.Answer.{MoveFile-chain}
use Rattle.motion_answer.proofs.Posed.{built-count}
use Rattle.chain_text.specs.file_text.Text.{Chain-text}
use Rattle.chain_text.proofs.file_text.Length.{move-text-length}
use Rattle.file_rewrite.specs.Rewrite.{boxed_text, ChainAnswer-text, rewritten_text}
use Rattle.file_rewrite.specs.Theorem.{longest_text}

refusal-length : (n : ℕ) → length (refusal_text n) ≤ longest_text
refusal-length n = omega (arith, refusal-bound n)

-- ---- a chain's text
each_long : (lists : List (List Float)) → Each (λ pose. places_per_pose ≤ length pose) (Poses-lists (Poses-of_lists lists))
unfolding Poses-lists Poses-of_lists
each_long [] = tt
each_long (l ∷ lists) = (omega arith, each_long lists)

lists-count : (lists : List (List Float)) → length (Poses-lists (Poses-of_lists lists)) ≡ length lists
unfolding Poses-lists Poses-of_lists
lists-count [] = refl
lists-count (l ∷ lists) = rw (lists-count lists)

chain_length : (lists : List (List Float)) (c : Chain) (b : Bounds3f) → Chain-new false (Poses-of_lists lists) ≡ built c → length (Chain-text c b) ≤ longest_text
unfolding Chain-text
chain_length lists c b s =
    let few = (built-count false lists {r = 0} (sym (ap ChainAnswer-refusal s)) refl).1 in
    rw (built-poses false (Poses-of_lists lists) c s)
    (omega (arith, move-text-length (Poses-lists (Poses-of_lists lists)) (Bounds3f-list b) (each_long lists) refl, lists-count lists, few))

pub rewritten-length : (bytes : List ℕ) → length (rewritten_text bytes) ≤ longest_text
unfolding MoveFile-chain rewritten_text ChainAnswer-text boxed_text
rewritten-length bytes =
    cond-keeps (λ (text : List ℕ). length text ≤ longest_text) (eqb (MoveFile-read bytes).refusal 0)
    (ChainAnswer-text (MoveFile-chain false bytes) (MoveFile-box bytes)) (refusal_text (MoveFile-read bytes).refusal)
    (go (MoveFile-chain false bytes) refl (MoveFile-box bytes)) (refusal-length (MoveFile-read bytes).refusal)
  where
    go : (a : ChainAnswer) → MoveFile-chain false bytes ≡ a → (b : Bounds3f) → length (ChainAnswer-text a b) ≤ longest_text
    go (built c) e b =
        cond-keeps (λ (text : List ℕ). length text ≤ longest_text) (eqb (Bounds3f-refusal b) 0) (Chain-text c b) (refusal_text (Bounds3f-refusal b))
        (chain_length (MoveFile-poses bytes) c b e) (refusal-length (Bounds3f-refusal b))
    go (refused n) e b = refusal-length n
