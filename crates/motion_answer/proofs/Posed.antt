-- The cover of a box under poses, in the two ways in which the code comes by it, `refused-cover` and `built-cover`, and that of a file, `file-refused` and
-- `file-cover`. A built chain has 2 to 32 poses (`built-count`), and what is put into an array's front leaves it no shorter (`moves-room`, `poses-room`).
use Prim.Native.Nat.{ℕ, ◌≤◌}
use mathlib.Core.Path.{◌≡◌, refl, sym, ap, ◌∙◌}
use mathlib.Core.Bool.{Bool}
use mathlib.Core.List.{List}
use native.Mathlib.Omega.{arith}
use lib.Ieee.{Float, binary32, of_bits}
use lib.ListN.{length, take, drop, replicate, length-append, length-drop}
use lib.Seq.{take_at}
use borrow.Author.Tests.{eq-eqb, ne_eqb}
use Rattle.motion_text.specs.matrix4x4.Rows.{Rows}
use Rattle.bounds3.specs.declared.Bounds3f.{Bounds3f}
use Rattle.bounds3.specs.List.{Bounds3f-of_list}
use Rattle.transform.specs.declared.BoundsAnswer.{BoundsAnswer}
use Rattle.transform.specs.declared.BoundsAnswer.TheVariants.{Refused}
use Rattle.chain_build.specs.motion_chain.Chain.{Chain, ChainAnswer, built, refused, ChainAnswer-refusal, Chain-new, Chain-cover}
use Rattle.chain_build.proofs.motion_chain.Built.{new-built, checks-passed, none-built}
use Rattle.chain_build.specs.chain_poses.Poses.{Poses-of_lists}
use Rattle.chain_build.proofs.chain_poses.Loops as loops
use Rattle.chain_build.specs.chain_rows.Kept.{Chain-to_rows}
use Rattle.chain_build.specs.Build.{ChainAnswer-left}
use Rattle.motion_text.specs.motion_file.declared.MoveFile.{MoveFile}
use Rattle.motion_text.specs.motion_file.Layout.{MoveFile-read, MoveFile-poses}
use Rattle.motion_text.specs.motion_file.Front.{front}
use Rattle.motion_text.proofs.motion_file.Files.{poses-length}
use Rattle.motion_answer.specs.Answer.{cover_depth, ChainAnswer-cover, MoveFile-chain, MoveFile-cover}

pub refused-cover : (a : ChainAnswer) (b : Bounds3f) {r : ℕ} → r ≡ ChainAnswer-refusal a → (r ≡ 0 → ⊥) → Refused r ≡ ChainAnswer-cover a b
unfolding ChainAnswer-cover
refused-cover (built c) b e h = absurd (h e)
refused-cover (refused n) b e h = ap Refused e

module _ (rigid : Bool) (lists : List (List Float)) {r : ℕ} (e : r ≡ ChainAnswer-refusal (Chain-new rigid (Poses-of_lists lists))) (h : r ≡ 0) where
  chain-built : (c : Chain) × (Chain-new rigid (Poses-of_lists lists) ≡ built c)
  chain-built = none-built rigid (Poses-of_lists lists) (sym e ∙ h)

  pub built-count : (2 ≤ length lists) × (length lists ≤ 32)
  built-count =
      let (c, s) = chain-built in
      let passed = checks-passed rigid (Poses-of_lists lists) (new-built rigid (Poses-of_lists lists) c s).0 in
      let count = loops.poses-length lists in
      (omega (arith, passed.least, count), omega (arith, passed.greatest, count))

  pub built-cover : (b : Bounds3f) (cover : BoundsAnswer) → ((c : Chain) → Chain-new rigid (Poses-of_lists lists) ≡ built c → cover ≡ Chain-cover c b cover_depth)
      → cover ≡ ChainAnswer-cover (Chain-new rigid (Poses-of_lists lists)) b
  unfolding ChainAnswer-cover
  built-cover b cover k = let (c, s) = chain-built in rw s (k c s)

-- ---- the lent arrays, zeros as they are lent
front-room : {A : Type 0} (items old : List A) → length old ≤ length (front items old)
front-room items old = omega (arith, length-append items (drop (length items) old), length-drop (length items) old)

abbrev zeros : ℕ → List Float
zeros n = replicate n (of_bits binary32 0)

pub moves-room : (a : ChainAnswer) (left : List Rows) → left ≡ ChainAnswer-left a (replicate 31 (replicate 45 (zeros 4))) → 31 ≤ length left
moves-room (built c) left e = rw e (front-room (Chain-to_rows c) (replicate 31 (replicate 45 (zeros 4))))
moves-room (refused n) left e = rw e (omega arith)

pub poses-room : (poses left : List (List Float)) → left ≡ front poses (replicate 559 (zeros 18)) → 559 ≤ length left
poses-room poses left e = rw e (front-room poses (replicate 559 (zeros 18)))

-- ---- a file
module _ (rigid : Bool) (bytes : List ℕ) (file : MoveFile) (e : file ≡ MoveFile-read bytes) where
  pub file-refused : (file.refusal ≡ 0 → ⊥) → Refused file.refusal ≡ MoveFile-cover rigid bytes
  unfolding MoveFile-cover
  file-refused h = rw (← e, ne_eqb file.refusal 0 h)

  pub file-cover : (old left : List (List Float)) (b : Bounds3f) (cover : BoundsAnswer)
      → file.refusal ≡ 0 → left ≡ front (MoveFile-poses bytes) old → b ≡ Bounds3f-of_list file.bounds
      → cover ≡ ChainAnswer-cover (Chain-new rigid (Poses-of_lists (take file.count left))) b → cover ≡ MoveFile-cover rigid bytes
  unfolding MoveFile-cover MoveFile-chain
  file-cover old left b cover h el eb ec =
      let poses = MoveFile-poses bytes in
      let whole : take file.count left ≡ poses = rw (el, e) (take_at poses (drop (length poses) old) (MoveFile-read bytes).count (poses-length bytes)) in
      rw (← e, eq-eqb file.refusal 0 h) (rw (whole, eb) at ec)
