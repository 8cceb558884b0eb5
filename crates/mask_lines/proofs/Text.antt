-- A mask's text as it is written, two words behind a space: `words-text`. Masks one by one: `masks-turn`, `masks-end`.
use Prim.Native.Nat.{ℕ, suc, ◌+◌, ◌/◌, ◌%◌, ◌≤◌, ◌<◌}
use mathlib.Core.Path.{◌≡◌, refl}
use mathlib.Core.List.{List, map}
use native.Mathlib.Numerals.{add-one}
use lib.ListN.{length, get_or, drop, replicate, drop_of_length-le}
use lib.Seq.{drop-cons}
use Rattle.hexadecimal.specs.Word.{digits, Word-write}
use Rattle.answer_lines.specs.Pieces.{put_all, behind_all}
use Rattle.answer_lines.proofs.Put.{Puts}
use Rattle.answer_lines.proofs.Pieces.{all_cons}
use Rattle.answer_values.proofs.Lines.{Left}
use Rattle.mask_lines.specs.Masks.{mask_text}

pub words-text : (mask : ℕ) → Word-write (Word-write (replicate 17 32) 1 (mask / 4294967296)) 9 (mask % 4294967296) ≡ mask_text mask
unfolding Word-write digits mask_text
words-text mask = refl

pub masks-turn : (ms : List ℕ) (k : ℕ) (o after : List ℕ) (end r : ℕ) → k < length ms → Puts (mask_text (get_or ms k 0)) o end after r
    → Left (map mask_text (drop (k + 1) ms)) (map mask_text (drop k ms)) o after end r
masks-turn ms k o after end r h p =
    rw (add-one k, drop-cons ms k 0 h) (all_cons (mask_text (get_or ms k 0)) (map mask_text (drop (suc k) ms)) o after _ end r _ p (refl, refl))

pub masks-end : (ms : List ℕ) (k : ℕ) (o : List ℕ) (end : ℕ) → length ms ≤ k
    → (behind_all (map mask_text (drop k ms)) o end ≡ end) × (put_all (map mask_text (drop k ms)) o end ≡ o)
unfolding put_all behind_all
masks-end ms k o end h = rw (drop_of_length-le ms h) (refl, refl)
