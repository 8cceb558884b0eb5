-- Lines of answers put piece by piece: `answer-refused` and `answer_ok`, the two kinds of line; `decimals-turn` and `rows-turn`, one value more,
-- `decimals-end` and `rows_end`, none left.
use Prim.Native.Nat.{ℕ, suc, ◌+◌, ◌≤◌, ◌<◌}
use native.Mathlib.Numerals.{add-one}
use mathlib.Core.Path.{◌≡◌, refl}
use mathlib.Core.List.{List, [], ◌∷◌, ◌++◌}
use lib.Ieee.{Float}
use lib.ListN.{length, take, drop, get_or, drop_of_length-le}
use lib.Seq.{drop-cons}
use borrow.Author.Tests.{ne_eqb, eq-eqb, le-leb, lt-leb}
use Rattle.answer_lines.specs.motion_file.Text.{ascii, line_feed}
use Rattle.answer_lines.specs.Pieces.{put_all, behind_all, whole_pieces, refused_pieces, floats_text}
use Rattle.answer_lines.proofs.Put.{Puts}
use Rattle.answer_lines.proofs.Pieces.{PutsAll, all_none, all_cons, all_append}
use Rattle.answer_values.specs.Lines.{decimal_pieces, wholes_pieces, rows_pieces, answer_pieces}

pub answer-refused : (n : ℕ) (ts : List (List ℕ)) (b after : List ℕ) (at r : ℕ) → (n ≡ 0 → ⊥)
    → PutsAll (refused_pieces n) b at after r → PutsAll (answer_pieces n ts) b at after r
unfolding answer_pieces
answer-refused n ts b after at r h p = rw (ne_eqb n 0 h) p

pub answer_ok : (n : ℕ) (ts : List (List ℕ)) (b o u after : List ℕ) (at s e r : ℕ) → n ≡ 0
    → Puts (ascii "ok") b at o s → PutsAll ts o s u e → Puts (line_feed ∷ []) u e after r → PutsAll (answer_pieces n ts) b at after r
unfolding answer_pieces
answer_ok n ts b o u after at s e r z p q l =
    rw (eq-eqb n 0 z)
    (all_cons (ascii "ok") (ts ++ ((line_feed ∷ []) ∷ [])) b o after at s r p
    (all_append ts ((line_feed ∷ []) ∷ []) o u after s e r q (all_cons (line_feed ∷ []) [] u after after e r r l (all_none after r))))

-- what is left of pieces behind those that are put
abbrev pub Left : List (List ℕ) → List (List ℕ) → List ℕ → List ℕ → ℕ → ℕ → Type 0
Left vs ts o after end r = (behind_all vs after r ≡ behind_all ts o end) × (put_all vs after r ≡ put_all ts o end)

pub decimals-turn : (ns : List ℕ) (k : ℕ) (o after : List ℕ) (end r : ℕ) → k < length ns → PutsAll (whole_pieces (get_or ns k 0)) o end after r
    → Left (decimal_pieces (drop (k + 1) ns)) (decimal_pieces (drop k ns)) o after end r
unfolding decimal_pieces
decimals-turn ns k o after end r h p =
    rw (add-one k, drop-cons ns k 0 h) (all_append (whole_pieces (get_or ns k 0)) (decimal_pieces (drop (suc k) ns)) o after _ end r _ p (refl, refl))

pub decimals-end : (ns : List ℕ) (k : ℕ) (o : List ℕ) (end : ℕ) → length ns ≤ k
    → (behind_all (decimal_pieces (drop k ns)) o end ≡ end) × (put_all (decimal_pieces (drop k ns)) o end ≡ o)
unfolding decimal_pieces put_all behind_all
decimals-end ns k o end h = rw (drop_of_length-le ns h) (refl, refl)

pub wholes-enough : (ns : List ℕ) (n : ℕ) → n ≤ length ns → wholes_pieces ns n ≡ decimal_pieces (take n ns)
unfolding wholes_pieces
wholes-enough ns n h = rw (le-leb n (length ns) h)

pub wholes-few : (ns : List ℕ) (n : ℕ) → length ns < n → wholes_pieces ns n ≡ []
unfolding wholes_pieces
wholes-few ns n h = rw (lt-leb n (length ns) h)

pub rows-turn : (size : ℕ) (rs : List (List Float)) (k : ℕ) (o after : List ℕ) (end r : ℕ) → k < length rs → Puts (floats_text (get_or rs k []) size) o end after r
    → Left (rows_pieces size (drop (k + 1) rs)) (rows_pieces size (drop k rs)) o after end r
unfolding rows_pieces
rows-turn size rs k o after end r h p =
    rw (add-one k, drop-cons rs k [] h) (all_cons (floats_text (get_or rs k []) size) (rows_pieces size (drop (suc k) rs)) o after _ end r _ p (refl, refl))

pub rows_end : (size : ℕ) (rs : List (List Float)) (k : ℕ) (o : List ℕ) (end : ℕ) → length rs ≤ k
    → (behind_all (rows_pieces size (drop k rs)) o end ≡ end) × (put_all (rows_pieces size (drop k rs)) o end ≡ o)
unfolding rows_pieces put_all behind_all
rows_end size rs k o end h = rw (drop_of_length-le rs h) (refl, refl)
