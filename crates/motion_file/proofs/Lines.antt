-- The lines of a file by the places at which they begin: `after-fits`, `after-unfit` and `after-unended` say where the next line begins, `through-conforms`
-- that a file keeps a layout exactly where its lines lead to its end, and `pieces-through` that these lines are the pieces of the file. Rests on
-- `Pieces.antt`.
use Prim.Native.Nat.{ℕ, suc, ◌+◌, ◌-◌, ◌≤◌, ◌<◌}
use native.Mathlib.Nat.{eq-or-lt_of_le, add-sub_cancel_left}
use native.Mathlib.Omega.{arith}
use mathlib.Core.Path.{◌≡◌, refl, sym, ◌∙◌, ap}
use mathlib.Core.Bool.{Bool, true, false, cond, ◌&&◌, and-true, and-false}
use mathlib.Core.List.{List, [], ◌∷◌, ◌++◌}
use mathlib.Core.Logic.{⊎_elim}
use lib.Dec.{eqb, leb, ltb, eqb-suc-zero}
use lib.ListN.{length, get_or, take, drop, replicate, drop_of_length-le, length-drop}
use lib.Seq.{drop-cons, drop-drop}
use borrow.Author.Tests.{ltb-true, ltb-false, leb-true, leb-false, le-ltb, eq-eqb, ne_eqb}
use Rattle.hexadecimal.specs.Digit.{position}
use Rattle.hexadecimal.proofs.Digits.{position-bound}
use Rattle.motion_file.specs.Text.{line_feed, split, equal}
use Rattle.motion_file.specs.Layout.{Line, fits, conforms, max_bytes}
use Rattle.motion_file.specs.means.Place.{line_length, line_at, past_end, after_line, through, lines_through}
use Rattle.motion_file.proofs.Pieces.{position-end, split-cut, split-whole, split-first}

-- the text from a place on: a line and what stands behind its line feed, or one piece
lines_cut : (s : List ℕ) (at : ℕ) → at + line_length s at < length s
    → split line_feed (drop at s) ≡ line_at s at ∷ split line_feed (drop (at + line_length s at + 1) s)
lines_cut s at h =
    let shift : at + suc (line_length s at) ≡ at + line_length s at + 1 = omega arith in
    split-cut line_feed (drop at s) (rw (length-drop at s) (omega arith)) ∙ rw (drop-drop (suc (line_length s at)) at s, shift)

line-whole : (s : List ℕ) (at : ℕ) → length s ≤ at + line_length s at → split line_feed (drop at s) ≡ drop at s ∷ []
line-whole s at h = split-whole line_feed (drop at s) (rw (length-drop at s) (omega arith))

-- the bytes between two places are the line
pub line-slice : (s : List ℕ) (at end : ℕ) → end ≡ at + line_length s at → take (end - at) (drop at s) ≡ line_at s at
line-slice s at end e = rw (e, add-sub_cancel_left at (line_length s at))

module _ (kind : Line) (s : List ℕ) (at : ℕ) where
  pub after-fits : (end : ℕ) → end ≡ at + line_length s at → fits kind (take (end - at) (drop at s)) ≡ true
      → cond (ltb end (length s)) (end + 1) past_end ≡ after_line kind s at
  unfolding after_line
  after-fits end e f = rw (rw (line-slice s at end e) at f, and-true, e)

  pub after-unfit : (end : ℕ) → end ≡ at + line_length s at → fits kind (take (end - at) (drop at s)) ≡ false
      → past_end ≡ after_line kind s at
  unfolding after_line
  after-unfit end e f = rw (rw (line-slice s at end e) at f, and-false)

  pub after-unended : (end : ℕ) → end ≡ at + line_length s at → length s ≤ end → past_end ≡ after_line kind s at
  unfolding after_line
  after-unended end e h = rw (le-ltb (at + line_length s at) (length s) (omega arith))

  -- a place at which a line of the kind stands
  pub record Stands : Type 0 where
    pub ends : at + line_length s at < length s
    pub next : after_line kind s at ≡ at + line_length s at + 1

  pub stands : length s ≤ max_bytes → after_line kind s at ≤ length s → Stands
  unfolding after_line
  stands m h = go (ltb (at + line_length s at) (length s)) (fits kind (line_at s at)) refl refl h
    where
      go : (p q : Bool) → ltb (at + line_length s at) (length s) ≡ p → fits kind (line_at s at) ≡ q
          → cond (p && q) (at + line_length s at + 1) past_end ≤ length s → Stands
      go true true d e h = record { ends = ltb-true (at + line_length s at) (length s) d; next = rw (d, e) }
      go true false d e h = absurd (omega arith)
      go false q d e h = absurd (omega arith)

  -- a line that stands is the first piece of the text from its place on
  pub lines_next : Stands → split line_feed (drop at s) ≡ line_at s at ∷ split line_feed (drop (after_line kind s at) s)
  lines_next t = rw t.next (lines_cut s at t.ends)

  -- past the end no line stands
  after-past : length s ≤ at → after_line kind s at ≡ past_end
  after-past h = sym (after-unended at (rw (position-end line_feed s at h) (omega arith)) h)

-- nothing is left exactly at the end of a text
nothing_ends : conforms [] (split line_feed []) ≡ true
unfolding conforms split equal
nothing_ends = refl

something-left : (b : ℕ) (t : List ℕ) → conforms [] (split line_feed (b ∷ t)) ≡ false
something-left b t = ⊎_elim whole cut (eq-or-lt_of_le (position-bound line_feed (b ∷ t)))
  where
    whole : position line_feed (b ∷ t) ≡ length (b ∷ t) → conforms [] (split line_feed (b ∷ t)) ≡ false
    whole e = rw (split-whole line_feed (b ∷ t) (omega arith)) (unfold conforms equal in refl)

    cut : position line_feed (b ∷ t) < length (b ∷ t) → conforms [] (split line_feed (b ∷ t)) ≡ false
    cut l = rw (split-cut line_feed (b ∷ t) l, (split-first line_feed (drop (position line_feed (b ∷ t)) t)).1) (unfold conforms in rw (eqb-suc-zero, and-false))

no_lines : (kinds : List Line) → conforms kinds [] ≡ false
unfolding conforms
no_lines [] = refl
no_lines (kind ∷ kinds) = refl

pub through-append : (kinds more : List Line) (s : List ℕ) (at : ℕ) → through (kinds ++ more) s at ≡ through more s (through kinds s at)
unfolding through
through-append [] more s at = refl
through-append (kind ∷ kinds) more s at = through-append kinds more s (after_line kind s at)

pub lines-append : (kinds more : List Line) (s : List ℕ) (at : ℕ)
    → lines_through (kinds ++ more) s at ≡ lines_through kinds s at ++ lines_through more s (through kinds s at)
unfolding through lines_through
lines-append [] more s at = refl
lines-append (kind ∷ kinds) more s at = ap (λ (ls : List (List ℕ)). line_at s at ∷ ls) (lines-append kinds more s (after_line kind s at))

pub lines-length : (kinds : List Line) (s : List ℕ) (at : ℕ) → length (lines_through kinds s at) ≡ length kinds
unfolding lines_through
lines-length [] s at = refl
lines-length (kind ∷ kinds) s at = ap suc (lines-length kinds s (after_line kind s at))

-- several lines of one kind, as a loop leads through them: i of them are behind it
module _ (kind : Line) (s : List ℕ) (count i at : ℕ) where
  abbrev pub place_from : ℕ
  place_from = through (replicate (count - i) kind) s at

  abbrev pub lines_from : List (List ℕ)
  lines_from = lines_through (replicate (count - i) kind) s at

  one_more : i < count → count - i ≡ suc (count - (i + 1))
  one_more h = omega (arith, h)

  pub place-next : i < count → place_from ≡ through (replicate (count - (i + 1)) kind) s (after_line kind s at)
  unfolding through
  place-next h = rw (one_more h)

  pub lines-from-next : i < count → lines_from ≡ line_at s at ∷ lines_through (replicate (count - (i + 1)) kind) s (after_line kind s at)
  unfolding lines_through
  lines-from-next h = rw (one_more h)

  none_left : count ≤ i → count - i ≡ 0
  none_left h = omega (arith, h)

  pub place_end : count ≤ i → place_from ≡ at
  unfolding through
  place_end h = rw (none_left h)

  pub lines-from-end : count ≤ i → lines_from ≡ []
  unfolding lines_through
  lines-from-end h = rw (none_left h)

module _ (s : List ℕ) (m : length s ≤ max_bytes) where
  through-past : (kinds : List Line) (at : ℕ) → length s < at → length s < through kinds s at
  unfolding through
  through-past [] at h = h
  through-past (kind ∷ kinds) at h = through-past kinds (after_line kind s at) (rw (after-past kind s at (omega arith)) (omega arith))

  refused : (kinds : List Line) (at : ℕ) → at ≡ past_end → eqb (through kinds s at) (length s) ≡ false
  refused kinds at e = ne_eqb (through kinds s at) (length s) (omega (arith, through-past kinds at (omega arith)))

  -- a file keeps a layout exactly where its lines lead to its end
  pub through-conforms : (kinds : List Line) (at : ℕ) → at ≤ length s
      → conforms kinds (split line_feed (drop at s)) ≡ eqb (through kinds s at) (length s)
  unfolding through conforms after_line
  through-conforms [] at h = ⊎_elim whole more (eq-or-lt_of_le h)
    where
      whole : at ≡ length s → conforms [] (split line_feed (drop at s)) ≡ eqb at (length s)
      whole e = rw (eq-eqb at (length s) e, drop_of_length-le s {i = at} (omega arith), nothing_ends)

      more : at < length s → conforms [] (split line_feed (drop at s)) ≡ eqb at (length s)
      more l = rw (ne_eqb at (length s) (omega arith), drop-cons s at 0 l) (something-left (get_or s at 0) (drop (suc at) s))
  through-conforms (kind ∷ kinds) at h = go (ltb (at + line_length s at) (length s)) (fits kind (line_at s at)) refl refl (through-conforms kinds)
    where
      go : (p q : Bool) → ltb (at + line_length s at) (length s) ≡ p → fits kind (line_at s at) ≡ q
          → ((next : ℕ) → next ≤ length s → conforms kinds (split line_feed (drop next s)) ≡ eqb (through kinds s next) (length s))
          → conforms (kind ∷ kinds) (split line_feed (drop at s)) ≡ eqb (through kinds s (after_line kind s at)) (length s)
      go true true d e ih =
          let l : at + line_length s at < length s = ltb-true (at + line_length s at) (length s) d in
          rw (d, lines_cut s at l, e) (ih (at + line_length s at + 1) (omega arith))
      go true false d e ih =
          rw (d, lines_cut s at (ltb-true (at + line_length s at) (length s) d), e) (sym (refused kinds past_end refl))
      go false q d e ih =
          rw (d, line-whole s at (ltb-false (at + line_length s at) (length s) d), no_lines kinds, and-false) (sym (refused kinds past_end refl))

  -- lines that lead to a place in the file begin in it
  pub through-begins : (kinds : List Line) (at : ℕ) → through kinds s at ≤ length s → at ≤ length s
  through-begins kinds at h = go (leb at (length s)) refl
    where
      go : (b : Bool) → leb at (length s) ≡ b → at ≤ length s
      go true e = leb-true at (length s) e
      go false e = absurd (omega (arith, h, through-past kinds at (leb-false at (length s) e)))

  -- where they lead to a place in the file, they are its pieces up to there
  pub pieces-through : (kinds : List Line) (at : ℕ) → through kinds s at ≤ length s
      → split line_feed (drop at s) ≡ lines_through kinds s at ++ split line_feed (drop (through kinds s at) s)
  unfolding through lines_through
  pieces-through [] at h = refl
  pieces-through (kind ∷ kinds) at h =
      let t = stands kind s at m (through-begins kinds (after_line kind s at) h) in
      lines_next kind s at t ∙ ap (λ (ls : List (List ℕ)). line_at s at ∷ ls) (pieces-through kinds (after_line kind s at) h)
