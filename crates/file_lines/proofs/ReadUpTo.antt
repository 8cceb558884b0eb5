-- A line of as many values as there are places, read into them up to a place: `ReadUpTo`, what is known there; `read-start`, `read_more` and `read-filled` lead
-- through the line, `read-formed`, `read-inside` and `read-spaced` say what must stand in it. Rests on `Values.antt`.
use Rattle.std.specs.Prelude.{Some, None}
use Prim.Native.Nat.{ℕ, suc, ◌+◌, ◌-◌, ◌≤◌, ◌<◌}
use native.Mathlib.Nat.{sub-zero, lt_of_not-le}
use native.Mathlib.Numerals.{add-one}
use native.Mathlib.Omega.{arith}
use mathlib.Core.Path.{◌≡◌, refl, sym, ◌∙◌, ap}
use mathlib.Core.Bool.{Bool, true, false, false≢true}
use mathlib.Core.List.{List, [], ◌∷◌, ◌++◌, map}
use lib.Dec.{eqb}
use lib.Ieee.{Float, binary32, of_bits}
use lib.ListN.{length, take, drop, get_or, set, length-set}
use lib.Seq.{take-suc-set, append_snoc, take_all}
use borrow.Author.Tests.{eqb-true, eqb-false}
use Rattle.hexadecimal.specs.Word.{Word-read}
use Rattle.motion_file.specs.Text.{space}
use Rattle.motion_file.specs.Layout.{words, value_of, are_values}
use Rattle.motion_file.specs.means.Place.{NextByte}
use Rattle.file_lines.proofs.Values.{values-none, values-malformed, values-more, values-next, values-last, values-short, values-unspaced, values-final}

-- k values of the line stand in `out`, and from a place on stand as many as it has places left
pub record ReadUpTo (line : List ℕ) (out : List Float) (at k : ℕ) : Type 0 where
  pub room : k < length out
  pub left : are_values (length out - k) (words (drop at line)) ≡ true
  pub held : map value_of (words line) ≡ take k out ++ map value_of (words (drop at line))

pub read-start : (line : List ℕ) (out : List Float) → are_values (length out) (words line) ≡ true → ReadUpTo line out 0 0
read-start line out h = record { room = lt_of_not-le none; left = rw (sub-zero (length out)) h; held = refl }
  where
    none : length out ≤ 0 → ⊥
    none g = let e : length out ≡ 0 = omega (arith, g) in false≢true (sym (values-none line) ∙ rw e at h)

module _ (line : List ℕ) (out : List Float) (at k : ℕ) (s : ReadUpTo line out at k) where
  pub read-formed : Word-read line at ≡ None → ⊥
  read-formed e = false≢true (sym (values-malformed line at (length out - k) e) ∙ s.left)

  module _ (n : ℕ) (e : Word-read line at ≡ Some n) where
    -- where another value follows, spaces stand before it
    pub read-inside : (k + 1 ≡ length out → ⊥) → at + 8 < length line
    read-inside m =
        lt_of_not-le
        (λ h. let c : length out - k ≡ suc (suc (length out - (k + 2))) = omega (arith, s.room, m) in
        false≢true (sym (values-short line at n e (length out - (k + 2)) h) ∙ rw c at s.left))

    pub read-spaced : at + 8 < length line → get_or line (at + 8) 0 ≡ space
    read-spaced l = go (eqb (get_or line (at + 8) 0) space) refl
      where
        go : (p : Bool) → eqb (get_or line (at + 8) 0) space ≡ p → get_or line (at + 8) 0 ≡ space
        go true f = eqb-true (get_or line (at + 8) 0) space f
        go false f =
            absurd (false≢true (sym (values-unspaced line at n e (length out - k) l (eqb-false (get_or line (at + 8) 0) space f)) ∙ s.left))

    module _ (x : Float) (v : x ≡ of_bits binary32 n) where
      stored : take (k + 1) (set out k x) ≡ take k out ++ (x ∷ [])
      stored = rw (add-one k) (take-suc-set out k x s.room)

      pub read-filled : k + 1 ≡ length out → set out k x ≡ map value_of (words line)
      read-filled h =
          let one : length out - k ≡ 1 = omega (arith, h) in
          let end = eqb-true (at + 8) (length line) (sym (values-final line at n e) ∙ rw one at s.left) in
          let whole : length (set out k x) ≤ k + 1 = rw (length-set out k x) (omega (arith, h)) in
          sym (take_all (k + 1) (set out k x) whole)
          ∙ stored
          ∙ rw v
          (sym (s.held ∙ ap (λ (r : List Float). take k out ++ r) (values-last line at n e (omega (arith, end)))))

      pub read_more : (next : ℕ) → (k + 1 ≡ length out → ⊥) → NextByte line (at + 8) next → ReadUpTo line (set out k x) next (k + 1)
      read_more next m b =
          let c : length out - k ≡ suc (length out - (k + 1)) = omega (arith, s.room) in
          let l = read-inside m in
          let f = read-spaced l in
          record {
            room = rw (length-set out k x) (omega (arith, s.room));
            left = rw (length-set out k x) (sym (values-more line at n e (length out - (k + 1)) next l f b) ∙ rw c at s.left);
            held =
                s.held
                ∙ ap (λ (r : List Float). take k out ++ r) (values-next line at n e next l f b)
                ∙ rw (stored, v) (sym (append_snoc (take k out) (of_bits binary32 n) (map value_of (words (drop next line)))));
          }
