-- A text of floats read one by one: `read-on` and `stored_on`, one float more; `read_off` and `stored-off`, a malformed one; `fit` where the
-- sizes fit, `few` and `other-size` where they do not.
use Rattle.std.specs.Prelude.{Some, None}
use Prim.Native.Nat.{ℕ, suc, ◌+◌, ◌-◌, ◌*◌, ◌≤◌, ◌<◌}
use native.Mathlib.Numerals.{add-one}
use native.Mathlib.Omega.{arith}
use mathlib.Core.Path.{◌≡◌, refl, sym, ◌∙◌, ap}
use mathlib.Core.Bool.{Bool, true, false}
use mathlib.Core.List.{List}
use lib.Ieee.{Float, binary32, of_bits}
use lib.ListN.{length, set}
use borrow.Author.Tests.{le-leb, lt-leb, eq-eqb, ne_eqb}
use Rattle.question_lines.specs.Words.{Float-read, floats_from, stored_from, Floats-read, Floats-stored}

module _ (text : List ℕ) (values : List Float) (count k : ℕ) (h : k < count) where
  one_less : count - k ≡ suc (count - (k + 1))
  one_less = omega arith

  pub read-on : (bits : ℕ) → Float-read text (9 * k) ≡ Some bits → floats_from (count - k) k text ≡ floats_from (count - (k + 1)) (k + 1) text
  unfolding floats_from
  read-on bits e = ap (λ (n : ℕ). floats_from n k text) one_less ∙ rw (e, add-one k)

  pub stored_on : (bits : ℕ) → Float-read text (9 * k) ≡ Some bits
      → stored_from (count - k) k text values ≡ stored_from (count - (k + 1)) (k + 1) text (set values k (of_bits binary32 bits))
  unfolding stored_from
  stored_on bits e = ap (λ (n : ℕ). stored_from n k text values) one_less ∙ rw (e, add-one k)

  pub read_off : Float-read text (9 * k) ≡ None → false ≡ floats_from (count - k) k text
  unfolding floats_from
  read_off e = sym (ap (λ (n : ℕ). floats_from n k text) one_less ∙ rw e)

  pub stored-off : Float-read text (9 * k) ≡ None → values ≡ stored_from (count - k) k text values
  unfolding stored_from
  stored-off e = sym (ap (λ (n : ℕ). stored_from n k text values) one_less ∙ rw e)

pub read-end : (text : List ℕ) (k : ℕ) → true ≡ floats_from 0 k text
unfolding floats_from
read-end text k = refl

pub stored-end : (text : List ℕ) (values : List Float) (k : ℕ) → values ≡ stored_from 0 k text values
unfolding stored_from
stored-end text values k = refl

module _ (text : List ℕ) (count : ℕ) (values : List Float) where
  -- what `read_floats` gives
  abbrev pub Reads : Bool → List Float → Type 0
  Reads r after = (r ≡ Floats-read text count values) × (after ≡ Floats-stored text count values)

  pub fit : (r : Bool) (after : List Float) → count ≤ length values → length text ≡ 9 * count
      → r ≡ floats_from count 0 text → after ≡ stored_from count 0 text values → Reads r after
  unfolding Floats-read Floats-stored
  fit r after h e a b = rw (le-leb count (length values) h, eq-eqb (length text) (9 * count) e) (a, b)

  pub few : length values < count → Reads false values
  unfolding Floats-read Floats-stored
  few h = rw (lt-leb count (length values) h) (refl, refl)

  pub other-size : count ≤ length values → (length text ≡ 9 * count → ⊥) → Reads false values
  unfolding Floats-read Floats-stored
  other-size h n = rw (le-leb count (length values) h, ne_eqb (length text) (9 * count) n) (refl, refl)
