-- The first of two refusals: document 01, Refusals, "whichever is met first in working order". A refusal is its number, 0 being none. Definitions only.
use Rattle.std.specs.Prelude.{ℕ, cond, eqb}

abbrev pub first_refusal : ℕ → ℕ → ℕ
first_refusal a b = cond (eqb a 0) b a
