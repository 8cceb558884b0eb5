-- The language of formulas: expressions over numbered variables, and straight-line programs that name values and give several back. Definitions only.
-- A program reads like the Rust's lines: `do xx ← x ⊗ x; yy ← y ⊗ y; give (one ⊖ two ⊗ (xx ⊕ yy) ∷ [])`. A named value is worked out once.
-- Variables are numbered from 0 in the order in which they are bound, a program's inputs first, so that a variable keeps its number.
use Rattle.std.specs.Prelude.{ℕ, List, Float}

pub data Binary : Type 0 where
  sum difference product quotient : Binary

pub data Unary : Type 0 where
  root sine cosine : Unary

pub data Expr : Type 0 where
  var : ℕ → Expr
  con : Float → Expr
  binary : Binary → Expr → Expr → Expr
  unary : Unary → Expr → Expr

-- Work out a value and go on with its name, or give values back.
infixl 1 ◌>>=◌
pub data Program : Type 0 where
  ◌>>=◌ : Expr → (Expr → Program) → Program
  give : List Expr → Program

-- ---- the operators bind as the Rust's do
infixl 75 ◌⊕◌ ◌⊖◌
infixl 80 ◌⊗◌ ◌⊘◌
abbrev pub ◌⊕◌ : Expr → Expr → Expr
◌⊕◌ a b = binary sum a b

abbrev pub ◌⊖◌ : Expr → Expr → Expr
◌⊖◌ a b = binary difference a b

abbrev pub ◌⊗◌ : Expr → Expr → Expr
◌⊗◌ a b = binary product a b

abbrev pub ◌⊘◌ : Expr → Expr → Expr
◌⊘◌ a b = binary quotient a b

abbrev pub sqrt : Expr → Expr
sqrt a = unary root a

abbrev pub sin : Expr → Expr
sin a = unary sine a

abbrev pub cos : Expr → Expr
cos a = unary cosine a
