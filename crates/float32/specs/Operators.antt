-- Sum, difference, product and quotient of binary32 values, each correctly rounded, as operators: a definition then stands beside the Rust's line and
-- looks like it. They bind as the Rust's do, to the left, products before sums. lib.Ieee has the operations.
use Rattle.std.specs.Prelude.{Float}
use Rattle.std.specs.Float.{binary32}
use Rattle.std.specs.Float.Ieee.{of_bits, add, sub, mul, div}

infixl 75 ◌⊕◌ ◌⊖◌
infixl 80 ◌⊗◌ ◌⊘◌
abbrev pub ◌⊕◌ : Float → Float → Float
◌⊕◌ x y = add binary32 x y

abbrev pub ◌⊖◌ : Float → Float → Float
◌⊖◌ x y = sub binary32 x y

abbrev pub ◌⊗◌ : Float → Float → Float
◌⊗◌ x y = mul binary32 x y

abbrev pub ◌⊘◌ : Float → Float → Float
◌⊘◌ x y = div binary32 x y

-- The Rust's literals 0.0, 1.0, 2.0, 4.0 and 0.5.
abbrev pub positive_zero : Float
positive_zero = of_bits binary32 0

abbrev pub one : Float
one = of_bits binary32 0x3f800000

abbrev pub two : Float
two = of_bits binary32 0x40000000

abbrev pub four : Float
four = of_bits binary32 0x40800000

abbrev pub half : Float
half = of_bits binary32 0x3f000000
