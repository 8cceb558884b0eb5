-- The definition of the square root, the words of its laws, and those of the code's steps.
pub mod SquareRoot
pub mod Nearest
pub mod means
pub use Rattle.float_bits.specs as float_bits
pub use Rattle.float_bits.specs.rounding
