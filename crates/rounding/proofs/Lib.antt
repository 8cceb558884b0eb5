-- Laws of the order of floats and of rounding to nearest, over every format of lib.Ieee.
pub mod Rational
pub mod Order
pub mod Monotone
pub mod Arithmetic
pub mod Corners
pub mod HalfUnits
pub mod Encoding
pub mod Nearest
