pub mod Operators
pub mod Abs
pub mod MinMax
pub mod Lerp
pub mod Clamp
pub use Rattle.rounding.specs as rounding
