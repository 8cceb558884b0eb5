pub mod Rows
pub mod Transpose
pub mod Mul
pub mod Eq
pub mod IsFinite
pub mod IsAffine
pub mod means
pub use Rattle.float32.specs as float32
pub use Rattle.float32.specs.rounding
