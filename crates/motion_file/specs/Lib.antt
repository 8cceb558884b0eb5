pub mod Text
pub mod Layout
pub mod Front
pub mod means
pub use Rattle.bounds3.specs as bounds3
pub use Rattle.hexadecimal.specs as hexadecimal
pub use Rattle.matrix4x4.specs as matrix4x4
