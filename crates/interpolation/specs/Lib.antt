pub mod Interpolate
pub mod Promise
pub mod means
pub use Rattle.animated_transform.specs as animated_transform
