pub mod Meets
pub use Rattle.bounds3.specs as bounds3
pub use Rattle.bounds3.specs.float32
