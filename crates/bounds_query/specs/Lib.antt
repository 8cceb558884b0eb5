pub mod Query
pub mod Zeros
pub mod Same
pub mod means
pub use Rattle.bounds3.specs as bounds3
pub use Rattle.bounds3.specs.float32
pub use Rattle.transform.specs.matrix4x4
pub use Rattle.bounds3.specs.rounding
pub use Rattle.transform.specs as transform
