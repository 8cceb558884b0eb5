-- Definitions of a rigid pose.
pub mod Rigid
pub mod means
pub use Rattle.transform.specs.bounds3
pub use Rattle.transform.specs as transform
