pub mod Pad
pub mod Grow
pub mod means
pub use Rattle.bounds3.specs as bounds3
pub use Rattle.bounds_query.specs as bounds_query
pub use Rattle.transform.specs.matrix4x4
pub use Rattle.pose_steps.specs as pose_steps
pub use Rattle.transform.specs as transform
pub use Rattle.pose_steps.specs.unit_interval
