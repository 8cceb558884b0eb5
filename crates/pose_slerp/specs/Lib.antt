pub mod means
pub use Rattle.pose_steps.specs.bounds3
pub use Rattle.pose_steps.specs.control_flow
pub use Rattle.pose_steps.specs.matrix4x4
pub use Rattle.pose_steps.specs as pose_steps
pub use Rattle.quaternion.specs as quaternion
pub use Rattle.pose_steps.specs.transform
pub use Rattle.pose_steps.specs.unit_interval
pub use Rattle.vector3.specs as vector3
