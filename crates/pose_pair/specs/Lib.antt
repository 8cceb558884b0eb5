pub mod Pose
pub mod means
pub use Rattle.rigid_pose.specs.bounds3
pub use Rattle.matrix4x4.specs as matrix4x4
pub use Rattle.rigid_pose.specs.transform
