pub mod Number
pub use Rattle.animated_transform.specs as animated_transform
pub use Rattle.chain_poses.specs as chain_poses
pub use Rattle.lent_arrays.specs as lent_arrays
pub use Rattle.lent_arrays.specs.matrix4x4
pub use Rattle.chain_poses.specs.motion_chain
pub use Rattle.chain_poses.specs.motion_cover
pub use Rattle.lent_arrays.specs.pose_pair
pub use Rattle.animated_transform.specs.refusal
pub use Rattle.lent_arrays.specs.transform
