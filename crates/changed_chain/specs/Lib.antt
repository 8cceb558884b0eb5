pub mod Trial
pub mod Beside
pub use Rattle.built_poses.specs.animated_transform
pub use Rattle.built_poses.specs as built_poses
pub use Rattle.built_poses.specs.chain_poses
pub use Rattle.built_poses.specs.lent_arrays
pub use Rattle.built_poses.specs.motion_chain
pub use Rattle.built_poses.specs.motion_cover
pub use Rattle.built_poses.specs.pose_pair
