pub mod Poses
pub use Rattle.chain_poses.specs.animated_transform
pub use Rattle.chain_poses.specs.bounds3
pub use Rattle.chain_poses.specs.bounds_answers
pub use Rattle.chain_poses.specs.bounds_query
pub use Rattle.chain_poses.specs as chain_poses
pub use Rattle.chain_poses.specs.lent_arrays
pub use Rattle.chain_poses.specs.motion_chain
pub use Rattle.chain_poses.specs.motion_cover
pub use Rattle.chain_poses.specs.motion_point
pub use Rattle.chain_poses.specs.pose_pair
pub use Rattle.chain_poses.specs.refusal_below as refusal
pub use Rattle.chain_poses.specs.transform
