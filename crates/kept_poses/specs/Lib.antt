pub mod means
pub use Rattle.motion_rows.specs.animated_transform
pub use Rattle.built_poses.specs.bounds_query
pub use Rattle.built_poses.specs as built_poses
pub use Rattle.built_poses.specs.chain_poses
pub use Rattle.built_poses.specs.motion_chain
pub use Rattle.motion_rows.specs as motion_rows
