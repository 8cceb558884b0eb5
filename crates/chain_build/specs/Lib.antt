pub mod Build
pub mod means
pub use Rattle.animated_transform.specs as animated_transform
pub use Rattle.chain_poses.specs as chain_poses
pub use Rattle.chain_rows.specs as chain_rows
pub use Rattle.chain_poses.specs.motion_chain
pub use Rattle.chain_poses.specs.motion_cover
pub use Rattle.chain_rows.specs.pad_query
