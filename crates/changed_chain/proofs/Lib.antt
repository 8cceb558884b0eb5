pub mod Window
pub mod Changed
pub use Rattle.built_poses.proofs.bounds_answers
pub use Rattle.built_poses.proofs.chain_poses
pub use Rattle.built_poses.proofs.motion_chain
