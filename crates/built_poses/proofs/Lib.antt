pub mod Built
pub mod Lists
pub use Rattle.chain_poses.proofs.bounds_answers
pub use Rattle.chain_poses.proofs as chain_poses
pub use Rattle.chain_poses.proofs.motion_chain
pub use Rattle.chain_poses.proofs.refusal_below as refusal
