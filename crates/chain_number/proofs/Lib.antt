pub mod ChainNumber
pub use Rattle.chain_poses.proofs.bounds_answers
pub use Rattle.chain_poses.proofs as chain_poses
pub use Rattle.chain_poses.proofs.motion_chain
pub use Rattle.chain_poses.proofs.motion_cover
pub use Rattle.animated_transform.proofs.refusal
