pub mod Put
pub mod Answer
pub use Rattle.chain_poses.proofs as chain_poses
pub use Rattle.chain_rows.proofs as chain_rows
pub use Rattle.chain_poses.proofs.motion_chain
