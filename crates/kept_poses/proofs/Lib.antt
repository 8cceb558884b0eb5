pub mod Row
pub use Rattle.built_poses.proofs.bounds_answers
pub use Rattle.built_poses.proofs as built_poses
pub use Rattle.built_poses.proofs.motion_chain
