mod Combination
pub mod Near
pub mod Far
pub mod Arc
pub use Rattle.pose_steps.proofs.bounds3
pub use Rattle.pose_steps.proofs as pose_steps
