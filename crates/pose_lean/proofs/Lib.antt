pub mod Stages
pub mod Slerp
pub mod Pose
pub mod Values
pub use Rattle.formula_lean.proofs.alike
pub use Rattle.pose_slerp.proofs.bounds3
pub use Rattle.formula_lean.proofs as formula_lean
pub use Rattle.formula_lean.proofs.interval_unjudged
pub use Rattle.pose_slerp.proofs.pose_steps
