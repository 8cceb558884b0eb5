pub mod Unjudged
pub use Rattle.pose_steps.proofs as pose_steps
