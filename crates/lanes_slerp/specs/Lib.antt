pub mod means
pub use Rattle.pose_lean.specs as pose_lean
pub use Rattle.pose_lean.specs.pose_steps
