pub mod means
pub use Rattle.pose_lean.specs as pose_lean
