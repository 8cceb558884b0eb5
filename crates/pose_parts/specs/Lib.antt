pub mod means
pub use Rattle.pose_steps.specs as pose_steps
