pub mod means
pub use Rattle.cover_lean.specs as cover_lean
pub use Rattle.cover_lean.specs.pose_lean
