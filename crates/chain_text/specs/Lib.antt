pub mod Write
pub mod Theorem
pub mod means
pub use Rattle.kept_poses.specs.built_poses
pub use Rattle.file_text.specs as file_text
