pub mod Held
pub mod Theorem
pub use Rattle.kept_poses.specs.built_poses
