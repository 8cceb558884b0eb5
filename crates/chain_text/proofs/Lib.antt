-- Laws of the text of a kept chain.
pub mod Parts
pub mod Lines
pub mod Floats
pub mod Pieces
pub mod Kept
pub mod Clauses
pub use Rattle.kept_poses.proofs.built_poses
pub use Rattle.file_text.proofs as file_text
