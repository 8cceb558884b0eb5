pub mod Kept
pub use Rattle.interpolation.proofs as interpolation
pub use Rattle.motion_rows.proofs as motion_rows
