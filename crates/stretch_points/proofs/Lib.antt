-- Laws of a stretch of times.
pub mod Fill
pub mod Pass
pub mod Between
pub use Rattle.motion_rows.proofs as motion_rows
