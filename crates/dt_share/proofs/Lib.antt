pub mod Between
pub mod Limits
pub mod DtShare
pub mod Pieces
pub use Rattle.interval.proofs as interval
pub use Rattle.interval.proofs.refusal
pub use Rattle.float32.proofs.rounding
pub use Rattle.unit_interval.proofs as unit_interval
