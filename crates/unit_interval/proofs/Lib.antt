pub mod Slices
pub mod DtUnit
mod Cases
pub use Rattle.interval.proofs as interval
