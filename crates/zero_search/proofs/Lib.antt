pub mod Clauses
pub mod Examined
pub mod Stored
mod Cases
pub use Rattle.trig.proofs.float32
pub use Rattle.trig.proofs.float_bits
pub use Rattle.interval.proofs as interval
pub use Rattle.trig.proofs.rounding
pub use Rattle.trig.proofs as trig
