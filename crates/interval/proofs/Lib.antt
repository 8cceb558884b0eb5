pub mod Contains
pub mod Finite
pub mod Refusal
pub mod Extends
pub mod Isotone
pub mod Angles
pub mod Places
mod Ends
pub mod Divisor
pub mod Points
pub mod InOrder
mod Cases
pub use Rattle.float32.proofs as float32
pub use Rattle.square_root.proofs.float_bits
pub use Rattle.refusal.proofs as refusal
pub use Rattle.float32.proofs.rounding
pub use Rattle.trig.proofs as trig
