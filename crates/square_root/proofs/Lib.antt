-- Laws of the square root, and the proofs of the code.
pub mod FloorSqrt
pub mod Heron
pub mod Sticky
pub mod RoundSqrt
pub mod Monotone
pub mod Nearest
pub mod Bits
pub mod Tests
pub mod Cases
pub use Rattle.float_bits.proofs as float_bits
