pub mod Decode
pub mod Fields
pub mod Fixed
pub use Rattle.rounding.proofs as rounding
