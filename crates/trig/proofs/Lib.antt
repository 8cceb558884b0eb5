pub mod Units
pub mod Quarters
pub mod OverTable
pub mod Shift
pub mod Fixed
pub mod FromUnits
pub mod FirstQuarter
pub mod Values
pub mod Monotone
pub mod Range
pub use Rattle.float32.proofs as float32
pub use Rattle.float_bits.proofs as float_bits
pub use Rattle.float32.proofs.rounding
