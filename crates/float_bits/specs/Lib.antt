pub mod Decode
pub use Rattle.rounding.specs as rounding
