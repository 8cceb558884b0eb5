pub mod Constants
pub mod Tests
pub mod MinMax
pub use Rattle.rounding.proofs as rounding
