pub mod Rows
pub mod Zero
pub mod BottomRow
pub use Rattle.float32.proofs as float32
pub use Rattle.float32.proofs.rounding
