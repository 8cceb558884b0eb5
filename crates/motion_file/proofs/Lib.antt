pub mod Pieces
pub mod Room
pub mod Lines
pub mod Files
pub mod Shapes
pub use Rattle.hexadecimal.proofs as hexadecimal
