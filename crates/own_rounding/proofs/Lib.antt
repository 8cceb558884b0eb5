pub mod OwnRounding
pub use Rattle.float32.proofs as float32
pub use Rattle.float_bits.proofs as float_bits
pub use Rattle.float32.proofs.rounding
