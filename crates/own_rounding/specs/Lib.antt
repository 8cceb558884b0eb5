pub mod means
pub use Rattle.float32.specs as float32
pub use Rattle.float_bits.specs as float_bits
pub use Rattle.float32.specs.rounding
