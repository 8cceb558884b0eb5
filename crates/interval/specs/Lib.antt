pub mod Contains
pub mod Interval
pub mod Judged
pub mod Enclosure
pub mod Extension
pub mod means
pub use Rattle.float32.specs as float32
pub use Rattle.square_root.specs.float_bits
pub use Rattle.refusal.specs as refusal
pub use Rattle.float32.specs.rounding
pub use Rattle.trig.specs.sine_table
pub use Rattle.square_root.specs as square_root
pub use Rattle.trig.specs as trig
