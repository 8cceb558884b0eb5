pub mod Search
pub mod Stored
pub mod means
pub use Rattle.trig.specs.float32
pub use Rattle.trig.specs.float_bits
pub use Rattle.interval.specs as interval
pub use Rattle.motion_derivative.specs as motion_derivative
pub use Rattle.trig.specs.rounding
pub use Rattle.trig.specs as trig
pub use Rattle.zero_list.specs as zero_list
