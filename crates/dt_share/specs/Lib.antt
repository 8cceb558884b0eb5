pub mod Share
pub mod means
pub use Rattle.float32.specs as float32
pub use Rattle.interval.specs as interval
pub use Rattle.midpoint.specs.own_rounding
pub use Rattle.interval.specs.refusal
pub use Rattle.float32.specs.rounding
pub use Rattle.interval.specs.trig
pub use Rattle.unit_interval.specs as unit_interval
