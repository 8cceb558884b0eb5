pub mod means
pub use Rattle.interval.specs.float32
pub use Rattle.formula.specs as formula
pub use Rattle.interval.specs as interval
pub use Rattle.interval.specs.refusal
pub use Rattle.interval.specs.sine_table
pub use Rattle.square_root.specs as square_root
pub use Rattle.interval.specs.trig
