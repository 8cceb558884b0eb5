pub mod means
pub use Rattle.alike.specs as alike
pub use Rattle.alike.specs.float32
pub use Rattle.alike.specs.formula
pub use Rattle.alike.specs.interval
pub use Rattle.alike.specs.interval_unjudged
pub use Rattle.alike.specs.rounding
pub use Rattle.alike.specs.trig
