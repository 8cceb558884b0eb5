pub mod means
pub use Rattle.own_rounding.specs.float32
pub use Rattle.interval_unjudged.specs.formula
pub use Rattle.interval_unjudged.specs.interval
pub use Rattle.interval_unjudged.specs as interval_unjudged
pub use Rattle.interval_unjudged.specs.refusal
pub use Rattle.own_rounding.specs.rounding
pub use Rattle.interval_unjudged.specs.square_root
pub use Rattle.interval_unjudged.specs.trig
