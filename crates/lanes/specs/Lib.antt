pub mod means
pub use Rattle.interval.specs as interval
pub use Rattle.interval_unjudged.specs as interval_unjudged
