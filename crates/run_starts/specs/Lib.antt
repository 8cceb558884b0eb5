pub mod Booms
pub mod means
pub use Rattle.bounds_query.specs as bounds_query
pub use Rattle.run_schedule.specs as run_schedule
