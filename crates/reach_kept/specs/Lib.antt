pub mod Kept
pub mod means
pub use Rattle.reached_rows.specs.chain_window
pub use Rattle.reach_window.specs.reach_laws
pub use Rattle.reached_rows.specs as reached_rows
pub use Rattle.reached_rows.specs.window_cover
pub use Rattle.reached_rows.specs.window_meetings
pub use Rattle.reached_rows.specs.window_pairs
pub use Rattle.window_times.specs as window_times
