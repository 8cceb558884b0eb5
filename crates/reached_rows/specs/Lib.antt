pub mod Rows
pub mod Theorem
pub mod means
pub use Rattle.window_pairs.specs.bounds_answers
pub use Rattle.bounds_overlap.specs as bounds_overlap
pub use Rattle.window_pairs.specs.chain_rows
pub use Rattle.window_pairs.specs.chain_window
pub use Rattle.window_pairs.specs.motion_chain
pub use Rattle.window_pairs.specs.refusal_below
pub use Rattle.window_pairs.specs.window_cover
pub use Rattle.window_pairs.specs.window_meetings
pub use Rattle.window_pairs.specs as window_pairs
