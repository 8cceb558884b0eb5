pub mod Windows
pub mod Theorem
pub mod Numbers
pub use Rattle.chain_window.specs.bounds_answers
pub use Rattle.chain_window.specs.bounds_query
pub use Rattle.chain_window.specs as chain_window
pub use Rattle.chain_window.specs.motion_chain
pub use Rattle.chain_window.specs.motion_cover
pub use Rattle.chain_window.specs.motion_pad
pub use Rattle.bounds_meeting.specs.refusal
pub use Rattle.tick_list.specs as tick_list
pub use Rattle.chain_window.specs.window_times
