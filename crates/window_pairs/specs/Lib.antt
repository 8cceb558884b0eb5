pub mod Kept
pub mod means
pub use Rattle.window_meetings.specs.bounds_answers
pub use Rattle.window_cover.specs.chain_rows
pub use Rattle.window_meetings.specs.chain_window
pub use Rattle.window_meetings.specs.motion_chain
pub use Rattle.window_meetings.specs.motion_cover
pub use Rattle.window_meetings.specs.motion_pad
pub use Rattle.bounds_meeting.specs.refusal as refusal_below
pub use Rattle.window_cover.specs as window_cover
pub use Rattle.window_meetings.specs as window_meetings
