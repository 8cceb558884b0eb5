pub mod Loop
pub mod Kept
pub use Rattle.window_meetings.proofs.bounds_answers
pub use Rattle.window_cover.proofs.chain_rows
pub use Rattle.window_meetings.proofs.chain_window
pub use Rattle.window_meetings.proofs.motion_chain
pub use Rattle.bounds_meeting.proofs.refusal as refusal_below
pub use Rattle.window_cover.proofs as window_cover
pub use Rattle.window_meetings.proofs as window_meetings
