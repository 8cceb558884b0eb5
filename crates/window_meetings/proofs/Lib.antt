pub mod Listed
pub mod Numbers
pub mod Apart
pub mod Finer
pub mod Cases
pub use Rattle.chain_window.proofs.bounds_answers
pub use Rattle.chain_window.proofs.bounds_query
pub use Rattle.chain_window.proofs as chain_window
pub use Rattle.chain_window.proofs.cover_depth
pub use Rattle.chain_window.proofs.motion_chain
pub use Rattle.chain_window.proofs.motion_cover
pub use Rattle.bounds_meeting.proofs.refusal
