-- Laws of rows that are reached.
pub mod Numbers
pub mod Loop
pub mod Apart
pub mod Cases
pub use Rattle.window_pairs.proofs.chain_rows
pub use Rattle.window_pairs.proofs.chain_window
pub use Rattle.window_pairs.proofs.motion_chain
pub use Rattle.window_pairs.proofs.refusal_below
pub use Rattle.window_pairs.proofs.window_cover
pub use Rattle.window_pairs.proofs.window_meetings
pub use Rattle.window_pairs.proofs as window_pairs
