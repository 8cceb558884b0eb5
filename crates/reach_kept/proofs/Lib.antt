pub mod Masks
pub mod Finding
pub mod Judged
pub mod Kept
pub mod Numbers
pub use Rattle.reached_rows.proofs.chain_window
pub use Rattle.reach_window.proofs.reach_laws
pub use Rattle.reached_rows.proofs as reached_rows
pub use Rattle.reached_rows.proofs.window_cover
pub use Rattle.reached_rows.proofs.window_meetings
pub use Rattle.reached_rows.proofs.window_pairs
