pub mod Kept
pub mod means
pub use Rattle.chain_rows.specs as chain_rows
pub use Rattle.chain_window.specs as chain_window
