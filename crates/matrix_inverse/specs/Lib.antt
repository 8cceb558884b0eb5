pub mod Pivot
pub mod Eliminate
pub mod RestoreColumns
pub mod Inverse
pub mod means
pub use Rattle.control_flow.specs as control_flow
