pub mod Kept
pub mod Theorem
pub use Rattle.chain_rows.specs as chain_rows
pub use Rattle.interpolation.specs as interpolation
pub use Rattle.motion_rows.specs as motion_rows
pub use Rattle.chain_rows.specs.pad_query
