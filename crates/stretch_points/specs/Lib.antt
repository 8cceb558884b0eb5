pub mod Points
pub mod means
pub use Rattle.motion_rows.specs as motion_rows
