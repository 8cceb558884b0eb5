pub mod means
pub use Rattle.bounds_query.specs as bounds_query
pub use Rattle.motion_piece.specs.motion_cover
