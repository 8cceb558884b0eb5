pub mod means
pub use Rattle.dt_pieces.specs as dt_pieces
