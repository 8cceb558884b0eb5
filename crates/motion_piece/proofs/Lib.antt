pub mod Piece
pub use Rattle.motion_pad.proofs.bounds_query
pub use Rattle.motion_cover.proofs as motion_cover
pub use Rattle.motion_pad.proofs as motion_pad
