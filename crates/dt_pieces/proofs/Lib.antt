pub mod Halves
pub use Rattle.bounds_answers.proofs as bounds_answers
pub use Rattle.motion_piece.proofs.motion_cover
pub use Rattle.motion_piece.proofs.motion_pad
pub use Rattle.motion_piece.proofs as motion_piece
