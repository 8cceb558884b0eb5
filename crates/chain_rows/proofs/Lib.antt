-- Laws of kept chains.
pub mod Search
pub mod Kept
pub mod Contains
pub use Rattle.motion_chain.proofs.bounds_answers
pub use Rattle.motion_chain.proofs.cover_depth
pub use Rattle.motion_chain.proofs as motion_chain
pub use Rattle.motion_chain.proofs.motion_cover
