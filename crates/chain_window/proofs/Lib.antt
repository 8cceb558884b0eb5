pub mod Members
pub mod Parts
pub mod Boxes
pub mod Numbers
pub mod Contains
pub mod Finer
pub use Rattle.motion_chain.proofs.bounds_answers
pub use Rattle.motion_chain.proofs.bounds_query
pub use Rattle.motion_chain.proofs.cover_depth
pub use Rattle.motion_chain.proofs as motion_chain
pub use Rattle.motion_chain.proofs.motion_cover
