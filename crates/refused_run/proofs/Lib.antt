pub mod Least
pub mod ShortRun
pub mod Search
pub mod Lent
pub use Rattle.chain_number.proofs.bounds_answers
pub use Rattle.chain_number.proofs.motion_chain
pub use Rattle.chain_number.proofs.motion_cover
