-- Laws of a day of booms.
pub mod Places
pub mod Tick
pub mod State
pub mod Keeps
pub mod Accepted
pub mod Cases
pub use Rattle.bounds_query.proofs as bounds_query
pub use Rattle.bounds_query.proofs.control_flow
pub use Rattle.bounds_query.proofs.transform
