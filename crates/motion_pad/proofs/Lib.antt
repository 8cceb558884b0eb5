pub mod Pad
pub mod Box
pub mod Zeros
mod Tested
mod Steps
mod Unjudged
pub use Rattle.bounds_query.proofs as bounds_query
