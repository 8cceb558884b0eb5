pub mod Poses
pub mod Walk
pub mod Number
pub mod Names
pub mod Clauses
pub use Rattle.reach_laws.proofs as reach_laws
