pub mod Union
pub mod Places
pub mod Clauses
pub mod Number
pub use Rattle.box_set.proofs as box_set
