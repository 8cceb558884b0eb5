pub mod Try
pub mod Theorem
pub mod means
pub use Rattle.changed_chain.specs as changed_chain
