pub mod Join
pub mod Theorem
