pub mod Rows
pub mod Theorem
pub mod means
