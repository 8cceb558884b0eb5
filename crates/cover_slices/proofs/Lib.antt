pub mod Reached
pub mod Groups
