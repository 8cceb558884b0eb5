pub mod First
pub mod Number
pub mod Outcome
