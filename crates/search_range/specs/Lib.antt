pub mod Examined
pub mod Assertions
pub mod Far
